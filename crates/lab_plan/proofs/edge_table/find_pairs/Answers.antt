use Rattle.std.proofs.Common.{◌≡◌, ◌≤◌, ◌++◌, arith, sym, ◌∙◌, ap, length, filter, subst}
use Rattle.std.specs.List.{All}
use Rattle.std.proofs.lemmas.Result.{IfOk-from_err}
use Rattle.lab_plan.specs.NamedBy.{meet, row, rows}
use Rattle.lab_plan.specs.PairTables.{IsPair}
use Rattle.lab_plan.proofs.Few.{few_pairs, all_pairs}
use Rattle.lab_plan.proofs.Pairs.{kept_rows_more}
use Rattle.lab_plan.proofs.edge_table.find_pairs.Goals as goal

pub loop-low-init : goal.loop-low-init
loop-low-init g c = c.new-found.ensures.items

pub push_row-requires-clause-low : goal.push_row-requires-clause-low
push_row-requires-clause-low g c = omega (arith, c.loop-low-test.true, c.jobs-low-end.ensures)

pub push_row-requires-clause-jobs : goal.push_row-requires-clause-jobs
push_row-requires-clause-jobs g c = c.requires.jobs

pub push_row-requires-clause-instruments : goal.push_row-requires-clause-instruments
push_row-requires-clause-instruments g c = c.requires.instruments

pub returns-in_err-push_row-clause-found : goal.returns-in_err-push_row-clause-found
returns-in_err-push_row-clause-found g c = IfOk-from_err c.from_residual.result _ c.from_residual.ensures.0

pub returns-in_err-push_row-clause-few : goal.returns-in_err-push_row-clause-few
returns-in_err-push_row-clause-few g c = IfOk-from_err c.from_residual.result _ c.from_residual.ensures.0

pub returns-in_err-push_row-clause-pairs : goal.returns-in_err-push_row-clause-pairs
returns-in_err-push_row-clause-pairs g c = IfOk-from_err c.from_residual.result _ c.from_residual.ensures.0

pub loop-low-preserved : goal.loop-low-preserved
loop-low-preserved g c =
    let naming = c.args.naming.now in
    let p = meet naming.sets naming.instruments in
    let low = c.loop-low.low in
    c.in_ok-push_row.ensures ∙ ap (λ l. l ++ filter p (row low naming.jobs)) c.loop-low.invariant ∙ sym (kept_rows_more p naming.jobs low)

pub returns-clause-found : goal.returns-clause-found
returns-clause-found g c =
    let naming = c.args.naming.now in
    let end : c.loop-low.low ≡ naming.jobs = omega (arith, c.loop-low-test.false, c.loop-low.auto.low-end, c.jobs-low-end.ensures) in
    c.loop-low.invariant ∙ ap (λ n. filter (meet naming.sets naming.instruments) (rows naming.jobs n)) end

pub returns-clause-few : goal.returns-clause-few
returns-clause-few g c =
    let naming = c.args.naming.now in
    let end : c.loop-low.low ≡ naming.jobs = omega (arith, c.loop-low-test.false, c.loop-low.auto.low-end, c.jobs-low-end.ensures) in
    let is = c.loop-low.invariant ∙ ap (λ n. filter (meet naming.sets naming.instruments) (rows naming.jobs n)) end in
    subst (λ ps. length ps ≤ 496) (sym is) (few_pairs naming.sets naming.instruments naming.jobs c.requires.jobs)

pub returns-clause-pairs : goal.returns-clause-pairs
returns-clause-pairs g c =
    let naming = c.args.naming.now in
    let end : c.loop-low.low ≡ naming.jobs = omega (arith, c.loop-low-test.false, c.loop-low.auto.low-end, c.jobs-low-end.ensures) in
    let is = c.loop-low.invariant ∙ ap (λ n. filter (meet naming.sets naming.instruments) (rows naming.jobs n)) end in
    subst (λ ps. All IsPair ps) (sym is) (all_pairs naming.sets naming.instruments naming.jobs c.requires.jobs)
