use Rattle.std.proofs.Common.{◌≡◌, ℕ, List, [], ◌∷◌, ◌++◌, filter, arith, sym, ap, ◌∙◌}
use Rattle.std.specs.List.{range_with_len}
use Rattle.std.proofs.lemmas.Result.{IfOk-from_err}
use Rattle.lab_plan.specs.InstrumentSets.{both_in}
use Rattle.lab_plan.proofs.Ranges.{kept_yes, kept_no}
use Rattle.lab_plan.proofs.bottles.Bottles.new.Goals as goal
use Rattle.lab_plan.proofs.bottles.Bottles.new.Goals.{then-both_hold+in_ok-push, else-both_hold}

pub loop-i-init : goal.loop-i-init
loop-i-init g c = c.new-found.ensures.items

pub returns-in_err-push : goal.returns-in_err-push
returns-in_err-push g c = IfOk-from_err c.from_residual.result _ c.from_residual.ensures.0

pub returns : goal.returns
returns g c =
    let end : c.loop-i.i ≡ c.args.instruments = omega (arith, c.loop-i-test.false, c.loop-i.auto.i-end) in
    c.loop-i.invariant ∙ ap (λ (n : ℕ). filter (both_in c.args.first c.args.second) (range_with_len 0 n)) end

pub loop-i-preserved : goal.loop-i-preserved
loop-i-preserved g c =
    let p = both_in c.args.first c.args.second in
    let i = c.loop-i.i in
    elim c.if-both_hold.branch [
      | then-both_hold+in_ok-push w ↦
          let more = kept_yes p i (sym w.if-both_hold.true ∙ c.both_hold.ensures) in
          rw w.found-is (w.in_ok-push.ensures.items ∙ ap (λ (l : List ℕ). l ++ i ∷ []) c.loop-i.invariant ∙ sym more)
      | else-both_hold w ↦
          rw w.found-is (c.loop-i.invariant ∙ sym (kept_no p i (sym w.if-both_hold.false ∙ c.both_hold.ensures)))
    ]
