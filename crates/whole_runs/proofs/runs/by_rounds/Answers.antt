use Rattle.std.proofs.Common.{List, length, take, drop, ◌++◌, sym, ap, ◌∙◌, subst}
use Rattle.std.proofs.lemmas.Result.{IfOk-weaker}
use Rattle.lab_plan.specs.LabPlan.{LabPlan}
use Rattle.edge_rule.specs.DeskView.{DeskView, BenchView}
use Rattle.edge_rule.specs.Company.{jobs_of}
use Rattle.edge_rule.specs.Ending.{HasAll, IsEnd}
use Rattle.rounds.specs.Rounds.{Drove}
use Rattle.rounds.specs.FromOpening.{opened}
use Rattle.whole_runs.specs.Runs.{IsRunInRounds}
use Rattle.rounds.proofs.Fresh.{same_desks, written_back}
use Rattle.whole_runs.proofs.InRounds.{ran_in_rounds}
use Rattle.whole_runs.proofs.runs.by_rounds.Goals as goal

pub close-requires-clause-all : goal.close-requires-clause-all
close-requires-clause-all g c =
    let b : BenchView = c.in_ok-bench.bench in let old : List DeskView = c.in_ok-bench.desks.items in let new : List DeskView = c.rounds.new.desks in
    let same = c.rounds.ensures.jobs ∙ ap jobs_of c.as_mut_slice.ensures.value in
    subst (HasAll b.plan) (sym (written_back old new c.in_ok-bench.desks.len c.in_ok-bench.desks.ok.0 same))
    (same_desks b.plan old new same c.in_ok-bench.ensures.all)

pub returns : goal.returns
returns g c =
    let b : BenchView = c.in_ok-bench.bench in let old : List DeskView = c.in_ok-bench.desks.items in let new : List DeskView = c.rounds.new.desks in
    let same = c.rounds.ensures.jobs ∙ ap jobs_of c.as_mut_slice.ensures.value in
    let back = written_back old new c.in_ok-bench.desks.len c.in_ok-bench.desks.ok.0 same in
    let is_opened = c.as_mut_slice.ensures.value ∙ c.in_ok-bench.ensures.bench.1 in
    let drove : Drove b c.args.limit (opened b) c.rounds.result.0 c.rounds.result.1 new =
    subst (λ (l : List DeskView). Drove b c.args.limit l c.rounds.result.0 c.rounds.result.1 new) is_opened c.rounds.ensures in
    IfOk-weaker c.close.result (λ run. IsEnd b.plan (take c.in_ok-bench.desks.len (new ++ drop (length new) old)) run)
    (IsRunInRounds c.args.plan.now c.args.limit)
    (λ run end. subst (λ (p : LabPlan). IsRunInRounds p c.args.limit run) c.in_ok-bench.ensures.bench.0
    (ran_in_rounds c.drives_from_opening.ensures c.never_ends_quiet.ensures b c.args.limit c.rounds.result.0 c.rounds.result.1 new run drove
    (same_desks b.plan old new same c.in_ok-bench.ensures.all) (subst (λ (l : List DeskView). IsEnd b.plan l run) back end)))
    c.close.ensures
