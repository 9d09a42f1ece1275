use Rattle.std.proofs.Common.{◌≢◌, List, rules, tests, subst}
use Rattle.std.proofs.lemmas.Result.{IfOk-weaker}
use Rattle.lab_plan.specs.LabPlan.{LabPlan}
use Rattle.edge_rule.specs.DeskView.{DeskView, BenchView}
use Rattle.edge_rule.specs.Ending.{IsEnd}
use Rattle.rounds.specs.declared.ended.Ended.TheVariants as reasons
use Rattle.rounds.specs.FromOpening.{opened}
use Rattle.workers.specs.Driven.{Driven}
use Rattle.whole_runs.specs.Runs.{IsRunByTurns}
use Rattle.whole_runs.proofs.ByThreads.{driven, ran_by_turns}
use Rattle.whole_runs.proofs.runs.by_threads.Goals as goal

pub close-requires-clause-own : goal.close-requires-clause-own
close-requires-clause-own g c =
    let other : c.threads-desks.result.1 ≢ reasons.NoMemory = search (rules, tests) in
    (driven c.in_ok-bench.bench c.args.turns c.in_ok-bench.desks.items c.threads-desks.result.0.items
    c.threads-desks.result.1 other c.threads-desks.ensures).company.own

pub close-requires-clause-all : goal.close-requires-clause-all
close-requires-clause-all g c =
    let other : c.threads-desks.result.1 ≢ reasons.NoMemory = search (rules, tests) in
    (driven c.in_ok-bench.bench c.args.turns c.in_ok-bench.desks.items
    c.threads-desks.result.0.items c.threads-desks.result.1 other c.threads-desks.ensures).all

pub returns : goal.returns
returns g c =
    let b : BenchView = c.in_ok-bench.bench in let new : List DeskView = c.threads-desks.result.0.items in
    let other : c.threads-desks.result.1 ≢ reasons.NoMemory = search (rules, tests) in
    let d : Driven b c.args.turns (opened b) new = subst (λ (l : List DeskView). Driven b c.args.turns l new) c.in_ok-bench.ensures.bench.1
    (driven b c.args.turns c.in_ok-bench.desks.items new c.threads-desks.result.1 other c.threads-desks.ensures) in
    IfOk-weaker c.close.result (λ run. IsEnd b.plan new run) (IsRunByTurns c.args.plan.now c.args.turns)
    (λ run end. subst (λ (p : LabPlan). IsRunByTurns p c.args.turns run) c.in_ok-bench.ensures.bench.0
    (ran_by_turns c.turns_in_history.ensures b c.args.turns new run d end))
    c.close.ensures
