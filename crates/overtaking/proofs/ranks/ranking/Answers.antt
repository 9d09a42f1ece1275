use Rattle.std.proofs.Common.{ℕ, List, length, ap, ◌∙◌, sym, subst}
use Rattle.std.proofs.lemmas.Result.{IfOk-weaker}
use Rattle.cycles.specs.Cycles.{IsAmong, HasNoCycle}
use Rattle.cycles.specs.Rankings.{IsRanking}
use Rattle.lab_plan.specs.LabPlan.{LabPlan}
use Rattle.overtaking.specs.Rankings.{IsRankingOf}
use Rattle.overtaking.proofs.Ranked.{acyclic_pairs, ranks_by_precedence}
use Rattle.overtaking.proofs.Worlds.{world_acyclic}
use Rattle.overtaking.proofs.ranks.ranking.Goals as goal

pub ranking-requires-clause-acyclic : goal.ranking-requires-clause-acyclic
ranking-requires-clause-acyclic g c =
    let w = c.args.world.now in
    subst (λ (pairs : List (ℕ × ℕ)). HasNoCycle (IsAmong pairs)) (sym c.deref.ensures.value)
    (acyclic_pairs w.plan w.state c.in_ok-pairs.pairs.items c.in_ok-pairs.ensures.pairs (world_acyclic w.plan w.state w.counts c.plan.ensures.reached))

pub returns : goal.returns
returns g c =
    let w = c.args.world.now in
    let ranks : (order : List ℕ) → IsRanking c.jobs.result c.deref.result.now order → IsRankingOf w.plan w.state order =
    λ order ranked. ranks_by_precedence w.plan w.state c.in_ok-pairs.pairs.items order c.in_ok-pairs.ensures.pairs
    (world_acyclic w.plan w.state w.counts c.plan.ensures.reached)
    (subst (λ (pairs : List (ℕ × ℕ)). IsRanking (length w.plan.jobs) pairs order) c.deref.ensures.value
    (subst (λ jobs. IsRanking jobs c.deref.result.now order) (c.jobs.ensures.jobs ∙ ap (λ (p : LabPlan). length p.jobs) c.plan.ensures.plan) ranked)) in
    IfOk-weaker c.ranking.result (λ order. IsRanking c.jobs.result c.deref.result.now order.items)
    (λ order. IsRankingOf w.plan w.state order.items) (λ order. ranks order.items) c.ranking.ensures
