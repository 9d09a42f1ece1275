use Rattle.std.proofs.Common.{◌<◌, ◌≤◌, ◌≡◌, ◌↔◌, IsTrue, ℕ, arith, length, subst, ap, ◌∙◌, sym}
use Rattle.lab_plan.specs.LabPlan.{LabPlan, edges, ends, bottles}
use Rattle.legal_steps.specs.declared.edge_state.EdgeState.{EdgeState}
use Rattle.rounds.proofs.BothEnds.{same_word}
use Rattle.rounds.specs.Company.{seen_by}
use Rattle.rounds.proofs.agreement.is_agreed_at.Goals as goal

pub bottles-requires : goal.bottles-requires
bottles-requires g c = subst (λ (z : LabPlan). c.args.edge < length (edges z)) (sym c.plan-plan.ensures) c.requires.edge

pub ends-lower-requires : goal.ends-lower-requires
ends-lower-requires g c = subst (λ (z : LabPlan). c.args.edge < length (edges z)) (sym c.plan-plan.ensures) c.requires.edge

pub seen_by-seen-requires-clause-job : goal.seen_by-seen-requires-clause-job
seen_by-seen-requires-clause-job g c =
    let e = c.ends-lower.ensures in
    c.requires.all c.ends-lower.result.0
    (subst (λ (z : LabPlan). c.ends-lower.result.0 < length z.jobs) c.plan-plan.ensures (let o = e.ordered in let j = e.jobs in omega arith))

pub seen_by-requires-clause-job : goal.seen_by-requires-clause-job
seen_by-requires-clause-job g c =
    let e = c.ends-lower.ensures in
    c.requires.all c.ends-lower.result.1 (subst (λ (z : LabPlan). c.ends-lower.result.1 < length z.jobs) c.plan-plan.ensures e.jobs)

pub returns : goal.returns
returns g c = let e = c.ends-lower.ensures in let plan : LabPlan = c.args.bench.now.plan in let n : ℕ = c.args.edge in
    let w =
    same_word (length (bottles plan n)) c.seen_by-seen.result c.seen_by.result
    (subst (λ (z : LabPlan). length (bottles z n) ≤ 28) c.plan-plan.ensures (let b = c.bottles.ensures in omega arith))
    c.seen_by-seen.ensures.fits c.seen_by.ensures.fits in
    let is_ends : c.ends-lower.result ≡ ends plan n = e.ends ∙ ap (λ (z : LabPlan). ends z n) c.plan-plan.ensures in
    let at : (c.ends-lower.result.0 ≡ (ends plan n).0) × (c.ends-lower.result.1 ≡ (ends plan n).1) = (λ i. (is_ends i).0, λ i. (is_ends i).1) in
    subst (λ (z : EdgeState × EdgeState). IsTrue c.eq.result ↔ z.0 ≡ z.1)
    (λ i. (
      (c.seen_by-seen.ensures.word ∙ ap (λ j. seen_by c.args.desks.now j n) at.0) i,
      (c.seen_by.ensures.word ∙ ap (λ j. seen_by c.args.desks.now j n) at.1) i,
    )) (
      λ t. w.0 (sym c.eq.ensures ∙ t),
      λ t. c.eq.ensures ∙ w.1 t,
    )
