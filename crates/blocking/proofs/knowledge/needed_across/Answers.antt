use Rattle.std.proofs.Common.{ℕ, bit_and, bit_xor, sym, ap, ◌∙◌, subst}
use Rattle.lab_plan.specs.LabPlan.{LabPlan}
use Rattle.legal_steps.specs.declared.edge_state.EdgeState.{EdgeState}
use Rattle.legal_steps.specs.State.{phase, end_of}
use Rattle.edge_rule.specs.DeskView.{known}
use Rattle.edge_rule.specs.NeededBottles.{AreNeededIn}
use Rattle.blocking.specs.Watching.{AreWaitedFor}
use Rattle.blocking.proofs.Waited.{waited_lower, waited_higher}
use Rattle.blocking.proofs.knowledge.needed_across.Goals as goal

pub returns-in-Lower : goal.returns-in-Lower
returns-in-Lower g c =
    let p = c.args.plan.now in let s = known c.args.desk.now in let j = c.args.desk.now.job in let e = c.args.edge in let n = c.needed-needed.result in
    subst (λ (b : ℕ). AreWaitedFor p s j e (bit_and n b)) (sym (ap (λ (x : EdgeState). x.bottles) (c.unpacked.ensures ∙ c.seen.ensures.word)))
    (waited_lower p s j e c.requires.thirsty n (subst (λ (z : LabPlan). AreNeededIn z j (phase s j) e n) c.requires.plan c.needed-needed.ensures)
    (c.in-Lower.ensures.end ∙ ap (λ m. end_of p m e) c.job.ensures.job))

pub returns-in-Higher : goal.returns-in-Higher
returns-in-Higher g c =
    let p = c.args.plan.now in let s = known c.args.desk.now in let j = c.args.desk.now.job in let e = c.args.edge in let n = c.needed-needed.result in
    subst (λ (b : ℕ). AreWaitedFor p s j e (bit_xor n (bit_and n b))) (sym (ap (λ (x : EdgeState). x.bottles) (c.unpacked.ensures ∙ c.seen.ensures.word)))
    (waited_higher p s j e c.requires.thirsty n (subst (λ (z : LabPlan). AreNeededIn z j (phase s j) e n) c.requires.plan c.needed-needed.ensures)
    (c.in-Higher.ensures.end ∙ ap (λ m. end_of p m e) c.job.ensures.job))
