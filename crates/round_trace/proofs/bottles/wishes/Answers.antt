use Rattle.std.proofs.Common.{◌≡◌, ◌+◌, ◌<◌, ℕ, length, ◌∙◌, sym, ap, subst, arith}
use Rattle.std.proofs.lemmas.Bool.{false≢true}
use Rattle.legal_steps.specs.declared.phase.Drinking.TheVariants.{Thirsty}
use Rattle.lab_plan.specs.LabPlan.{LabPlan, bottles}
use Rattle.lab_plan.proofs.Gathered.{Gathered, gathered_in, gathered_out}
use Rattle.legal_steps.specs.State.{Has, drinking}
use Rattle.legal_steps.specs.Legal.{MayAskBottle}
use Rattle.round_trace.proofs.Sets.{asks, asked}
use Rattle.round_trace.proofs.bottles.wishes.Goals as goal
use Rattle.round_trace.proofs.bottles.wishes.Goals.{then-enabled, else-enabled}

pub loop-bottle-preserved : goal.loop-bottle-preserved
unfolding Has
loop-bottle-preserved g c =
    let w = c.args.world.now in let n = c.loop-bottle.bottle in
    let P : ℕ → Type 0 = λ k. (drinking w.state c.args.job ≡ Thirsty) × MayAskBottle w.plan w.state c.args.job c.args.edge k in
    let same = ap (λ (p : LabPlan). length (bottles p c.args.edge)) c.plan.ensures.plan in let end = c.bottles-bottle-end.ensures in
    let small : n < length (bottles w.plan c.args.edge) = omega (arith, same, end) in
    let few : n < 32 = omega arith in
    elim c.if-enabled.branch [
      | then-enabled b ↦ subst (λ z. Gathered z (n + 1) P) (sym b.set-is)
          (gathered_in c.loop-bottle.set n P few c.loop-bottle.invariant (asks w.plan w.state c.args.job c.args.edge n c.requires small few
          (c.enabled.ensures.0 b.if-enabled.true)))
      | else-enabled b ↦ subst (λ z. Gathered z (n + 1) P) (sym b.set-is)
          (gathered_out c.loop-bottle.set n P c.loop-bottle.invariant (λ p. false≢true (sym b.if-enabled.false ∙
          c.enabled.ensures.1 (asked w.plan w.state c.args.job c.args.edge n c.requires small few p))))
    ]
