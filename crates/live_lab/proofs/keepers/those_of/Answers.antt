use Rattle.std.proofs.Common.{◌+◌, ◌<◌, ◌≤◌, ℕ, length, ◌∙◌, sym, subst, arith}
use Rattle.std.proofs.lemmas.Bool.{false≢true}
use Rattle.lab_plan.proofs.Gathered.{Gathered, gathered_in, gathered_out}
use Rattle.legal_steps.specs.State.{Has}
use Rattle.live_lab.specs.Keepers.{IsOne}
use Rattle.live_lab.proofs.keepers.those_of.Goals as goal
use Rattle.live_lab.proofs.keepers.those_of.Goals.{then-is_one, else-is_one}

pub loop-other-preserved : goal.loop-other-preserved
unfolding Has
loop-other-preserved g c =
    let n = c.loop-other.other in
    let P : ℕ → Type 0 = λ k. IsOne c.args.outside c.args.world.now.plan c.args.world.now.state c.args.job c.args.instrument k in
    let most : length c.plan.result.now.jobs ≤ 32 = c.jobs-other-end.ensures.plan.draft.few_jobs in
    let few : n < 32 = omega (arith, most, c.jobs-other-end.ensures.jobs, c.loop-other-test.true) in
    elim c.if-is_one.branch [
      | then-is_one b ↦ subst (λ z. Gathered z (n + 1) P) (sym b.set-is) (gathered_in c.loop-other.set n P few c.loop-other.invariant (c.is_one.ensures.0 b.if-is_one.true))
      | else-is_one b ↦ subst (λ z. Gathered z (n + 1) P) (sym b.set-is) (gathered_out c.loop-other.set n P c.loop-other.invariant
          (λ p. false≢true (sym b.if-is_one.false ∙ c.is_one.ensures.1 p)))
    ]
