use Rattle.std.proofs.Common.{◌+◌, ◌<◌, ◌≤◌, ℕ, length, ◌∙◌, sym, subst, arith}
use Rattle.std.proofs.lemmas.Bool.{false≢true}
use Rattle.lab_plan.proofs.Gathered.{Gathered, gathered_in, gathered_out}
use Rattle.legal_steps.specs.State.{Has}
use Rattle.live_lab.specs.Kinds.{IsOf}
use Rattle.live_lab.proofs.kinds.all_of.Goals as goal
use Rattle.live_lab.proofs.kinds.all_of.Goals.{then-is_of, else-is_of}

pub loop-job-preserved : goal.loop-job-preserved
unfolding Has
loop-job-preserved g c =
    let n = c.loop-job.job in
    let P : ℕ → Type 0 = λ k. IsOf c.args.kind c.args.waiting c.args.clocks.now c.args.world.now k in
    let most : length c.plan.result.now.jobs ≤ 32 = c.jobs-job-end.ensures.plan.draft.few_jobs in
    let few : n < 32 = omega (arith, most, c.jobs-job-end.ensures.jobs, c.loop-job-test.true) in
    elim c.if-is_of.branch [
      | then-is_of b ↦ subst (λ z. Gathered z (n + 1) P) (sym b.set-is) (gathered_in c.loop-job.set n P few c.loop-job.invariant (c.is_of.ensures.0 b.if-is_of.true))
      | else-is_of b ↦ subst (λ z. Gathered z (n + 1) P) (sym b.set-is) (gathered_out c.loop-job.set n P c.loop-job.invariant
          (λ p. false≢true (sym b.if-is_of.false ∙ c.is_of.ensures.1 p)))
    ]
