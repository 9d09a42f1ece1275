use Rattle.std.proofs.Common.{ℕ, arith, refl, sym, ap, ◌∙◌}
use Rattle.lab_plan.specs.LabPlan.{no_job, job_at}
use Rattle.arranging.specs.Reordered.{NamedJob, named_job}
use Rattle.arranging.proofs.Arrangements.{maps_meet, maps_same}
use Rattle.arranging.proofs.same_jobs.has_jobs_of.Goals as goal

pub returns-then-not-is_same_job : goal.returns-then-not-is_same_job
returns-then-not-is_same_job g c =
    let p = c.args.plan.now in
    let q = c.args.other.now in
    let named : ℕ → NamedJob = λ j. named_job p (job_at p j) in
    let mine = c.index-order-place in (
      λ no. cc,
      λ all.
          let same = maps_same (named_job q) named q.jobs c.args.order.now c.loop-place.place no_job mine.result all
          (omega (arith, c.loop-place-test.true, c.if-order-jobs.false, c.jobs.ensures.jobs)) in
          sym c.if-not-is_same_job.true ∙ c.is_same_job.ensures.1 (same ∙ sym (ap named mine.is)),
    )

pub returns : goal.returns
returns g c =
    let p = c.args.plan.now in
    let q = c.args.other.now in (
      λ _. maps_meet (named_job q) (λ j. named_job p (job_at p j)) q.jobs c.args.order.now no_job 0
          (omega (arith, c.if-order-jobs.false, c.jobs.ensures.jobs))
          (λ k below. c.loop-place.invariant k (omega (arith, below, c.loop-place-test.false, c.if-order-jobs.false, c.jobs.ensures.jobs))),
      λ _. refl,
    )
