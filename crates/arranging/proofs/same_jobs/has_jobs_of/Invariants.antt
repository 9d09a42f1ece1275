-- the jobs so far are the same
use Rattle.std.proofs.Common.{◌≡◌, ℕ, ◌<◌, slice_index}
use Rattle.lab_plan.specs.LabPlan.{job_at}
use Rattle.arranging.specs.Reordered.{named_job}
use Rattle.arranging.proofs.same_jobs.has_jobs_of.Given as goal

abbrev pub invariant-loop-place : goal.invariant-loop-place
invariant-loop-place g l = (k : ℕ) → k < l.place → named_job l.other (job_at l.other k) ≡ named_job l.plan (job_at l.plan (slice_index l.order k))
