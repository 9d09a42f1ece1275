-- the sessions so far are the same
use Rattle.std.proofs.Common.{◌≡◌, ℕ, ◌+◌, ◌<◌}
use Rattle.lab_plan.specs.LabPlan.{session_at}
use Rattle.arranging.specs.Reordered.{named_session}
use Rattle.arranging.proofs.same_jobs.is_same_job.Given as goal

abbrev pub invariant-loop-before : goal.invariant-loop-before
invariant-loop-before g l =
    (k : ℕ) → k < l.before → named_session l.plan (session_at l.plan l.mine (k + 1)) ≡ named_session l.other (session_at l.other l.yours (k + 1))
