-- the best is a job without a colour; if there is none, all so far have one
use Rattle.std.proofs.Common.{ℕ, ◌≡◌, ◌≢◌, ◌<◌, length, slice_index}
use Rattle.std.specs.Prelude.{MatchOption}
use Rattle.arranging.proofs.greedy.next_job.Given as goal

abbrev pub invariant-loop-job : goal.invariant-loop-job
invariant-loop-job g l =
    MatchOption l.best ((k : ℕ) → k < l.job → slice_index l.colours k ≢ 255) (λ job. (job < length l.plan.jobs) × (slice_index l.colours job ≡ 255))
