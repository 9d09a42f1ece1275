use Rattle.std.proofs.Common.{arith}
use Rattle.lab_runs.proofs.counts.session_count.Goals as goal

pub overflow_add-total : goal.overflow_add-total
overflow_add-total g c =
    omega (arith, c.loop-job.invariant.1, c.sessions-total.ensures.few, c.jobs-job-end.ensures.plan.draft.few_jobs, c.jobs-job-end.ensures.jobs)
