use Rattle.std.proofs.Common.{arith}
use Rattle.lab_runs.proofs.CountSums.{job_commands_few}
use Rattle.lab_runs.proofs.counts.command_count.Goals as goal

pub overflow_add-total : goal.overflow_add-total
overflow_add-total g c =
    let few = job_commands_few c.args.plan.now c.loop-job.job c.jobs-job-end.ensures.plan (omega (arith, c.jobs-job-end.ensures.jobs)) in
    omega (arith, few, c.loop-job.invariant, c.commands_of-total.ensures)
