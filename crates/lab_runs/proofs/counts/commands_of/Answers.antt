use Rattle.std.proofs.Common.{arith, ap, length}
use Rattle.lab_runs.proofs.CountSums.{commands_few}
use Rattle.lab_runs.proofs.counts.commands_of.Goals as goal

pub overflow_add-total : goal.overflow_add-total
overflow_add-total g c =
    let few = commands_few c.args.plan.now c.args.job c.loop-before.before c.requires.is_plan c.requires.is_job
    (omega (arith, c.sessions-before-end.ensures.sessions)) in
    omega (arith, few, c.loop-before.invariant, ap length c.commands.ensures.commands)
