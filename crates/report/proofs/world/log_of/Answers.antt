use Rattle.std.proofs.Common.{◌<◌, length, sym, subst}
use Rattle.std.specs.List.{All}
use Rattle.report.proofs.OfPlan.{log_is_of_plan}
use Rattle.report.proofs.world.log_of.Goals as goal

pub returns-clause-of_plan : goal.returns-clause-of_plan
returns-clause-of_plan g c =
    let plan = c.args.world.now.plan in
    let reached = c.plan.ensures.reached.reached in
    subst (λ log. All (λ entry. entry.job < length plan.jobs) log.entries) (sym c.log.ensures)
    (log_is_of_plan c.whole_logs.ensures plan _ reached c.args.instrument)
