use Rattle.std.proofs.Common.{sym, ap, ◌∙◌}
use Rattle.legal_steps.specs.declared.phase.JobState.{JobState}
use Rattle.turns.specs.Patience.{is_waiting}
use Rattle.edge_rule.specs.DeskView.{known}
use Rattle.blocking.proofs.Waited.{none_waited}
use Rattle.blocking.proofs.knowledge.waited_on.Goals as goal

pub returns-else-is_thirsty : goal.returns-else-is_thirsty
returns-else-is_thirsty g c =
    none_waited c.args.plan.now (known c.args.desk.now) c.args.desk.now.job c.args.edge
    (ap (λ (p : JobState). is_waiting p.drinking) (sym c.phase.ensures.phase) ∙ (sym c.is_thirsty.ensures ∙ c.if-is_thirsty.false))
