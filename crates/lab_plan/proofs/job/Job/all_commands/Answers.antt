use Rattle.std.proofs.Common.{sym, ap, ◌∙◌}
use Rattle.lab_plan.specs.LabPlan.{JobPlan}
use Rattle.lab_plan.specs.Cuts.{commands_of}
use Rattle.lab_plan.proofs.Cuts.{cut_all}
use Rattle.lab_plan.proofs.job.Job.all_commands.Goals as goal

pub returns : goal.returns
returns g c =
    c.deref.ensures.value
    ∙ sym (cut_all c.self.inside.sessions.items c.self.inside.commands.items c.self.invariant.whole c.self.invariant.in_order)
    ∙ ap (λ (j : JobPlan). commands_of j.sessions) c.self.view_is
