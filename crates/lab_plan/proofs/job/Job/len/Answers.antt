use Rattle.std.proofs.Common.{length, arith, ap}
use Rattle.lab_plan.specs.LabPlan.{JobPlan}
use Rattle.lab_plan.proofs.Cuts.{length-cut}
use Rattle.lab_plan.proofs.job.Job.len.Goals as goal

pub returns : goal.returns
returns g c = omega (arith, length-cut c.self.inside.sessions.items c.self.inside.commands.items, ap (λ (j : JobPlan). length j.sessions) c.self.view_is)
