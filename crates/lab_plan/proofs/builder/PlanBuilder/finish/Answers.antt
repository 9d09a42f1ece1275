use Rattle.std.proofs.Common.{refl, sym, ◌∙◌, subst}
use Rattle.lab_plan.specs.LabPlan.{LabPlan}
use Rattle.lab_plan.specs.IsPlan.{IsPlan}
use Rattle.lab_plan.specs.Tables.{AreTablesOf}
use Rattle.lab_plan.proofs.builder.PlanBuilder.finish.Goals as goal

pub new-requires-clause-plan : goal.new-requires-clause-plan
new-requires-clause-plan g c = subst IsPlan (sym c.self.view_is) c.in-Ok.ensures.plan

pub new-requires-clause-tables : goal.new-requires-clause-tables
new-requires-clause-tables g c = subst (λ (p : LabPlan). AreTablesOf p c.in-Ok.tables) (sym c.self.view_is) c.in-Ok.ensures.tables.1

pub returns-in-Ok : goal.returns-in-Ok
returns-in-Ok g c = (c.in-Ok.ensures.tables.0, c.new.ensures ∙ c.self.view_is)

pub returns-in-Err : goal.returns-in-Err
returns-in-Err g c = (c.in-Err.ensures.refused, refl)
