use Rattle.std.proofs.Common.{◌≡◌, subst}
use Rattle.std.specs.Prelude.{IfOk}
use Rattle.lab_plan.specs.LabPlan.{LabPlan}
use Rattle.legal_steps.specs.Opening.{the_opening}
use Rattle.interleaving.specs.Start.{at_start}
use Rattle.interleaving.proofs.world.World.of_plan.Goals as goal

pub returns : goal.returns
returns g c =
    subst (λ (p : LabPlan). IfOk c.at_opening.result (λ world. world ≡ at_start p (the_opening p))) c.own.ensures c.at_opening.ensures
