use Rattle.std.proofs.Common.{subst}
use Rattle.lab_plan.specs.LabPlan.{LabPlan}
use Rattle.settling.specs.Left.{AreMarked}
use Rattle.core_tests.proofs.settled.rest_twice.Goals as goal

pub rest-deeds-requires : goal.rest-deeds-requires
rest-deeds-requires g c =
    subst (λ (p : LabPlan). AreMarked p c.args.world.now.state c.in-Ok.due) c.plan.ensures.plan (c.in-Ok.ensures.marked c.args.world.now.state)
