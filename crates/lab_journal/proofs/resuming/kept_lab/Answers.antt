use Rattle.std.proofs.Common.{ap, ◌∙◌}
use Rattle.lab_plan.specs.LabPlan.{LabPlan}
use Rattle.lab_journal.specs.Rooms.{room_for}
use Rattle.lab_journal.proofs.Replayed.{kept_in}
use Rattle.lab_journal.proofs.resuming.kept_lab.Goals as goal

pub returns-clause-kept : goal.returns-clause-kept
returns-clause-kept c =
    kept_in c.args.world c.keep.new.self c.finish.new.world c.in_ok-of_world.field-0 c.room_of-room.result c.room_of-room.ensures.some
    (c.room_of-room.ensures.room ∙ ap (λ (p : LabPlan). room_for p 0) c.plan.ensures.plan) c.in_ok-keep.ensures.kept c.finish.ensures.goes c.finish.ensures.none
    c.in_ok-of_world.ensures
