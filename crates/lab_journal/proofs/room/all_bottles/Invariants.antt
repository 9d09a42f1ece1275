-- those of the edges so far
use Rattle.std.proofs.Common.{◌≡◌, ◌*◌, ◌≤◌}
use Rattle.lab_journal.specs.Rooms.{bottles_below}
use Rattle.lab_journal.proofs.room.all_bottles.Given as goal

abbrev pub invariant-loop-edge : goal.invariant-loop-edge
invariant-loop-edge g l = (l.sum ≡ bottles_below l.plan l.edge) × (l.sum ≤ 28 * l.edge)
