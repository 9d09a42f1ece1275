use Rattle.interleaving.specs.Rooms.{HaveMoreBelow, MaySpareBelow}
use Rattle.interleaving.proofs.rooms.make_rooms.Given as goal

abbrev pub invariant-loop-number : goal.invariant-loop-number
invariant-loop-number g l = record {
  more : HaveMoreBelow l.number l.commands l.initial.logs.items l.logs.items;
  spare : MaySpareBelow l.number l.commands l.logs.items;
}
