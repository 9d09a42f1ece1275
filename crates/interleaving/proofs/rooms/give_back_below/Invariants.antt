use Rattle.interleaving.specs.Rooms.{HaveMoreBelow}
use Rattle.interleaving.proofs.rooms.give_back_below.Given as goal

abbrev pub invariant-loop-number : goal.invariant-loop-number
invariant-loop-number g l = HaveMoreBelow l.number l.commands l.logs.items l.initial.logs.items
