use Rattle.std.proofs.Common.{◌≡◌, take}
use Rattle.interleaving.specs.World.{LeadsTo, GoesOnBy}
use Rattle.interleaving.proofs.world.World.replay.Given as goal

abbrev pub invariant-loop-event : goal.invariant-loop-event
invariant-loop-event g l = record {
  done_all : l.done ≡ l.event-index;
  led : LeadsTo l.fn.self (take l.event-index l.events) l.self;
  on : GoesOnBy l.fn.self (take l.event-index l.events) l.self;
}
