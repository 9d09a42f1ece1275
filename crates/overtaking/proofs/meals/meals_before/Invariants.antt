use Rattle.std.proofs.Common.{◌≡◌, ◌+◌, ◌≤◌, drop}
use Rattle.overtaking.proofs.OvertakenOnce.{meals_before}
use Rattle.overtaking.proofs.meals.meals_before.Given as goal

abbrev pub invariant-loop-event : goal.invariant-loop-event
invariant-loop-event l = record {
  few : l.meals ≤ l.event-index;
  counted : meals_before l.eater l.waits l.events ≡ l.meals + meals_before l.eater l.waits (drop l.event-index l.events);
}
