use Rattle.std.proofs.Common.{◌≡◌, [], map, take}
use Rattle.legal_steps.specs.Steps.{step_events}
use Rattle.round_trace.specs.Doing.{Does}
use Rattle.round_trace.proofs.going_on.take_all.Given as goal

abbrev pub invariant-loop-line : goal.invariant-loop-line
invariant-loop-line g l = record {
  at : l.place ≡ l.line-index;
  does : Does l.fn.world [] (take l.line-index (step_events l.fn.world.plan l.fn.world.state (map (λ line. line.step) l.steps))) l.world l.events.items;
}
