use Rattle.std.proofs.Common.{◌≡◌, map, take}
use Rattle.legal_steps.specs.Steps.{step_events}
use Rattle.interleaving.specs.World.{LeadsTo, GoesOnBy}
use Rattle.interleaving.proofs.world.World.replay_steps.Given as goal

abbrev pub invariant-loop-line : goal.invariant-loop-line
invariant-loop-line g l = record {
  done_all : l.done ≡ l.line-index;
  led : LeadsTo l.fn.self (take l.line-index (step_events l.fn.self.plan l.fn.self.state (map (λ line. line.step) l.steps))) l.self;
  on : GoesOnBy l.fn.self (take l.line-index (step_events l.fn.self.plan l.fn.self.state (map (λ line. line.step) l.steps))) l.self;
}
