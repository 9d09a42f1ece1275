use Rattle.std.proofs.Common.{take}
use Rattle.std.specs.List.{All}
use Rattle.legal_steps.specs.Steps.{IsStepOf}
use Rattle.legal_moves.specs.Moves.{Keeps, IsLegalNow, all_moves}
use Rattle.legal_moves.proofs.legal.legal_moves.Given as goal

abbrev pub invariant-loop-step : goal.invariant-loop-step
invariant-loop-step g l = record {
  kept : Keeps (IsLegalNow l.world.plan l.world.state) (take l.step-index (all_moves l.world.plan)) l.moves.items;
  of_plan : All (IsStepOf l.world.plan) l.moves.items;
}
