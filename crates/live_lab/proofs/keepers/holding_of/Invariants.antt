use Rattle.std.proofs.Common.{◌<◌, ◌^◌, ◌↔◌, ℕ}
use Rattle.legal_steps.specs.State.{Has}
use Rattle.live_lab.specs.Keepers.{IsHoldingOf}
use Rattle.live_lab.proofs.keepers.holding_of.Given as goal

abbrev pub invariant-loop-job : goal.invariant-loop-job
invariant-loop-job g l = (l.set < 2 ^ l.job) × ((k : ℕ) → k < l.job → Has l.set k ↔ IsHoldingOf l.jobs l.world.state k)
