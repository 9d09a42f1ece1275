use Rattle.std.proofs.Common.{◌<◌, ◌^◌, ◌↔◌, ℕ}
use Rattle.legal_steps.specs.State.{Has}
use Rattle.live_lab.specs.Keepers.{IsOne}
use Rattle.live_lab.proofs.keepers.those_of.Given as goal

abbrev pub invariant-loop-other : goal.invariant-loop-other
invariant-loop-other g l = (l.set < 2 ^ l.other) × ((k : ℕ) → k < l.other → Has l.set k ↔ IsOne l.outside l.world.plan l.world.state l.job l.instrument k)
