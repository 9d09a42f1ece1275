use Rattle.std.proofs.Common.{◌<◌, ◌^◌, ◌↔◌, ℕ}
use Rattle.legal_steps.specs.State.{Has}
use Rattle.legal_steps.specs.Legal.{MayGiveBottle}
use Rattle.round_trace.proofs.bottles.gifts.Given as goal

abbrev pub invariant-loop-bottle : goal.invariant-loop-bottle
invariant-loop-bottle g l = (l.set < 2 ^ l.bottle) × ((k : ℕ) → k < l.bottle → Has l.set k ↔ MayGiveBottle l.world.plan l.world.state l.job l.edge k)
