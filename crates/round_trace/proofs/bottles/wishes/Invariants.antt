use Rattle.std.proofs.Common.{◌≡◌, ◌<◌, ◌^◌, ◌↔◌, ℕ}
use Rattle.legal_steps.specs.declared.phase.Drinking.TheVariants.{Thirsty}
use Rattle.legal_steps.specs.State.{Has, drinking}
use Rattle.legal_steps.specs.Legal.{MayAskBottle}
use Rattle.round_trace.proofs.bottles.wishes.Given as goal

abbrev pub invariant-loop-bottle : goal.invariant-loop-bottle
invariant-loop-bottle g l = (l.set < 2 ^ l.bottle) × ((k : ℕ) → k < l.bottle → Has l.set k ↔
    ((drinking l.world.state l.job ≡ Thirsty) × MayAskBottle l.world.plan l.world.state l.job l.edge k))
