use Rattle.std.proofs.Common.{◌<◌, ℕ, slice_index_or}
use Rattle.legal_steps.specs.declared.event.Event.{Event}
use Rattle.legal_steps.specs.Legal.{May}
use Rattle.overtaking.proofs.way.first_legal.Given as goal

abbrev pub invariant-loop-event : goal.invariant-loop-event
invariant-loop-event g l = (k : ℕ) (d : Event) → k < l.event-index → ¬ May l.world.plan l.world.state (slice_index_or l.events k d)
