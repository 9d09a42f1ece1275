-- The phase act that is due, as the code has it.
use Rattle.std.specs.Prelude.{ℕ, List, [], ◌∷◌}
use Rattle.lab_plan.specs.LabPlan.{LabPlan}
use Rattle.legal_steps.specs.declared.event.Event.{Event}
use Rattle.legal_steps.specs.declared.event.Event.TheVariants.{Reach, Act}
use Rattle.legal_steps.specs.State.{State}
use Rattle.legal_steps.specs.Legal.{May}
use Rattle.one_history.specs.PhaseEvents.{event_of}
use Rattle.session_layer.specs.declared.phase.Due.{Due}
use Rattle.session_layer.specs.declared.phase.Due.TheVariants.{Command, Store, Nothing}

-- the events of what is due
abbrev pub events_due : Due → ℕ → List Event
events_due Command j = Reach j ∷ Act j ∷ []
events_due (Store what) j = event_of what j ∷ []
events_due Nothing j = []

-- it may be done
abbrev pub MayDue : LabPlan → State → Due → ℕ → Type 0
MayDue plan s Command j = May plan s (Reach j)
MayDue plan s (Store what) j = May plan s (event_of what j)
MayDue plan s Nothing j = Unit {0}
