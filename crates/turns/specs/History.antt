-- For readers: a history: a list of events that is legal from the initial state; each job's events in it, the state after it, and what
-- a job knows by its own
-- events.
use Rattle.std.specs.Prelude.{ℕ, Bool, List, [], ◌∷◌, filter, ◌==◌}
use Rattle.lab_plan.specs.LabPlan.{LabPlan}
use Rattle.legal_steps.specs.declared.event.Event.{Event}
use Rattle.legal_steps.specs.declared.event.Event.TheVariants.{Look}
use Rattle.legal_steps.specs.State.{State}
use Rattle.legal_steps.specs.Legal.{after, with_edge}
use Rattle.legal_steps.specs.Run.{IsLegalFrom, after_all, actor}
use Rattle.legal_steps.specs.Opening.{the_opening}

-- the events of one job, in order
abbrev pub is_by : ℕ → Event → Bool
is_by j event = actor event == j

abbrev pub events_by : ℕ → List Event → List Event
events_by j h = filter (is_by j) h

-- a list that is legal from the initial state, and the state after it
abbrev pub IsHistory : LabPlan → List Event → Type 0
IsHistory plan h = IsLegalFrom plan (the_opening plan) h

abbrev pub state_after : LabPlan → List Event → State
state_after plan h = after_all plan (the_opening plan) h

-- What a job knows of the bench after an event of its own: a look puts there what it saw
abbrev pub learned : LabPlan → State → Event → State
learned plan s (Look j e seen) = after plan (with_edge s e seen) (Look j e seen)
learned plan s event = after plan s event

abbrev pub learned_all : LabPlan → State → List Event → State
learned_all plan s [] = s
learned_all plan s (event ∷ events) = learned_all plan (learned plan s event) events

-- What a job knows by its own events alone: its own seat, and each edge as it last saw or changed it
abbrev pub known_by : LabPlan → List Event → State
known_by plan deeds = learned_all plan (the_opening plan) deeds
