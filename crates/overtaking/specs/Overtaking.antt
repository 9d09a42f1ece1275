-- For readers: overtaking: the meals that a neighbour begins between a job's request for a fork and the job's next meal.
use Rattle.std.specs.Prelude.{ℕ, ◌+◌, List, [], ◌∷◌, drop, if◌then◌else◌}
use Rattle.lab_plan.specs.LabPlan.{LabPlan}
use Rattle.legal_steps.specs.declared.event.Event.{Event}
use Rattle.legal_steps.specs.State.{neighbour}
use Rattle.legal_steps.specs.Run.{is_sit, meals_of}

-- the events of a list before the next meal of job j, or all if there is none
abbrev pub before_meal : ℕ → List Event → List Event
before_meal j [] = []
before_meal j (event ∷ events) = if is_sit j event then [] else (event ∷ before_meal j events)

-- the overtaking at a place that holds a request of job j for the fork of edge e:
-- the neighbour's meals after it and before the next meal of j
abbrev pub overtaking : LabPlan → List Event → ℕ → ℕ → ℕ → ℕ
overtaking plan events place j e = meals_of (neighbour plan j e) (before_meal j (drop (place + 1) events))
