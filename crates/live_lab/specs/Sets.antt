-- For readers: sets of jobs, a bit for each.
use Rattle.std.specs.Prelude.{ℕ, zero, suc, ◌<◌, ◌^◌, ◌↔◌, List, [], ◌∷◌, ◌++◌, length, if◌then◌else◌}
use Rattle.lab_plan.specs.LabPlan.{LabPlan}
use Rattle.lab_plan.specs.InstrumentSets.{holds}
use Rattle.legal_steps.specs.declared.event.Event.{Event}
use Rattle.legal_steps.specs.State.{Has}
use Rattle.legal_steps.specs.Legal.{IsJob}

-- the set has just the jobs of the plan of which P holds: bit k says that job k is a member
pub record AreJobs (plan : LabPlan) (set : ℕ) (P : ℕ → Type 0) : Type 0 where
  pub of_plan : set < 2 ^ length plan.jobs
  pub just : (j : ℕ) → IsJob plan j → Has set j ↔ P j

-- the event of each job of the set that is one of the first n jobs, in ascending order
abbrev pub events_below : (ℕ → Event) → ℕ → ℕ → List Event
events_below event set zero = []
events_below event set (suc n) = events_below event set n ++ (if holds set n then event n ∷ [] else [])

-- of each job of the plan that is in the set
abbrev pub events_of_jobs : (ℕ → Event) → LabPlan → ℕ → List Event
events_of_jobs event plan set = events_below event set (length plan.jobs)
