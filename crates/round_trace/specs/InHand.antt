-- For readers: commands in hand. A job that reaches for a log has a command in hand, whose act is still to come; that act is always legal.
use Rattle.std.specs.Prelude.{◌≢◌, ℕ, zero, suc, ◌<◌, List, [], ◌∷◌, ◌++◌, length}
use Rattle.lab_plan.specs.LabPlan.{LabPlan}
use Rattle.legal_steps.specs.declared.event.Event.{Event}
use Rattle.legal_steps.specs.declared.event.Event.TheVariants.{Act}
use Rattle.legal_steps.specs.declared.phase.Drinking.{Drinking}
use Rattle.legal_steps.specs.declared.phase.Drinking.TheVariants.{Reaching}
use Rattle.legal_steps.specs.State.{State, drinking}
use Rattle.legal_steps.specs.Run.{IsLegalFrom, after_all}

-- the act of the job, if it has a command in hand
abbrev pub act_of : ℕ → Drinking → List Event
act_of j Reaching = Act j ∷ []
act_of j _ = []

-- those of the jobs below n
abbrev pub acts_below : State → ℕ → List Event
acts_below s zero = []
acts_below s (suc n) = acts_below s n ++ act_of n (drinking s n)

-- those of all jobs, in ascending order
abbrev pub acts_in_hand : LabPlan → State → List Event
acts_in_hand plan s = acts_below s (length plan.jobs)

-- they are legal, one after another, and then no job has a command in hand
pub record BringsToRest (plan : LabPlan) (s : State) (acts : List Event) : Type 0 where
  pub legal : IsLegalFrom plan s acts
  pub rests : (j : ℕ) → j < length plan.jobs → drinking (after_all plan s acts) j ≢ Reaching
