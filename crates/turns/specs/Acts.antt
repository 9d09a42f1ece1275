-- For readers: which phase act is due.
use Rattle.std.specs.Prelude.{◌≡◌, ◌⊎◌, ℕ, ◌≤◌, List, [], ◌∷◌}
use Rattle.std.specs.Option.{ForSome}
use Rattle.lab_plan.specs.LabPlan.{LabPlan, patience}
use Rattle.legal_steps.specs.declared.event.Event.{Event}
use Rattle.legal_steps.specs.declared.event.Event.TheVariants.{Thirst, Hunger, Sit, Leave, Drink, Reach, Act, Quit, Retire, Withdraw}
use Rattle.legal_steps.specs.State.{State, session}
use Rattle.legal_steps.specs.Legal.{May}

-- the patience of the job's session is used up, if it has one, by a count of its turns
abbrev pub IsUsedUp : LabPlan → State → ℕ → ℕ → Type 0
IsUsedUp plan s j waited = ForSome (patience plan j (session s j)) (λ n. n ≤ waited)

-- what an act asks for besides being legal: a session is given up only if its patience is used up
abbrev pub IsPatient : LabPlan → State → ℕ → ℕ → Event → Type 0
IsPatient plan s j waited (Withdraw k) = IsUsedUp plan s j waited
IsPatient plan s j waited _ = Unit {0}

-- the act counts as legal in a turn
abbrev pub Counts : LabPlan → State → ℕ → ℕ → Event → Type 0
Counts plan s j waited event = May plan s event × IsPatient plan s j waited event

-- the phase acts of a job, in the order in which they are tried; of a command, its Reach
abbrev pub order : ℕ → List Event
order j = Quit j ∷ Reach j ∷ Drink j ∷ Withdraw j ∷ Leave j ∷ Sit j ∷ Thirst j ∷ Hunger j ∷ Retire j ∷ []

-- a Reach goes with its Act
abbrev pub whole_act : Event → List Event
whole_act (Reach j) = Reach j ∷ Act j ∷ []
whole_act event = event ∷ []

-- these are the events of the first in the list that counts as legal, or none if none does
abbrev pub AreFirst : LabPlan → State → ℕ → ℕ → List Event → List Event → Type 0
AreFirst plan s j waited [] events = events ≡ []
AreFirst plan s j waited (x ∷ later) events =
    (Counts plan s j waited x × (events ≡ whole_act x)) ⊎ (¬ Counts plan s j waited x × AreFirst plan s j waited later events)

-- no phase act of the job is legal, but for giving the session up
pub record IsSettled (plan : LabPlan) (s : State) (j : ℕ) : Type 0 where
  pub no_quit : ¬ May plan s (Quit j)
  pub no_reach : ¬ May plan s (Reach j)
  pub no_drink : ¬ May plan s (Drink j)
  pub no_leave : ¬ May plan s (Leave j)
  pub no_sit : ¬ May plan s (Sit j)
  pub no_thirst : ¬ May plan s (Thirst j)
  pub no_hunger : ¬ May plan s (Hunger j)
  pub no_retire : ¬ May plan s (Retire j)

-- the events of the phase act that is due
abbrev pub AreActs : LabPlan → State → ℕ → ℕ → List Event → Type 0
AreActs plan s j waited events = AreFirst plan s j waited (order j) events
