-- For readers: runs: lists of events, each legal after the ones before; and what is counted in them.
use Rattle.std.specs.Prelude.{◌≡◌, ℕ, ◌<◌, Bool, false, List, [], ◌∷◌, length, take, ◌==◌, Some, slice_get}
use Rattle.std.specs.List.{count_by}
use Rattle.lab_plan.specs.LabPlan.{LabPlan}
use Rattle.legal_steps.specs.declared.event.Event.{Event}
use Rattle.legal_steps.specs.declared.event.Event.TheVariants.{Look, AskFork, GiveFork, Soil, AskBottles, GiveBottles, Thirst, Hunger}
use Rattle.legal_steps.specs.declared.event.Event.TheVariants.{Sit, Leave, Drink, Reach, Act, Quit, Retire, Glance, Withdraw}
use Rattle.legal_steps.specs.State.{State}
use Rattle.legal_steps.specs.Legal.{May, after}

-- each event of the list is legal after the ones before it
abbrev pub IsLegalFrom : LabPlan → State → List Event → Type 0
IsLegalFrom plan s [] = Unit {0}
IsLegalFrom plan s (event ∷ events) = May plan s event × IsLegalFrom plan (after plan s event) events

-- the state after a list of events
abbrev pub after_all : LabPlan → State → List Event → State
after_all plan s [] = s
after_all plan s (event ∷ events) = after_all plan (after plan s event) events

-- the list leads from s to s', each event legal after the ones before it
pub record Runs (plan : LabPlan) (s : State) (events : List Event) (s' : State) : Type 0 where
  pub legal : IsLegalFrom plan s events
  pub leads : s' ≡ after_all plan s events

-- the event at this place is the first that is not legal, and s' is the state before it
pub record StopsAt (plan : LabPlan) (s : State) (events : List Event) (place : ℕ) (s' : State) : Type 0 where
  pub before : Runs plan s (take place events) s'
  pub inside : place < length events
  pub not_legal : (event : Event) → slice_get events place ≡ Some event → ¬ May plan s' event

-- the job that acts
abbrev pub actor : Event → ℕ
actor (Look j e seen) = j
actor (AskFork j e) = j
actor (GiveFork j e) = j
actor (Soil j e) = j
actor (AskBottles j e set) = j
actor (GiveBottles j e set) = j
actor (Thirst j) = j
actor (Hunger j) = j
actor (Sit j) = j
actor (Leave j) = j
actor (Drink j) = j
actor (Reach j) = j
actor (Act j) = j
actor (Quit j) = j
actor (Retire j) = j
actor (Glance j other seen) = j
actor (Withdraw j) = j

-- ---- counts of a job in a list

abbrev pub is_sit : ℕ → Event → Bool
is_sit j (Sit other) = other == j
is_sit j _ = false

abbrev pub is_quit : ℕ → Event → Bool
is_quit j (Quit other) = other == j
is_quit j _ = false

abbrev pub is_withdraw : ℕ → Event → Bool
is_withdraw j (Withdraw other) = other == j
is_withdraw j _ = false

-- its meals, the sessions that it ended, and those that it gave up
abbrev pub meals_of : ℕ → List Event → ℕ
meals_of j events = count_by (is_sit j) events

abbrev pub sessions_done_of : ℕ → List Event → ℕ
sessions_done_of j events = count_by (is_quit j) events

abbrev pub withdrawn_of : ℕ → List Event → ℕ
withdrawn_of j events = count_by (is_withdraw j) events
