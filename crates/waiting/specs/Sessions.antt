-- For readers: in which rounds a session began, drank and ended, and a meal was wanted, had and ended. Rounds are counted from 1.
use Rattle.std.specs.Prelude.{ℕ, ◌+◌, Bool, true, false, List, [], ◌∷◌, ◌++◌, Option, None, Some, map, if◌then◌else◌}
use Rattle.legal_steps.specs.declared.event.Event.{Event}
use Rattle.legal_steps.specs.declared.event.Event.TheVariants.{Thirst, Hunger, Sit, Leave, Drink, Quit, Withdraw}
use Rattle.turns.specs.History.{events_by}
use Rattle.waiting.specs.declared.session.Session.{Session}
use Rattle.waiting.specs.declared.session.Meal.{Meal}

-- ---- kinds of events

abbrev pub is_thirst : Event → Bool
is_thirst (Thirst j) = true
is_thirst _ = false

abbrev pub is_drink : Event → Bool
is_drink (Drink j) = true
is_drink _ = false

abbrev pub is_quit : Event → Bool
is_quit (Quit j) = true
is_quit _ = false

abbrev pub is_withdraw : Event → Bool
is_withdraw (Withdraw j) = true
is_withdraw _ = false

abbrev pub is_hunger : Event → Bool
is_hunger (Hunger j) = true
is_hunger _ = false

abbrev pub is_sit : Event → Bool
is_sit (Sit j) = true
is_sit _ = false

abbrev pub is_leave : Event → Bool
is_leave (Leave j) = true
is_leave _ = false

-- ---- the events of a job, each with the number of its round

pub record Deed : Type 0 where
  pub round : ℕ
  pub event : Event

abbrev pub in_round : ℕ → List Event → List Deed
in_round k events = map (λ event. record { round = k; event = event }) events

-- of rounds whose first has this number
abbrev pub deeds_from : ℕ → ℕ → List (List Event) → List Deed
deeds_from j k [] = []
deeds_from j k (round ∷ later) = in_round k (events_by j round) ++ deeds_from j (k + 1) later

abbrev pub deeds_of : ℕ → List (List Event) → List Deed
deeds_of j rounds = deeds_from j 1 rounds

-- ---- what begins with each event of a kind, and goes on up to the next of it

-- the deeds before the first of this kind
abbrev pub before : (Event → Bool) → List Deed → List Deed
before kind [] = []
before kind (deed ∷ later) = if kind deed.event then [] else deed ∷ before kind later

-- the round of the first of this kind
abbrev pub first_round : (Event → Bool) → List Deed → Option ℕ
first_round kind [] = None
first_round kind (deed ∷ later) = if kind deed.event then Some deed.round else first_round kind later

-- what is made of the round of each event of this kind, and of the deeds from there up to the next of it
abbrev pub parts : {A : Type 0} → (Event → Bool) → (ℕ → List Deed → A) → List Deed → List A
parts kind make [] = []
parts kind make (deed ∷ later) =
    if kind deed.event then make deed.round (before kind later) ∷ parts kind make later else parts kind make later

-- a session goes from a Thirst up to the next: there it drinks, is done, or is given up
abbrev pub session : ℕ → List Deed → Session
session k deeds = record { thirsty = k; drinks = first_round is_drink deeds; done = first_round is_quit deeds; given_up = first_round is_withdraw deeds }

abbrev pub sessions_of : List Deed → List Session
sessions_of deeds = parts is_thirst session deeds

-- a meal goes from a Hunger up to the next: there the job sits down, and leaves
abbrev pub meal : ℕ → List Deed → Meal
meal k deeds = record { hungry = k; sits = first_round is_sit deeds; leaves = first_round is_leave deeds }

abbrev pub meals_of : List Deed → List Meal
meals_of deeds = parts is_hunger meal deeds
