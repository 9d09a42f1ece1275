-- Events that are kept as they happen, so that they can be written down later.
use Rattle.std.specs.Prelude.{◌≡◌, ℕ, Bool, true, false, ltb, if◌then◌else◌, List, [], ◌∷◌, ◌++◌, length}
use Rattle.legal_steps.specs.declared.event.Event.{Event}

-- the events since they were taken last, of at most room; whole as long as no event was left out
pub record TapeView : Type 0 where
  pub room : ℕ
  pub events : List Event
  pub whole : Bool

abbrev pub no_kept : TapeView
no_kept = record { room = 0; events = []; whole = true }

-- one more event, if there is room for it
abbrev pub next_kept : TapeView → Event → TapeView
next_kept kept event = if ltb (length kept.events) kept.room then record kept { events = kept.events ++ event ∷ [] } else record kept { whole = false }

abbrev pub after_kept : TapeView → List Event → TapeView
after_kept kept [] = kept
after_kept kept (event ∷ events) = after_kept (next_kept kept event) events

-- if they are whole, the past ends with them
abbrev pub IsKept : List Event → TapeView → Type 0
IsKept past kept = kept.whole ≡ true → (before : List Event) × (past ≡ before ++ kept.events)
