-- A log with its room, what its type keeps, and what an append does.
use Rattle.std.specs.Prelude.{◌≡◌, ◌≢◌, ℕ, ◌≤◌, ◌<◌, List, [], ◌∷◌, ◌++◌, length, All, Result, Ok, Err}
use Rattle.std.specs.Option.{MatchOption}
use Rattle.instrument_log.specs.declared.entry.Entry.{Entry}
use Rattle.instrument_log.specs.declared.refusal.LogRefusal.{LogRefusal}
use Rattle.instrument_log.specs.declared.refusal.LogRefusal.TheVariants.{NotNextPlace, NotFirstPlace, NoRoom}
use Rattle.instrument_log.specs.Entries.{IsWithinLimits}
use Rattle.instrument_log.specs.Dial.{HasDialValues}
use Rattle.instrument_log.specs.Parts.{open_entry, IsNextPlace, Follows, IsPartsButEnd}

-- the entries of a log in order, and how many it has room for
pub record LogView : Type 0 where
  pub entries : List Entry
  pub room : ℕ

-- the log without any entry
abbrev pub empty_log : ℕ → LogView
empty_log room = record { entries = []; room = room }

-- the log with another room
abbrev pub with_room : ℕ → LogView → LogView
with_room room log = record log { room = room }

-- the log with one more entry
abbrev pub with_entry : LogView → Entry → LogView
with_entry log entry = record log { entries = log.entries ++ entry ∷ [] }

-- what a log's type keeps
pub record IsLog (log : LogView) : Type 0 where
  pub whole_but_end : IsPartsButEnd log.entries
  pub on_dial : HasDialValues log.entries
  pub within_limits : All IsWithinLimits log.entries
  pub fits_room : length log.entries ≤ log.room

-- the log takes the entry: it follows, and there is room
pub record MayAppend (log : LogView) (entry : Entry) : Type 0 where
  pub follows : Follows log.entries entry
  pub has_room : length log.entries < log.room

-- why the log refuses the entry
abbrev pub IsRefused : LogView → Entry → LogRefusal → Type 0
IsRefused log entry NotNextPlace = MatchOption (open_entry log.entries) ⊥ (λ before. ¬ IsNextPlace before entry)
IsRefused log entry NotFirstPlace = MatchOption (open_entry log.entries) (entry.place ≢ 1) (λ before. ⊥)
IsRefused log entry NoRoom = Follows log.entries entry × (length log.entries ≡ log.room)

-- an append adds exactly the entry, or says why it is refused and changes nothing
abbrev pub Appends : LogView → Entry → Result Unit LogRefusal → LogView → Type 0
Appends old entry (Ok done) new = MayAppend old entry × (new ≡ with_entry old entry)
Appends old entry (Err refusal) new = IsRefused old entry refusal × (new ≡ old)
