-- Logs with room for all that a plan puts into them.
use Rattle.std.specs.Prelude.{◌≡◌, ℕ, ◌+◌, ◌<◌, ◌≤◌, List, length, slice_index_or}
use Rattle.lab_plan.specs.declared.verb.Verb.{Verb}
use Rattle.lab_plan.specs.LabPlan.{LabPlan, count_on}
use Rattle.instrument_log.specs.InstrumentLog.{LogView, empty_log, with_room}
use Rattle.legal_steps.specs.WholeLogs.{room_of}

-- the log of instrument i
abbrev pub log_at : List LogView → ℕ → LogView
log_at logs i = slice_index_or logs i (empty_log 0)

-- each log has room for the plan's commands on its instrument
abbrev pub HasRooms : LabPlan → List LogView → Type 0
HasRooms plan logs = (i : ℕ) → i < length logs → (log_at logs i).room ≡ room_of plan i

-- ---- more room

-- the log with room for those of these commands besides that are on its instrument
abbrev pub more_room : LogView → ℕ → List (ℕ × Verb) → LogView
more_room log i commands = with_room (log.room + count_on i commands) log

-- the logs below n have that room besides, and the others are as they were
pub record HaveMoreBelow (n : ℕ) (commands : List (ℕ × Verb)) (old new : List LogView) : Type 0 where
  pub as_many : length new ≡ length old
  pub more : (i : ℕ) → i < n → i < length old → log_at new i ≡ more_room (log_at old i) i commands
  pub others : (i : ℕ) → n ≤ i → log_at new i ≡ log_at old i

-- all have it
abbrev pub HaveMore : List (ℕ × Verb) → List LogView → List LogView → Type 0
HaveMore commands old new = HaveMoreBelow (length old) commands old new

-- each log below n may do without the room of these commands
abbrev pub MaySpareBelow : ℕ → List (ℕ × Verb) → List LogView → Type 0
MaySpareBelow n commands logs =
    (i : ℕ) → i < n → i < length logs → length (log_at logs i).entries + count_on i commands ≤ (log_at logs i).room

abbrev pub MaySpare : List (ℕ × Verb) → List LogView → Type 0
MaySpare commands logs = MaySpareBelow (length logs) commands logs
