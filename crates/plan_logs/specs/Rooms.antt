-- How many commands are on each instrument, in a list by its number.
use Rattle.std.specs.Prelude.{◌≡◌, ℕ, ◌+◌, ◌<◌, List, length, slice_index_or}
use Rattle.std.specs.List.{flat_map}
use Rattle.lab_plan.specs.LabPlan.{LabPlan, sessions, count_on}
use Rattle.legal_steps.specs.WholeLogs.{room_of}

-- all of a job's commands on the instrument
abbrev pub on_by : LabPlan → ℕ → ℕ → ℕ
on_by plan i j = count_on i (flat_map (λ session. session.commands) (sessions plan j))

-- to each number of the list, its own was added
pub record AreAdded (f : ℕ → ℕ) (old new : List ℕ) : Type 0 where
  pub wide : length new ≡ length old
  pub each : (i : ℕ) → i < length old → slice_index_or new i 0 ≡ slice_index_or old i 0 + f i

-- the number of each instrument is the room that its log needs
pub record AreRooms (plan : LabPlan) (rooms : List ℕ) : Type 0 where
  pub wide : length rooms ≡ length plan.instruments
  pub each : (i : ℕ) → i < length plan.instruments → slice_index_or rooms i 0 ≡ room_of plan i
