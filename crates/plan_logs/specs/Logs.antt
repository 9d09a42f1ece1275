-- The logs of a plan's instruments, and a job that adds to them.
use Rattle.std.specs.Prelude.{ℕ, ◌<◌, ◌≤◌, List, length, map}
use Rattle.std.specs.List.{range_with_len}
use Rattle.lab_plan.specs.LabPlan.{LabPlan, sessions, commands}
use Rattle.instrument_log.specs.declared.entry.Entry.{Entry}
use Rattle.instrument_log.specs.InstrumentLog.{LogView, empty_log}
use Rattle.legal_steps.specs.declared.phase.JobState.{JobState}
use Rattle.legal_steps.specs.WholeLogs.{room_of}

-- an empty log for each instrument, with room for the plan's commands on it
abbrev pub empty_logs : LabPlan → List LogView
empty_logs plan = map (λ i. empty_log (room_of plan i)) (range_with_len 0 (length plan.instruments))

-- a job that is so far has a command left in its session
pub record IsAtCommand (plan : LabPlan) (j : ℕ) (x : JobState) : Type 0 where
  pub is_job : j < length plan.jobs
  pub begun : 1 ≤ x.session
  pub session_there : x.session ≤ length (sessions plan j)
  pub left : x.position < length (commands plan j x.session)

-- an entry with another value, and with none yet
abbrev pub with_value : Entry → ℕ → Entry
with_value entry value = record entry { value = value }

abbrev pub without_value : Entry → Entry
without_value entry = with_value entry 0
