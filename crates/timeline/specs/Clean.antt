-- Logs in which nothing is seen that is wrong with an entry.
use Rattle.std.specs.Prelude.{ℕ, List}
use Rattle.std.specs.List.{All}
use Rattle.report_reader.specs.Line.{EntryText, JobText}
use Rattle.report_reader.specs.Report.{LogText}
use Rattle.timeline.specs.declared.fault.EntryCause.{EntryCause}
use Rattle.timeline.specs.Faults.{FailsAlone, IsOutOfOrder}

-- the entry has no fault that is seen of it by itself or by the one before it
pub record IsCleanAt (jobs : List JobText) (entries : List EntryText) (k : ℕ) : Type 0 where
  pub alone : (cause : EntryCause) → FailsAlone jobs entries k cause → ⊥
  pub in_order : IsOutOfOrder entries k → ⊥

-- no entry of a log has
abbrev pub IsClean : List JobText → List EntryText → Type 0
IsClean jobs entries = (k : ℕ) → IsCleanAt jobs entries k

-- none of any log has
abbrev pub AllClean : List JobText → List LogText → Type 0
AllClean jobs logs = All (λ (log : LogText). IsClean jobs log.entries) logs
