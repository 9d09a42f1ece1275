-- For readers: what a view of reports answers for the input that it reads, and what has gone out then. What it writes for an input, and
-- which reports have no timeline for it, is each view's own.
use Rattle.std.specs.Prelude.{◌≡◌, ℕ, List, [], ◌∷◌, ◌++◌, Option, Result, Ok, Err}
use Rattle.std.specs.Io.KnownBytes.{Keeps, Appends}
use Rattle.report.specs.Taken.{AppendsPrefix}
use Rattle.report_reader.specs.declared.fault.ReportFault.{ReportFault}
use Rattle.report_reader.specs.Report.{text_lines}
use Rattle.report_reader.specs.Reading.{Refuses}
use Rattle.timeline.specs.declared.fault.TimelineFault.{TimelineFault}
use Rattle.lab_program.specs.Input.{IsInput, IsTooLong}
use Rattle.lab_views.specs.declared.picture_fault.PictureFault.{PictureFault}
use Rattle.lab_views.specs.declared.picture_fault.PictureFault.TheVariants.{Report, Timeline, Read, TooLong, Write, NoMemory}

-- the input is no report: its parts between line feeds are refused
pub record IsNoReport (input : List ℕ) (fault : ReportFault) : Type 0 where
  pub parts : List (List ℕ)
  pub tail : List ℕ
  pub lines : text_lines input ≡ parts ++ tail ∷ []
  pub refused : Refuses parts tail fault

-- for an input: Ok means that the text went out, and a write fault that a prefix of it did; otherwise nothing did
abbrev pub ReportAnswersFor : (List ℕ → List ℕ → Type 0) → (List ℕ → TimelineFault → Type 0)
    → List ℕ → Option (List ℕ) → Option (List ℕ) → Result (Unit {0}) PictureFault → Type 0
ReportAnswersFor Writes Lacks input old new (Ok done) = (text : List ℕ) × Writes input text × Appends old new text
ReportAnswersFor Writes Lacks input old new (Err Write) = (text : List ℕ) × Writes input text × AppendsPrefix old new text
ReportAnswersFor Writes Lacks input old new (Err (Report fault)) = IsNoReport input fault × Keeps old new
ReportAnswersFor Writes Lacks input old new (Err (Timeline fault)) = Lacks input fault × Keeps old new
ReportAnswersFor Writes Lacks input old new (Err NoMemory) = Keeps old new
ReportAnswersFor Writes Lacks input old new (Err Read) = ⊥
ReportAnswersFor Writes Lacks input old new (Err TooLong) = ⊥

-- for a source: what it had left was the input, or it was not read, or too long
abbrev pub ReportAnswersTo : (List ℕ → List ℕ → Type 0) → (List ℕ → TimelineFault → Type 0)
    → Option (List ℕ) → Option (List ℕ) → Option (List ℕ) → Result (Unit {0}) PictureFault → Type 0
ReportAnswersTo Writes Lacks left old new (Err Read) = Keeps old new
ReportAnswersTo Writes Lacks left old new (Err TooLong) = IsTooLong left × Keeps old new
ReportAnswersTo Writes Lacks left old new (Err NoMemory) = Keeps old new
ReportAnswersTo Writes Lacks left old new result = (input : List ℕ) × IsInput left input × ReportAnswersFor Writes Lacks input old new result
