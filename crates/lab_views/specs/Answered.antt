-- For readers: what is answered to a view.
use Rattle.std.specs.Prelude.{◌≡◌, ℕ, List, Option, None, Result, Ok, Err}
use Rattle.lab_plan.specs.LabPlan.{LabPlan}
use Rattle.legal_steps.specs.declared.event.StepLine.{StepLine}
use Rattle.script_reader.specs.declared.fault.ScriptFault.{ScriptFault}
use Rattle.script_reader.specs.Steps.{StepsMean}
use Rattle.report_reader.specs.declared.fault.ReportFault.{ReportFault}
use Rattle.report_reader.specs.Report.{ReportText, IsTextOf}
use Rattle.lab_program.specs.declared.input.ReadFault.{ReadFault}
use Rattle.lab_program.specs.declared.faults.RunFault.{RunFault}
use Rattle.lab_program.specs.declared.faults.RunFault.TheVariants as run
use Rattle.lab_program.specs.declared.faults.Outcome.{Outcome}
use Rattle.lab_program.specs.declared.faults.Outcome.TheVariants.{Finished}
use Rattle.lab_program.specs.Faults.{failed_reads, failed_writes, fault_of, status_of}
use Rattle.lab_program.specs.Input.{IsInput}
use Rattle.lab_program.specs.Answers.{AnswersFor, ScriptRefuses}
use Rattle.measured_orders.specs.declared.gain.Gain.{Gain}
use Rattle.labview_words.specs.declared.words.View.{View}
use Rattle.labview_words.specs.declared.words.View.TheVariants.{Explain, Picture, Table, Arrange, ArrangeMeasured, Trace, Waits, Blocks, Gantt}
use Rattle.lab_views.specs.declared.picture_fault.PictureFault.{PictureFault}
use Rattle.lab_views.specs.declared.picture_fault.PictureFault.TheVariants as picture
use Rattle.lab_views.specs.declared.view_fault.ViewFault.{ViewFault}
use Rattle.lab_views.specs.declared.view_fault.ViewFault.TheVariants.{OfScript, OfReport, GivenScript, GivenReport}
use Rattle.lab_views.specs.Views.{Explains, StepsAreRefused, ExplainAnswers}
use Rattle.lab_views.specs.Pictures.{DrawsFor, PictureAnswers, failed_picture_reads, failed_picture_writes, for_reading, status_of_picture}
use Rattle.lab_views.specs.Tables.{TabulatesFor, TableAnswers}
use Rattle.lab_views.specs.Arranged.{Arranges, ArrangeAnswers}
use Rattle.lab_views.specs.BestOrders.{ArrangesBest, ArrangesBestAnswers}
use Rattle.lab_views.specs.Traces.{WritesTrace, TraceRefuses, TraceAnswers}
use Rattle.lab_views.specs.Waits.{TellsWaits, WaitsAnswers}
use Rattle.lab_views.specs.Blocks.{TellsBlocks, BlocksAnswers}
use Rattle.lab_views.specs.Gantts.{DrawsRun, GanttAnswers}

-- ---- an input of the other kind

-- the input is a report's text
abbrev pub IsReport : List ℕ → Type 0
IsReport input = (report : ReportText) × IsTextOf report input

-- the input is a script, with or without steps
abbrev pub IsScript : List ℕ → Type 0
IsScript input = (plan : LabPlan) × (steps : List StepLine) × StepsMean input plan steps

-- a script's answer is given as it is; but of a script that is refused it may be said that it is a report, if it is one
abbrev pub TellsOfScript : Type 0 → Result Outcome RunFault → Result Outcome ViewFault → Type 0
TellsOfScript Other answer (Ok outcome) = answer ≡ Ok outcome
TellsOfScript Other answer (Err (OfScript fault)) = answer ≡ Err fault
TellsOfScript Other answer (Err (GivenReport line view)) = (fault : ScriptFault) × (answer ≡ Err (run.Script fault)) × (line ≡ fault.line) × Other
TellsOfScript Other answer (Err fault) = ⊥

-- a report's answer is given as it is; but of a report that is refused it may be said that it is a script, if it is one
abbrev pub TellsOfReport : Type 0 → Result (Unit {0}) PictureFault → Result Outcome ViewFault → Type 0
TellsOfReport Other answer (Ok Finished) = answer ≡ Ok tt
TellsOfReport Other answer (Err (OfReport fault)) = answer ≡ Err fault
TellsOfReport Other answer (Err (GivenScript line view)) = (fault : ReportFault) × (answer ≡ Err (picture.Report fault)) × (line ≡ fault.line) × Other
TellsOfReport Other answer result = ⊥

-- ---- a view's answer

abbrev pub ForScript : (Result Outcome RunFault → Type 0) → Type 0 → Result Outcome ViewFault → Type 0
ForScript Answers Other result = (answer : Result Outcome RunFault) × Answers answer × TellsOfScript Other answer result

abbrev pub ForReport : (Result (Unit {0}) PictureFault → Type 0) → Type 0 → Result Outcome ViewFault → Type 0
ForReport Answers Other result = (answer : Result (Unit {0}) PictureFault) × Answers answer × TellsOfReport Other answer result

-- for an input, what a sink has taken before and after, and what is reported of the best order's gain
abbrev pub ViewAnswersFor : View → Option Gain → List ℕ → Option (List ℕ) → Option (List ℕ) → Result Outcome ViewFault → Type 0
ViewAnswersFor Explain told input old new result = ForScript (λ a. AnswersFor Explains StepsAreRefused input old new a) (IsReport input) result
ViewAnswersFor Picture told input old new result = ForReport (λ a. DrawsFor input old new a) (IsScript input) result
ViewAnswersFor Table told input old new result = ForReport (λ a. TabulatesFor input old new a) (IsScript input) result
ViewAnswersFor Arrange told input old new result = ForScript (λ a. AnswersFor Arranges ScriptRefuses input old new a) (IsReport input) result
ViewAnswersFor (ArrangeMeasured limit) told input old new result =
    ForScript (λ a. AnswersFor (ArrangesBest limit told) ScriptRefuses input old new a) (IsReport input) result
ViewAnswersFor (Trace limit) told input old new result = ForScript (λ a. AnswersFor (WritesTrace limit) TraceRefuses input old new a) (IsReport input) result
ViewAnswersFor (Waits limit) told input old new result = ForScript (λ a. AnswersFor (TellsWaits limit) ScriptRefuses input old new a) (IsReport input) result
ViewAnswersFor (Blocks limit) told input old new result = ForScript (λ a. AnswersFor (TellsBlocks limit) ScriptRefuses input old new a) (IsReport input) result
ViewAnswersFor (Gantt limit) told input old new result = ForScript (λ a. AnswersFor (DrawsRun limit) ScriptRefuses input old new a) (IsReport input) result

-- what a source had left is so
abbrev pub IsGiven : (List ℕ → Type 0) → Option (List ℕ) → Type 0
IsGiven Is left = (input : List ℕ) × IsInput left input × Is input

-- for what a source had left
abbrev pub ViewAnswers : View → Option Gain → Option (List ℕ) → Option (List ℕ) → Option (List ℕ) → Result Outcome ViewFault → Type 0
ViewAnswers Explain told left old new result = ForScript (λ a. ExplainAnswers left old new a) (IsGiven IsReport left) result
ViewAnswers Picture told left old new result = ForReport (λ a. PictureAnswers left old new a) (IsGiven IsScript left) result
ViewAnswers Table told left old new result = ForReport (λ a. TableAnswers left old new a) (IsGiven IsScript left) result
ViewAnswers Arrange told left old new result = ForScript (λ a. ArrangeAnswers left old new a) (IsGiven IsReport left) result
ViewAnswers (ArrangeMeasured limit) told left old new result = ForScript (λ a. ArrangesBestAnswers limit told left old new a) (IsGiven IsReport left) result
ViewAnswers (Trace limit) told left old new result = ForScript (λ a. TraceAnswers limit left old new a) (IsGiven IsReport left) result
ViewAnswers (Waits limit) told left old new result = ForScript (λ a. WaitsAnswers limit left old new a) (IsGiven IsReport left) result
ViewAnswers (Blocks limit) told left old new result = ForScript (λ a. BlocksAnswers limit left old new a) (IsGiven IsReport left) result
ViewAnswers (Gantt limit) told left old new result = ForScript (λ a. GanttAnswers limit left old new a) (IsGiven IsReport left) result

-- only `arrange N` reports what was gained
abbrev pub TellsGain : View → Option Gain → Type 0
TellsGain (ArrangeMeasured limit) told = Unit
TellsGain view told = told ≡ None

-- why an input was not read
abbrev pub NotRead : View → ReadFault → ViewFault → Type 0
NotRead Picture fault told = told ≡ OfReport (for_reading fault)
NotRead Table fault told = told ≡ OfReport (for_reading fault)
NotRead view fault told = told ≡ OfScript (fault_of fault)

-- how often a read, and a write or a flush, failed in a run that answers so
abbrev pub failed_view_reads : Result Outcome ViewFault → ℕ
failed_view_reads (Err (OfScript fault)) = failed_reads (Err fault)
failed_view_reads (Err (OfReport fault)) = failed_picture_reads (Err fault)
failed_view_reads result = 0

abbrev pub failed_view_writes : Result Outcome ViewFault → ℕ
failed_view_writes (Err (OfScript fault)) = failed_writes (Err fault)
failed_view_writes (Err (OfReport fault)) = failed_picture_writes (Err fault)
failed_view_writes result = 0

-- the status that the program ends with
abbrev pub status_of_view : Result Outcome ViewFault → ℕ
status_of_view (Ok outcome) = status_of (Ok outcome)
status_of_view (Err (OfScript fault)) = status_of (Err fault)
status_of_view (Err (OfReport fault)) = status_of_picture (Err fault)
status_of_view (Err (GivenScript line view)) = 1
status_of_view (Err (GivenReport line view)) = 1
