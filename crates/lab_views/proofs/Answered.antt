-- From what a view answers for an input to what it answers for a source.
use Rattle.std.proofs.Common.{◌≡◌, ℕ, ◌≤◌, List, Option, None, Result, Ok, Err, length, refl, sym, subst}
use Rattle.std.specs.Prelude.{IfSome}
use Rattle.std.proofs.KnownBytes.{Keeps-refl}
use Rattle.lab_program.specs.declared.input.ReadFault.{ReadFault}
use Rattle.lab_program.specs.declared.input.ReadFault.TheVariants as reading
use Rattle.lab_program.specs.declared.faults.RunFault.{RunFault}
use Rattle.lab_program.specs.declared.faults.Outcome.{Outcome}
use Rattle.lab_program.specs.declared.faults.Outcome.TheVariants.{Finished, Unfinished}
use Rattle.lab_program.specs.Faults.{fault_of}
use Rattle.lab_program.specs.Input.{IsTooLong}
use Rattle.lab_program.specs.Answers.{AnswersFor, AnswersTo, ScriptRefuses}
use Rattle.lab_program.proofs.RunAnswers.{for_read, not_read}
use Rattle.timeline.specs.declared.fault.TimelineFault.{TimelineFault}
use Rattle.measured_orders.specs.declared.gain.Gain.{Gain}
use Rattle.labview_words.specs.declared.words.View.{View}
use Rattle.labview_words.specs.declared.words.View.TheVariants.{Explain, Picture, Table, Arrange, ArrangeMeasured, Trace, Waits, Blocks, Gantt}
use Rattle.lab_views.specs.declared.picture_fault.PictureFault.{PictureFault}
use Rattle.lab_views.specs.declared.picture_fault.PictureFault.TheVariants.{Report, Timeline, Read, TooLong, Write, NoMemory}
use Rattle.lab_views.specs.declared.view_fault.ViewFault.{ViewFault}
use Rattle.lab_views.specs.declared.view_fault.ViewFault.TheVariants.{OfScript, OfReport, GivenScript, GivenReport}
use Rattle.lab_views.specs.Views.{Explains, StepsAreRefused}
use Rattle.lab_views.specs.ReportViews.{ReportAnswersFor, ReportAnswersTo}
use Rattle.lab_views.specs.Pictures.{Pictures, HasNoTimeline, for_reading}
use Rattle.lab_views.specs.Tables.{Tabulates, LacksNothing}
use Rattle.lab_views.specs.Arranged.{Arranges}
use Rattle.lab_views.specs.BestOrders.{ArrangesBest}
use Rattle.lab_views.specs.Traces.{WritesTrace, TraceRefuses}
use Rattle.lab_views.specs.Waits.{TellsWaits}
use Rattle.lab_views.specs.Blocks.{TellsBlocks}
use Rattle.lab_views.specs.Gantts.{DrawsRun}
use Rattle.lab_views.specs.Answered.{ForReport, ForScript, IsGiven, IsReport, IsScript, NotRead, TellsGain, TellsOfReport, TellsOfScript, ViewAnswers, ViewAnswersFor}

-- ---- what is told of an answer

of_script_on : (A B : Type 0) → (A → B) → (answer : Result Outcome RunFault) (r : Result Outcome ViewFault) → TellsOfScript A answer r → TellsOfScript B answer r
of_script_on A B f answer (Ok outcome) t = t
of_script_on A B f answer (Err (OfScript fault)) t = t
of_script_on A B f answer (Err (OfReport fault)) t = t
of_script_on A B f answer (Err (GivenScript line view)) t = t
of_script_on A B f answer (Err (GivenReport line view)) t = (t.0, t.1, t.2, f t.3)

of_report_on : (A B : Type 0) → (A → B) → (answer : Result (Unit {0}) PictureFault) (r : Result Outcome ViewFault) → TellsOfReport A answer r → TellsOfReport B answer r
of_report_on A B f answer (Ok Finished) t = t
of_report_on A B f answer (Ok Unfinished) t = t
of_report_on A B f answer (Err (OfScript fault)) t = t
of_report_on A B f answer (Err (OfReport fault)) t = t
of_report_on A B f answer (Err (GivenScript line view)) t = (t.0, t.1, t.2, f t.3)
of_report_on A B f answer (Err (GivenReport line view)) t = t

-- ---- inputs that are read

given : (Is : List ℕ → Type 0) (left : Option (List ℕ)) (seen input : List ℕ) → seen ≡ input → IfSome left (λ all. input ≡ all) → length input ≤ 16777216
    → Is seen → IsGiven Is left
given Is left seen input is whole within it = (input, record { whole = whole; within = within }, subst Is is it)

script_at : (Writes : List ℕ → List ℕ → Outcome → Type 0) (Refuses : List ℕ → RunFault → Type 0)
    (left old new : Option (List ℕ)) (seen input : List ℕ) (r : Result Outcome ViewFault)
    → seen ≡ input → IfSome left (λ all. input ≡ all) → length input ≤ 16777216
    → ForScript (λ a. AnswersFor Writes Refuses seen old new a) (IsReport seen) r → ForScript (λ a. AnswersTo Writes Refuses left old new a) (IsGiven IsReport left) r
script_at W R left old new seen input r is whole within a = (
  a.0,
  for_read W R left old new seen input a.0 is whole within a.1,
  of_script_on (IsReport seen) (IsGiven IsReport left) (given IsReport left seen input is whole within) a.0 r a.2,
)

read_at : (Writes : List ℕ → List ℕ → Type 0) (Lacks : List ℕ → TimelineFault → Type 0)
    (left old new : Option (List ℕ)) (input : List ℕ) (a : Result (Unit {0}) PictureFault)
    → IfSome left (λ all. input ≡ all) → length input ≤ 16777216 → ReportAnswersFor Writes Lacks input old new a → ReportAnswersTo Writes Lacks left old new a
read_at W L left old new input (Ok done) whole within d = (input, record { whole = whole; within = within }, d)
read_at W L left old new input (Err (Report fault)) whole within d = (input, record { whole = whole; within = within }, d)
read_at W L left old new input (Err (Timeline fault)) whole within d = (input, record { whole = whole; within = within }, d)
read_at W L left old new input (Err Write) whole within d = (input, record { whole = whole; within = within }, d)
read_at W L left old new input (Err Read) whole within d = absurd d
read_at W L left old new input (Err TooLong) whole within d = absurd d
read_at W L left old new input (Err NoMemory) whole within d = d

report_at : (Writes : List ℕ → List ℕ → Type 0) (Lacks : List ℕ → TimelineFault → Type 0)
    (left old new : Option (List ℕ)) (seen input : List ℕ) (r : Result Outcome ViewFault)
    → seen ≡ input → IfSome left (λ all. input ≡ all) → length input ≤ 16777216
    → ForReport (λ a. ReportAnswersFor Writes Lacks seen old new a) (IsScript seen) r
    → ForReport (λ a. ReportAnswersTo Writes Lacks left old new a) (IsGiven IsScript left) r
report_at W L left old new seen input r is whole within a = (
  a.0,
  read_at W L left old new input a.0 whole within (subst (λ t. ReportAnswersFor W L t old new a.0) is a.1),
  of_report_on (IsScript seen) (IsGiven IsScript left) (given IsScript left seen input is whole within) a.0 r a.2,
)

pub at_source : (view : View) (told : Option Gain) (left old new : Option (List ℕ)) (seen input : List ℕ) (r : Result Outcome ViewFault)
    → seen ≡ input → IfSome left (λ all. input ≡ all) → length input ≤ 16777216 → ViewAnswersFor view told seen old new r → ViewAnswers view told left old new r
at_source Explain told left old new seen input r is whole within a = script_at Explains StepsAreRefused left old new seen input r is whole within a
at_source Picture told left old new seen input r is whole within a = report_at Pictures HasNoTimeline left old new seen input r is whole within a
at_source Table told left old new seen input r is whole within a = report_at Tabulates LacksNothing left old new seen input r is whole within a
at_source Arrange told left old new seen input r is whole within a = script_at Arranges ScriptRefuses left old new seen input r is whole within a
at_source (ArrangeMeasured limit) told left old new seen input r is whole within a = script_at (ArrangesBest limit told) ScriptRefuses left old new seen input r is whole within a
at_source (Trace limit) told left old new seen input r is whole within a = script_at (WritesTrace limit) TraceRefuses left old new seen input r is whole within a
at_source (Waits limit) told left old new seen input r is whole within a = script_at (TellsWaits limit) ScriptRefuses left old new seen input r is whole within a
at_source (Blocks limit) told left old new seen input r is whole within a = script_at (TellsBlocks limit) ScriptRefuses left old new seen input r is whole within a
at_source (Gantt limit) told left old new seen input r is whole within a = script_at (DrawsRun limit) ScriptRefuses left old new seen input r is whole within a

-- ---- inputs that are not read

script_unread : (Writes : List ℕ → List ℕ → Outcome → Type 0) (Refuses : List ℕ → RunFault → Type 0) (left old : Option (List ℕ)) (e : ReadFault) (told : ViewFault)
    → told ≡ OfScript (fault_of e) → (e ≡ reading.TooLong → IsTooLong left)
    → ForScript (λ a. AnswersTo Writes Refuses left old old a) (IsGiven IsReport left) (Err told)
script_unread W R left old e told is long =
    subst (λ t. ForScript (λ a. AnswersTo W R left old old a) (IsGiven IsReport left) (Err t)) (sym is)
    (Err (fault_of e), not_read W R left old e (Err (fault_of e)) refl long, refl)

unread_at : (Writes : List ℕ → List ℕ → Type 0) (Lacks : List ℕ → TimelineFault → Type 0)
    (left old : Option (List ℕ)) (e : ReadFault) → (e ≡ reading.TooLong → IsTooLong left) → ReportAnswersTo Writes Lacks left old old (Err (for_reading e))
unread_at W L left old reading.Read long = Keeps-refl old
unread_at W L left old reading.TooLong long = (long refl, Keeps-refl old)
unread_at W L left old reading.NoMemory long = Keeps-refl old

report_unread : (Writes : List ℕ → List ℕ → Type 0) (Lacks : List ℕ → TimelineFault → Type 0) (left old : Option (List ℕ)) (e : ReadFault) (told : ViewFault)
    → told ≡ OfReport (for_reading e) → (e ≡ reading.TooLong → IsTooLong left)
    → ForReport (λ a. ReportAnswersTo Writes Lacks left old old a) (IsGiven IsScript left) (Err told)
report_unread W L left old e told is long =
    subst (λ t. ForReport (λ a. ReportAnswersTo W L left old old a) (IsGiven IsScript left) (Err t)) (sym is) (Err (for_reading e), unread_at W L left old e long, refl)

pub unread : (view : View) (gain : Option Gain) (left old : Option (List ℕ)) (e : ReadFault) (told : ViewFault) → NotRead view e told → (e ≡ reading.TooLong → IsTooLong left)
    → ViewAnswers view gain left old old (Err told)
unread Explain gain left old e told is long = script_unread Explains StepsAreRefused left old e told is long
unread Picture gain left old e told is long = report_unread Pictures HasNoTimeline left old e told is long
unread Table gain left old e told is long = report_unread Tabulates LacksNothing left old e told is long
unread Arrange gain left old e told is long = script_unread Arranges ScriptRefuses left old e told is long
unread (ArrangeMeasured limit) gain left old e told is long = script_unread (ArrangesBest limit gain) ScriptRefuses left old e told is long
unread (Trace limit) gain left old e told is long = script_unread (WritesTrace limit) TraceRefuses left old e told is long
unread (Waits limit) gain left old e told is long = script_unread (TellsWaits limit) ScriptRefuses left old e told is long
unread (Blocks limit) gain left old e told is long = script_unread (TellsBlocks limit) ScriptRefuses left old e told is long
unread (Gantt limit) gain left old e told is long = script_unread (DrawsRun limit) ScriptRefuses left old e told is long

pub tells_none : (view : View) → TellsGain view None
tells_none Explain = refl
tells_none Picture = refl
tells_none Table = refl
tells_none Arrange = refl
tells_none (ArrangeMeasured limit) = tt
tells_none (Trace limit) = refl
tells_none (Waits limit) = refl
tells_none (Blocks limit) = refl
tells_none (Gantt limit) = refl
