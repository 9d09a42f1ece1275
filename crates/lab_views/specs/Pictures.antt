-- For readers: what is drawn for an input, and why nothing is.
use Rattle.std.specs.Prelude.{◌≡◌, ◌≢◌, ℕ, List, Option, Result, Ok, Err}
use Rattle.report_reader.specs.declared.fault.ReportCause.{ReportCause}
use Rattle.report_reader.specs.declared.fault.ReportCause.TheVariants as causes
use Rattle.report_reader.specs.declared.fault.ReportFault.{ReportFault}
use Rattle.report_reader.specs.Report.{ReportText, IsTextOf}
use Rattle.timeline.specs.declared.fault.TimelineFault.{TimelineFault}
use Rattle.timeline.specs.declared.fault.TimelineFault.TheVariants as faults
use Rattle.timeline.specs.Faults.{IsFaultOf}
use Rattle.timeline.specs.Timelines.{TimelineView, IsTimeline}
use Rattle.picture.specs.Picture.{picture_of}
use Rattle.lab_program.specs.declared.input.ReadFault.{ReadFault}
use Rattle.lab_program.specs.declared.input.ReadFault.TheVariants as reading
use Rattle.lab_views.specs.declared.picture_fault.PictureFault.{PictureFault}
use Rattle.lab_views.specs.declared.picture_fault.PictureFault.TheVariants.{Report, Timeline, Read, TooLong, Write, NoMemory}
use Rattle.lab_views.specs.ReportViews.{ReportAnswersFor, ReportAnswersTo}

-- the input is a report's text, and the text is its picture
pub record Pictures (input text : List ℕ) : Type 0 where
  pub report : ReportText
  pub is_text : IsTextOf report input
  pub timeline : TimelineView
  pub agrees : IsTimeline report timeline
  pub drawn : text ≡ picture_of report timeline

-- the input is a report's text, and the report has this fault; that memory ran out is no fault of a report
pub record HasNoTimeline (input : List ℕ) (fault : TimelineFault) : Type 0 where
  pub report : ReportText
  pub is_text : IsTextOf report input
  pub fails : IsFaultOf report fault
  pub not_memory : fault ≢ faults.NoMemory

-- for an input, and for a source
abbrev pub DrawsFor : List ℕ → Option (List ℕ) → Option (List ℕ) → Result (Unit {0}) PictureFault → Type 0
DrawsFor input old new result = ReportAnswersFor Pictures HasNoTimeline input old new result

abbrev pub PictureAnswers : Option (List ℕ) → Option (List ℕ) → Option (List ℕ) → Result (Unit {0}) PictureFault → Type 0
PictureAnswers left old new result = ReportAnswersTo Pictures HasNoTimeline left old new result

-- the status that the program ends with
abbrev pub status_of_picture : Result (Unit {0}) PictureFault → ℕ
status_of_picture (Ok done) = 0
status_of_picture (Err (Report fault)) = 1
status_of_picture (Err (Timeline fault)) = 1
status_of_picture (Err Read) = 4
status_of_picture (Err TooLong) = 4
status_of_picture (Err Write) = 4
status_of_picture (Err NoMemory) = 5

-- how often a read, and a write or a flush, failed in a run that answers so
abbrev pub failed_picture_reads : Result (Unit {0}) PictureFault → ℕ
failed_picture_reads (Err Read) = 1
failed_picture_reads _ = 0

abbrev pub failed_picture_writes : Result (Unit {0}) PictureFault → ℕ
failed_picture_writes (Err Write) = 1
failed_picture_writes _ = 0

-- faults of the crates below; that memory ran out is one fault, whichever crate says so
abbrev pub for_report : ReportCause → ReportFault → PictureFault
for_report causes.NoMemory fault = NoMemory
for_report _ fault = Report fault

abbrev pub for_timeline : TimelineFault → PictureFault
for_timeline faults.NoMemory = NoMemory
for_timeline fault = Timeline fault

abbrev pub for_reading : ReadFault → PictureFault
for_reading reading.Read = Read
for_reading reading.TooLong = TooLong
for_reading reading.NoMemory = NoMemory
