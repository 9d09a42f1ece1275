-- For readers: what `labview` makes of a report that `labrun` printed: the picture and the table of that report, and no others.
use Rattle.std.specs.Prelude.{ℕ, List, Option, Result, Ok, Err}
use Rattle.std.specs.Io.KnownBytes.{Keeps, Appends}
use Rattle.lab_plan.specs.LabPlan.{LabPlan}
use Rattle.legal_steps.specs.declared.event.Event.{Event}
use Rattle.legal_steps.specs.Opening.{the_opening}
use Rattle.report.specs.Taken.{AppendsPrefix}
use Rattle.report.specs.Events.{shown_after}
use Rattle.report_reader.specs.Report.{ReportText}
use Rattle.timeline.specs.Timelines.{TimelineView, IsTimeline}
use Rattle.printed_reports.specs.Printed.{printed_report}
use Rattle.picture.specs.Picture.{picture_of}
use Rattle.picture.specs.LogTable.{table_text}
use Rattle.lab_program.specs.declared.faults.Outcome.{Outcome}
use Rattle.lab_program.specs.Reports.{Reports}
use Rattle.lab_views.specs.declared.picture_fault.PictureFault.{PictureFault}
use Rattle.lab_views.specs.declared.picture_fault.PictureFault.TheVariants.{Write, NoMemory}
use Rattle.lab_views.specs.Pictures.{DrawsFor}
use Rattle.lab_views.specs.Tables.{TabulatesFor}

-- the report of a run
abbrev pub report_of_run : LabPlan → List Event → ReportText
report_of_run plan history = printed_report plan (shown_after plan (the_opening plan) history)

-- its picture goes out, or a prefix of it; else nothing does, because memory ran out
abbrev pub DrawsReport : ReportText → Option (List ℕ) → Option (List ℕ) → Result (Unit {0}) PictureFault → Type 0
DrawsReport report old new (Ok done) = (timeline : TimelineView) × IsTimeline report timeline × Appends old new (picture_of report timeline)
DrawsReport report old new (Err Write) = (timeline : TimelineView) × IsTimeline report timeline × AppendsPrefix old new (picture_of report timeline)
DrawsReport report old new (Err NoMemory) = Keeps old new
DrawsReport report old new (Err _) = ⊥

-- the law: so it is of each report that `labrun` printed
abbrev pub PrintedIsDrawn : Type 0
PrintedIsDrawn = (plan : LabPlan) (history : List Event) (text : List ℕ) (outcome : Outcome) → Reports plan history text outcome
    → (old new : Option (List ℕ)) (result : Result (Unit {0}) PictureFault) → DrawsFor text old new result
    → DrawsReport (report_of_run plan history) old new result

-- its table goes out, or a prefix of it; else nothing does, because memory ran out
abbrev pub TabulatesReport : ReportText → Option (List ℕ) → Option (List ℕ) → Result (Unit {0}) PictureFault → Type 0
TabulatesReport report old new (Ok done) = Appends old new (table_text report)
TabulatesReport report old new (Err Write) = AppendsPrefix old new (table_text report)
TabulatesReport report old new (Err NoMemory) = Keeps old new
TabulatesReport report old new (Err _) = ⊥

-- the law: so it is of each report that `labrun` printed
abbrev pub PrintedIsTabulated : Type 0
PrintedIsTabulated = (plan : LabPlan) (history : List Event) (text : List ℕ) (outcome : Outcome) → Reports plan history text outcome
    → (old new : Option (List ℕ)) (result : Result (Unit {0}) PictureFault) → TabulatesFor text old new result
    → TabulatesReport (report_of_run plan history) old new result
