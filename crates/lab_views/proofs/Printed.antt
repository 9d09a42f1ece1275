-- What was printed is read as what was printed, so it is drawn and tabulated as that.
use Rattle.std.proofs.Common.{◌≡◌, ℕ, List, sym, ap, ◌∙◌, subst}
use Rattle.std.specs.Prelude.{Ok, Err}
use Rattle.std.specs.Io.KnownBytes.{Appends}
use Rattle.lab_plan.specs.LabPlan.{LabPlan}
use Rattle.legal_steps.specs.declared.event.Event.{Event}
use Rattle.legal_steps.specs.Opening.{the_opening}
use Rattle.legal_steps.proofs.OpeningChoices.{the_opening_opens}
use Rattle.report.specs.Taken.{AppendsPrefix}
use Rattle.report_reader.specs.declared.fault.ReportFault.{ReportFault}
use Rattle.report_reader.specs.Report.{ReportText}
use Rattle.report_reader.proofs.NoReport.{no_report}
use Rattle.timeline.specs.Timelines.{TimelineView, IsTimeline}
use Rattle.timeline.specs.Faults.{IsFaultOf}
use Rattle.printed_reports.specs.ReadBack.{IsReadAs}
use Rattle.printed_reports.proofs.ReportBack.{report_read_back}
use Rattle.printed_reports.proofs.NoFault.{no_other_fault}
use Rattle.picture.specs.Picture.{picture_of}
use Rattle.picture.specs.LogTable.{table_text}
use Rattle.lab_program.specs.declared.faults.Outcome.{Outcome}
use Rattle.lab_program.specs.Reports.{Reports}
use Rattle.lab_views.specs.declared.picture_fault.PictureFault.TheVariants.{Report, Timeline, Read, TooLong, Write, NoMemory}
use Rattle.lab_views.specs.ReportViews.{IsNoReport}
use Rattle.lab_views.specs.Pictures.{Pictures}
use Rattle.lab_views.specs.Tables.{Tabulates}
use Rattle.lab_views.specs.Printed.{report_of_run, PrintedIsDrawn, PrintedIsTabulated}

read_back : (plan : LabPlan) (history : List Event) (text : List ℕ) (outcome : Outcome) → Reports plan history text outcome
    → IsReadAs (report_of_run plan history) text
read_back plan history text outcome reports =
    subst (IsReadAs (report_of_run plan history)) (sym reports.report)
    (report_read_back plan (the_opening plan) history reports.within_limits (the_opening_opens plan) reports.legal)

never_refused : (report : ReportText) (text : List ℕ) (fault : ReportFault) → IsReadAs report text → IsNoReport text fault → ⊥
never_refused report text fault back refused =
    no_report text report refused.parts refused.tail fault back.is_report back.is_text refused.lines refused.refused

-- what is drawn of its text is drawn of it
same_picture : (report : ReportText) (text drawn : List ℕ) (P : List ℕ → Type 0) → IsReadAs report text → Pictures text drawn → P drawn
    → (timeline : TimelineView) × IsTimeline report timeline × P (picture_of report timeline)
same_picture report text drawn P back pictures went =
    let same : pictures.report ≡ report = back.alone pictures.report pictures.is_text in (
      pictures.timeline,
      subst (λ r. IsTimeline r pictures.timeline) same pictures.agrees,
      subst P (pictures.drawn ∙ ap (λ r. picture_of r pictures.timeline) same) went,
    )

pub printed_is_drawn : PrintedIsDrawn
printed_is_drawn plan history text outcome reports old new (Ok done) draws =
    same_picture (report_of_run plan history) text draws.0 (Appends old new) (read_back plan history text outcome reports) draws.1 draws.2
printed_is_drawn plan history text outcome reports old new (Err Write) draws =
    same_picture (report_of_run plan history) text draws.0 (AppendsPrefix old new) (read_back plan history text outcome reports) draws.1 draws.2
printed_is_drawn plan history text outcome reports old new (Err (Report fault)) draws =
    absurd (never_refused (report_of_run plan history) text fault (read_back plan history text outcome reports) draws.0)
printed_is_drawn plan history text outcome reports old new (Err (Timeline fault)) draws =
    let report = report_of_run plan history in
    let back = read_back plan history text outcome reports in
    let own : IsFaultOf report fault = subst (λ r. IsFaultOf r fault) (back.alone draws.0.report draws.0.is_text) draws.0.fails in
    let is = no_other_fault plan (the_opening plan) history reports.within_limits (the_opening_opens plan) reports.legal fault own in
    absurd (draws.0.not_memory is)
printed_is_drawn plan history text outcome reports old new (Err NoMemory) draws = draws
printed_is_drawn plan history text outcome reports old new (Err Read) draws = draws
printed_is_drawn plan history text outcome reports old new (Err TooLong) draws = draws

-- what is written of its text is its table
same_table : (report : ReportText) (text table : List ℕ) (P : List ℕ → Type 0) → IsReadAs report text → Tabulates text table → P table → P (table_text report)
same_table report text table P back tabulates went =
    subst P (tabulates.written ∙ ap table_text (back.alone tabulates.report tabulates.is_text)) went

pub printed_is_tabulated : PrintedIsTabulated
printed_is_tabulated plan history text outcome reports old new (Ok done) writes =
    same_table (report_of_run plan history) text writes.0 (Appends old new) (read_back plan history text outcome reports) writes.1 writes.2
printed_is_tabulated plan history text outcome reports old new (Err Write) writes =
    same_table (report_of_run plan history) text writes.0 (AppendsPrefix old new) (read_back plan history text outcome reports) writes.1 writes.2
printed_is_tabulated plan history text outcome reports old new (Err (Report fault)) writes =
    absurd (never_refused (report_of_run plan history) text fault (read_back plan history text outcome reports) writes.0)
printed_is_tabulated plan history text outcome reports old new (Err (Timeline fault)) writes = absurd writes.0
printed_is_tabulated plan history text outcome reports old new (Err NoMemory) writes = writes
printed_is_tabulated plan history text outcome reports old new (Err Read) writes = writes
printed_is_tabulated plan history text outcome reports old new (Err TooLong) writes = writes
