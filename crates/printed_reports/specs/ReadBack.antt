-- For readers: a report that was printed is read back as the report that was printed.
use Rattle.std.specs.Prelude.{ℕ, ◌≡◌, List, Result, MatchResult}
use Rattle.lab_plan.specs.LabPlan.{LabPlan}
use Rattle.lab_plan.specs.IsPlan.{IsPlan}
use Rattle.legal_steps.specs.declared.event.Event.{Event}
use Rattle.legal_steps.specs.State.{State}
use Rattle.legal_steps.specs.Opening.{IsOpening}
use Rattle.legal_steps.specs.Run.{IsLegalFrom}
use Rattle.report.specs.Events.{shown_after, report_after}
use Rattle.report_reader.specs.declared.fault.ReportCause.TheVariants.{NoMemory}
use Rattle.report_reader.specs.declared.fault.ReportFault.{ReportFault}
use Rattle.report_reader.specs.Report.{ReportText, IsTextOf}
use Rattle.report_reader.specs.Laws.{IsReport}
use Rattle.report_reader.specs.Reading.{Answers}
use Rattle.printed_reports.specs.Printed.{printed_report}

-- the text is that of one report and of no other, and a reader answers this report, or that memory ran out
pub record IsReadAs (report : ReportText) (text : List ℕ) : Type 0 where
  pub is_report : IsReport report
  pub is_text : IsTextOf report text
  pub alone : (other : ReportText) → IsTextOf other text → other ≡ report
  pub answered : (result : Result ReportText ReportFault) → Answers text result
      → MatchResult result (λ other. other ≡ report) (λ fault. fault.cause ≡ NoMemory)

-- the law: the report of each legal list of events is read back
abbrev pub IsReportReadBack : Type 0
IsReportReadBack = (plan : LabPlan) (opening : State) (events : List Event) → IsPlan plan → IsOpening plan opening → IsLegalFrom plan opening events
    → IsReadAs (printed_report plan (shown_after plan opening events)) (report_after plan opening events)
