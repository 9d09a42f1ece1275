-- A report that was printed is read back.
use Rattle.std.proofs.Common.{◌≡◌, ℕ, List, [], ◌∷◌, map, sym, ap, ◌∙◌, inl, inr}
use Rattle.std.specs.Prelude.{Result, Ok, Err, MatchResult}
use Rattle.std.proofs.lemmas.List.{append_cancel_right}
use Rattle.report.specs.Report.{Shown, report_of}
use Rattle.report.specs.Events.{shown_after}
use Rattle.lab_plan.specs.LabPlan.{LabPlan}
use Rattle.report_reader.specs.declared.fault.ReportCause.TheVariants.{NoMemory}
use Rattle.report_reader.specs.declared.fault.ReportFault.{ReportFault}
use Rattle.report_reader.specs.Line.{words_of}
use Rattle.report_reader.specs.Report.{ReportText, lines_of, text_lines, words, IsTextOf}
use Rattle.report_reader.specs.Laws.{IsReport}
use Rattle.report_reader.specs.Reading.{Answers}
use Rattle.report_reader.proofs.NoReport.{no_report}
use Rattle.printed_reports.specs.Printed.{printed_report}
use Rattle.printed_reports.specs.ReadBack.{IsReadAs, IsReportReadBack}
use Rattle.printed_reports.proofs.Spelled.{text_of, text_back}
use Rattle.printed_reports.proofs.SameLine.{same_lines}
use Rattle.printed_reports.proofs.SameReport.{same_report}
use Rattle.printed_reports.proofs.PrintedText.{printed_text}
use Rattle.printed_reports.proofs.PrintedFits.{printed_fits}

-- the text of a report's lines is the report's
spelled_text : (report : ReportText) → IsReport report → IsTextOf report (text_of (lines_of report))
spelled_text report is = text_back (lines_of report) is.lines

-- no other report has it
only_one : (report other : ReportText) (text : List ℕ) → IsReport report → IsTextOf report text → IsTextOf other text → other ≡ report
only_one report other text is own others =
    same_report other report (same_lines (lines_of other) (lines_of report) is.lines
    (append_cancel_right (map words_of (lines_of other)) (map words_of (lines_of report)) (([] ∷ []) ∷ []) (sym others ∙ own)))

answered : (report : ReportText) (text : List ℕ) → IsReport report → IsTextOf report text → (result : Result ReportText ReportFault) → Answers text result
    → MatchResult result (λ other. other ≡ report) (λ fault. fault.cause ≡ NoMemory)
answered report text is own (Ok other) answer = only_one report other text is own answer
answered report text is own (Err fault) (inl none) = none
answered report text is own (Err fault) (inr refused) = absurd (no_report text report refused.0 refused.1 fault is own refused.2 refused.3)

-- a report with its lines, its forms and its end is read back of the text of its lines
pub read_as : (report : ReportText) (text : List ℕ) → IsReport report → IsTextOf report text → IsReadAs report text
read_as report text is own = record {
  is_report = is;
  is_text = own;
  alone = λ other others. only_one report other text is own others;
  answered = answered report text is own;
}

printed_is : (plan : LabPlan) (shown : Shown) → IsReport (printed_report plan shown) → IsTextOf (printed_report plan shown) (report_of plan shown)
printed_is plan shown is =
    ap (λ text. map words (text_lines text)) (printed_text plan shown) ∙ spelled_text (printed_report plan shown) is

pub report_read_back : IsReportReadBack
report_read_back plan opening events is_plan opens legal =
    let shown = shown_after plan opening events in
    let is = printed_fits plan opening events is_plan opens legal in
    read_as (printed_report plan shown) (report_of plan shown) is (printed_is plan shown is)
