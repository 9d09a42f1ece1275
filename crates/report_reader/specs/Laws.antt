-- For readers: which reports there are, and that a text is refused only if it is that of none.
use Rattle.std.specs.Prelude.{ℕ, ◌≡◌, true, List, [], ◌∷◌, ◌++◌, Some}
use Rattle.std.specs.List.{AllByRecursion}
use Rattle.std.specs.Option.{is_some}
use Rattle.report_reader.specs.declared.fault.ReportFault.{ReportFault}
use Rattle.report_reader.specs.Line.{JobText}
use Rattle.report_reader.specs.Fits.{LineFits}
use Rattle.report_reader.specs.Report.{ReportText, text_lines, lines_of, IsTextOf}
use Rattle.report_reader.specs.State.{is_two, is_same, all_retired}
use Rattle.report_reader.specs.Reading.{Refuses}

-- its lines fit, each job's line has the form of its version, and it is finished if every job is retired
pub record IsReport (report : ReportText) : Type 0 where
  pub lines : AllByRecursion LineFits (lines_of report)
  pub forms : AllByRecursion (λ (job : JobText). is_same (is_some job.withdrawn) (is_two (Some report.version)) ≡ true) report.jobs
  pub ends : is_same report.is_finished (all_retired report.jobs) ≡ true

-- the law: a text that is refused for any other reason than memory is that of no report
abbrev pub IsNoReport : Type 0
IsNoReport = (text : List ℕ) (report : ReportText) (parts : List (List ℕ)) (tail : List ℕ) (fault : ReportFault) → IsReport report → IsTextOf report text
    → text_lines text ≡ parts ++ tail ∷ [] → Refuses parts tail fault → ⊥
