-- For readers: the table that is written for a report, and why there may be none.
use Rattle.std.specs.Prelude.{◌≡◌, ℕ, List, Option, Result}
use Rattle.report_reader.specs.Report.{ReportText, IsTextOf}
use Rattle.timeline.specs.declared.fault.TimelineFault.{TimelineFault}
use Rattle.picture.specs.LogTable.{table_text}
use Rattle.lab_views.specs.declared.picture_fault.PictureFault.{PictureFault}
use Rattle.lab_views.specs.ReportViews.{ReportAnswersFor, ReportAnswersTo}

-- the input is a report's text, and the text is its table
pub record Tabulates (input text : List ℕ) : Type 0 where
  pub report : ReportText
  pub is_text : IsTextOf report input
  pub written : text ≡ table_text report

-- a table needs no timeline
abbrev pub LacksNothing : List ℕ → TimelineFault → Type 0
LacksNothing input fault = ⊥

-- for an input, and for a source
abbrev pub TabulatesFor : List ℕ → Option (List ℕ) → Option (List ℕ) → Result (Unit {0}) PictureFault → Type 0
TabulatesFor input old new result = ReportAnswersFor Tabulates LacksNothing input old new result

abbrev pub TableAnswers : Option (List ℕ) → Option (List ℕ) → Option (List ℕ) → Result (Unit {0}) PictureFault → Type 0
TableAnswers left old new result = ReportAnswersTo Tabulates LacksNothing left old new result
