-- For readers: timelines of a report.
use Rattle.std.specs.Prelude.{ℕ, ◌≡◌, ◌⊎◌, ◌+◌, ◌<◌, ◌≤◌, true, List, Some, length, slice_get}
use Rattle.std.specs.List.{All}
use Rattle.lab_plan.specs.Limits.{most_jobs, most_instruments}
use Rattle.report_reader.specs.Line.{EntryText, JobText}
use Rattle.report_reader.specs.Report.{LogText, ReportText}
use Rattle.timeline.specs.declared.span.Span.{Span}
use Rattle.timeline.specs.Spans.{span_of, is_same_session}

-- the columns of each session, and how many there are
pub record TimelineView : Type 0 where
  pub spans : List Span
  pub columns : ℕ

-- the entry's session has columns, one for each place of its part at least, and the entry has a place among them
pub record Stands (jobs : List JobText) (view : TimelineView) (entry : EntryText) : Type 0 where
  pub span : Span
  pub known : span_of jobs view.spans entry ≡ Some span
  pub begun : 1 ≤ entry.place
  pub within : entry.place ≤ entry.length
  pub wide : entry.length ≤ span.width
  pub inside : span.start + span.width ≤ view.columns

-- one session goes on, at a later place
pub record GoesOn (a b : EntryText) : Type 0 where
  pub same : is_same_session a b ≡ true
  pub length : a.length ≡ b.length
  pub later : a.place < b.place

-- the session of the second stands right of that of the first
pub record IsRightOf (jobs : List JobText) (spans : List Span) (a b : EntryText) : Type 0 where
  pub left : Span
  pub right : Span
  pub of_first : span_of jobs spans a ≡ Some left
  pub of_second : span_of jobs spans b ≡ Some right
  pub before : left.start + left.width ≤ right.start

-- one entry may stand right behind another
abbrev pub IsNextOf : List JobText → List Span → EntryText → EntryText → Type 0
IsNextOf jobs spans a b = GoesOn a b ⊎ IsRightOf jobs spans a b

-- each entry with the one right behind it
abbrev pub EachNext : (EntryText → EntryText → Type 0) → List EntryText → Type 0
EachNext R entries = (k : ℕ) (a b : EntryText) → slice_get entries k ≡ Some a → slice_get entries (k + 1) ≡ Some b → R a b

-- each entry of a log stands in the columns of its session, and the next goes on with it or is of a session right of it
pub record Agrees (jobs : List JobText) (view : TimelineView) (entries : List EntryText) : Type 0 where
  pub stands : All (Stands jobs view) entries
  pub follows : EachNext (IsNextOf jobs view.spans) entries

-- every log agrees with the columns
abbrev pub AllAgree : List JobText → TimelineView → List LogText → Type 0
AllAgree jobs view logs = All (λ (log : LogText). Agrees jobs view log.entries) logs

-- the entry stands in one of the logs
pub record IsEntryOf (logs : List LogText) (entry : EntryText) : Type 0 where
  pub i : ℕ
  pub k : ℕ
  pub log : LogText
  pub stands : slice_get logs i ≡ Some log
  pub there : slice_get log.entries k ≡ Some entry

-- two entries of one job, the first of an earlier session
pub record IsEarlier (a b : EntryText) : Type 0 where
  pub job : a.job ≡ b.job
  pub session : a.session < b.session

-- the sessions of each job stand in its own order, whichever logs have them: a later one right of an earlier one
abbrev pub KeepsOwnOrder : List JobText → List Span → List LogText → Type 0
KeepsOwnOrder jobs spans logs = (a b : EntryText) → IsEntryOf logs a → IsEntryOf logs b → IsEarlier a b → IsRightOf jobs spans a b

-- a timeline of a report: it has no more jobs and instruments than a lab, every log agrees with the columns, and so does each job's
-- own order
pub record IsTimeline (report : ReportText) (view : TimelineView) : Type 0 where
  pub few_jobs : length report.jobs ≤ most_jobs
  pub few_instruments : length report.logs ≤ most_instruments
  pub agree : AllAgree report.jobs view report.logs
  pub own_order : KeepsOwnOrder report.jobs view.spans report.logs
