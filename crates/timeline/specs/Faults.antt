-- For readers: why a report has no timeline, and what is answered for a report.
use Rattle.std.specs.Prelude.{ℕ, ◌≡◌, ◌≢◌, ◌⊎◌, ◌+◌, ◌<◌, Bool, true, false, ◌&&◌}
use Rattle.std.specs.Prelude.{◌||◌, not, nat_lt, ◌==◌, List, length, Option, None, Some, Result, Ok, Err, slice_get, if◌then◌else◌}
use Rattle.std.specs.Option.{is_some}
use Rattle.lab_plan.specs.Limits.{most_jobs, most_instruments, most_sessions, most_commands}
use Rattle.report_reader.specs.Line.{EntryText, JobText}
use Rattle.report_reader.specs.Report.{LogText, ReportText}
use Rattle.timeline.specs.declared.fault.EntryCause.{EntryCause}
use Rattle.timeline.specs.declared.fault.EntryCause.TheVariants as causes
use Rattle.timeline.specs.declared.fault.TimelineFault.{TimelineFault}
use Rattle.timeline.specs.declared.fault.TimelineFault.TheVariants.{LimitPassed, JobTwice, Entry, Contradiction, NoMemory}
use Rattle.timeline.specs.Spans.{job_number, is_same_session}
use Rattle.timeline.specs.Timelines.{TimelineView, IsTimeline}

abbrev pub at : Bool → EntryCause → Option EntryCause → Option EntryCause
at test cause rest = if test then Some cause else rest

-- what is wrong with an entry by itself
abbrev pub entry_cause : List JobText → EntryText → Option EntryCause
entry_cause jobs e =
    at (not (is_some (job_number jobs e.job))) causes.NoJobLine (
    at (nat_lt most_sessions e.session || nat_lt most_commands e.length) causes.LimitPassed (
    at (e.session == 0 || e.place == 0 || nat_lt e.length e.place) causes.NoSuchPlace None))

-- an entry is of the session of the one before it, and has another length or no later place
abbrev pub is_out_of_order : EntryText → EntryText → Bool
is_out_of_order a b = is_same_session a b && not ((a.length == b.length) && nat_lt a.place b.place)

-- the entry with number k is of the session of the one before it and doesn't follow it
pub record IsOutOfOrder (entries : List EntryText) (k : ℕ) : Type 0 where
  pub before : EntryText
  pub entry : EntryText
  pub place : ℕ
  pub next : k ≡ place + 1
  pub stands_before : slice_get entries place ≡ Some before
  pub stands : slice_get entries k ≡ Some entry
  pub fails : is_out_of_order before entry ≡ true

-- the entry with number k is of a session that the log has before it, and the one before it is not
pub record IsTwice (entries : List EntryText) (k : ℕ) : Type 0 where
  pub first : EntryText
  pub between : EntryText
  pub entry : EntryText
  pub place : ℕ
  pub begun : ℕ
  pub next : k ≡ place + 1
  pub earlier : begun < place
  pub stands_first : slice_get entries begun ≡ Some first
  pub stands_between : slice_get entries place ≡ Some between
  pub stands : slice_get entries k ≡ Some entry
  pub same : is_same_session first entry ≡ true
  pub other : is_same_session between entry ≡ false

-- the entry with number k has this cause by itself
pub record FailsAlone (jobs : List JobText) (entries : List EntryText) (k : ℕ) (cause : EntryCause) : Type 0 where
  pub entry : EntryText
  pub stands : slice_get entries k ≡ Some entry
  pub fails : entry_cause jobs entry ≡ Some cause

-- the entry of a log with number k, counted from 0, has no place on a timeline
abbrev pub FailsAt : List JobText → List EntryText → ℕ → EntryCause → Type 0
FailsAt jobs entries k causes.OutOfOrder = IsOutOfOrder entries k
FailsAt jobs entries k causes.SessionTwice = IsTwice entries k
FailsAt jobs entries k cause = FailsAlone jobs entries k cause

-- the job line with number n, counted from 0, isn't the first of its name
pub record IsNamedBefore (jobs : List JobText) (n : ℕ) : Type 0 where
  pub job : JobText
  pub stands : slice_get jobs n ≡ Some job
  pub other : job_number jobs job.name ≢ Some n

-- an entry, by its instrument and its place in the log, both counted from 1, has this cause
pub record HasFault (jobs : List JobText) (logs : List LogText) (instrument entry : ℕ) (cause : EntryCause) : Type 0 where
  pub i : ℕ
  pub k : ℕ
  pub log : LogText
  pub instrument_is : instrument ≡ i + 1
  pub entry_is : entry ≡ k + 1
  pub stands : slice_get logs i ≡ Some log
  pub fails : FailsAt jobs log.entries k cause

-- no columns are a timeline of the report
abbrev pub HasNone : ReportText → Type 0
HasNone report = (view : TimelineView) → IsTimeline report view → ⊥

-- what a fault says of a report; of memory nothing is said
abbrev pub IsFaultOf : ReportText → TimelineFault → Type 0
IsFaultOf report LimitPassed = (most_jobs < length report.jobs) ⊎ (most_instruments < length report.logs)
IsFaultOf report (JobTwice job) = (n : ℕ) × (job ≡ n + 1) × IsNamedBefore report.jobs n
IsFaultOf report (Entry instrument entry cause) = HasFault report.jobs report.logs instrument entry cause
IsFaultOf report Contradiction = HasNone report
IsFaultOf report NoMemory = Unit {0}

-- what is answered for a report: a timeline of it, or a fault of it
abbrev pub Answers : ReportText → Result TimelineView TimelineFault → Type 0
Answers report (Ok view) = IsTimeline report view
Answers report (Err fault) = IsFaultOf report fault
