-- For readers: the picture of a report.
use Rattle.std.specs.Prelude.{ℕ, Bool, false, ◌&&◌, ◌||◌, not, nat_lt, ◌==◌, ◌-◌, List, [], ◌++◌, length, codes, slice_index_or, None}
use Rattle.std.specs.List.{flat_map, range_with_len}
use Rattle.lab_plan.specs.declared.verb.Verb.TheVariants.{Read}
use Rattle.report_reader.specs.Line.{EntryText, JobText}
use Rattle.report_reader.specs.Report.{LogText, ReportText}
use Rattle.timeline.specs.declared.span.Span.{Span}
use Rattle.timeline.specs.Spans.{job_number, span_of, is_same_session}
use Rattle.timeline.specs.Timelines.{TimelineView}
use Rattle.picture.specs.Boxes.{in_columns}
use Rattle.picture.specs.Tables.{head_text, row_text, job_line, end_text}

-- what is read at a number that is none of a list's
abbrev pub no_entry : EntryText
no_entry = record { job = []; session = 0; place = 0; length = 0; verb = Read; value = 0 }

abbrev pub no_log : LogText
no_log = record { name = []; entries = [] }

abbrev pub no_job : JobText
no_job = record { name = []; done = 0; sessions = 0; withdrawn = None; meals = 0; is_retired = false }

abbrev pub entry_of : List EntryText → ℕ → EntryText
entry_of entries k = slice_index_or entries k no_entry

-- the entry is the first of its session in its log
abbrev pub is_first : List EntryText → ℕ → Bool
is_first entries k = (k == 0) || not (is_same_session (entry_of entries (k - 1)) (entry_of entries k))

-- the entry is of the session with which its log ends, and that isn't done there
abbrev pub is_open : List EntryText → ℕ → Bool
is_open entries k = let last = entry_of entries (length entries - 1) in nat_lt last.place last.length && is_same_session last (entry_of entries k)

-- what is drawn of the entry with this number
unfoldable pub entry_at : List JobText → ℕ → List Span → List EntryText → ℕ → List ℕ
entry_at jobs columns spans entries k =
    let e = entry_of entries k in in_columns columns (job_number jobs e.job) (span_of jobs spans e) (is_first entries k) (is_open entries k) e

abbrev pub entries_text : List JobText → ℕ → List Span → List EntryText → List ℕ
entries_text jobs columns spans entries = flat_map (entry_at jobs columns spans entries) (range_with_len 0 (length entries))

-- the row of an instrument: its name, and its entries
unfoldable pub log_at : ReportText → TimelineView → ℕ → List ℕ
log_at report view i =
    let log = slice_index_or report.logs i no_log in
    row_text i log.name view.columns ++ entries_text report.jobs view.columns view.spans log.entries ++ codes "</g>\n"

-- a line of the table of jobs
abbrev pub job_at : ReportText → ℕ → List ℕ
job_at report j = job_line (length report.logs) j (slice_index_or report.jobs j no_job)

-- the picture: its head, a row for each instrument, the table of jobs, and the last line
unfoldable pub picture_of : ReportText → TimelineView → List ℕ
picture_of report view =
    head_text (length report.logs) (length report.jobs) view.columns
    ++ flat_map (log_at report view) (range_with_len 0 (length report.logs))
    ++ flat_map (job_at report) (range_with_len 0 (length report.jobs))
    ++ end_text (length report.logs) (length report.jobs) report.is_finished
