-- For readers: which columns an entry's session has.
use Rattle.std.specs.Prelude.{ℕ, Bool, ◌==◌, ◌+◌, ◌*◌, ◌-◌, ◌&&◌, nat_le, nat_lt, List, Option, None, Some, slice_get, if◌then◌else◌}
use Rattle.std.specs.List.{position}
use Rattle.std.specs.Option.{option_and_then}
use Rattle.std.specs.Str.{bytes_eq}
use Rattle.lab_plan.specs.Limits.{most_jobs, most_sessions}
use Rattle.report_reader.specs.Line.{EntryText, JobText}
use Rattle.timeline.specs.declared.span.Span.{Span}

-- the number of the first job line with this name, counted from 0
abbrev pub job_number : List JobText → List ℕ → Option ℕ
job_number jobs name = position (λ (job : JobText). bytes_eq job.name name) jobs

-- where the columns of an entry's session are kept: each job has as many as it may have sessions
unfoldable pub slot_of : List JobText → EntryText → Option ℕ
slot_of jobs entry =
    option_and_then (λ j. if nat_lt j most_jobs && nat_le 1 entry.session && nat_le entry.session most_sessions
    then Some (most_sessions * j + (entry.session - 1)) else None)
    (job_number jobs entry.job)

-- the columns of an entry's session, if it has any
unfoldable pub span_of : List JobText → List Span → EntryText → Option Span
span_of jobs spans entry = option_and_then (slice_get spans) (slot_of jobs entry)

-- both are of one session
abbrev pub is_same_session : EntryText → EntryText → Bool
is_same_session a b = bytes_eq a.job b.job && a.session == b.session
