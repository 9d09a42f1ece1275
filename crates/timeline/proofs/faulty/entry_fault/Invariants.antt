-- the logs so far are clean
use Rattle.std.proofs.Common.{ℕ, ◌<◌, map, slice_index_or}
use Rattle.report_reader.specs.Report.{LogText}
use Rattle.report_reader.specs.Form.{job_text}
use Rattle.timeline.specs.Clean.{IsClean}
use Rattle.timeline.proofs.faulty.entry_fault.Given as goal

abbrev pub invariant-loop-number : goal.invariant-loop-number
invariant-loop-number g l = (k : ℕ) (d : LogText) → k < l.number → IsClean (map job_text l.jobs) (slice_index_or l.logs k d).entries
