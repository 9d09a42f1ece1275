-- the logs so far agree
use Rattle.std.proofs.Common.{ℕ, ◌<◌, map, slice_index_or}
use Rattle.report_reader.specs.Report.{LogText}
use Rattle.report_reader.specs.Form.{job_text}
use Rattle.timeline.specs.Timelines.{Agrees}
use Rattle.timeline.proofs.agreement.all_agree.Given as goal

abbrev pub invariant-loop-log : goal.invariant-loop-log
invariant-loop-log g l = (k : ℕ) (d : LogText) → k < l.log-index → Agrees (map job_text l.jobs) (record {
  spans = l.spans;
  columns =
      l.columns;
}) (slice_index_or l.logs k d).entries
