-- the entries so far stand within their columns
use Rattle.std.proofs.Common.{ℕ, ◌<◌, map, slice_index_or}
use Rattle.report_reader.specs.declared.lines.EntryLine.{EntryLine}
use Rattle.report_reader.specs.Form.{entry_text, job_text}
use Rattle.timeline.specs.Timelines.{Stands}
use Rattle.timeline.proofs.agreement.all_stand.Given as goal

abbrev pub invariant-loop-entry : goal.invariant-loop-entry
invariant-loop-entry l = (k : ℕ) (d : EntryLine) → k < l.entry-index → Stands (map job_text l.jobs) (record {
  spans = l.spans;
  columns =
      l.columns;
}) (entry_text (slice_index_or l.entries k d))
