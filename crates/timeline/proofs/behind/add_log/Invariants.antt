-- the pairs of the entries so far are added
use Rattle.std.proofs.Common.{map}
use Rattle.report_reader.specs.Form.{entry_text, job_text}
use Rattle.timeline.specs.Orders.{AddsBelow}
use Rattle.timeline.proofs.behind.add_log.Given as goal

abbrev pub invariant-loop-place : goal.invariant-loop-place
invariant-loop-place g l = AddsBelow (map job_text l.jobs) (map entry_text l.entries) l.place l.initial.pairs.items l.pairs.items
