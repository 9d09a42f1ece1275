-- the slots of the entries so far are marked
use Rattle.std.proofs.Common.{map}
use Rattle.report_reader.specs.Form.{entry_text, job_text}
use Rattle.timeline.specs.Orders.{MarksBelow}
use Rattle.timeline.proofs.own.mark_log.Given as goal

abbrev pub invariant-loop-entry : goal.invariant-loop-entry
invariant-loop-entry g l = MarksBelow (map job_text l.jobs) (map entry_text l.entries) l.entry-index l.initial.used.items l.used.items
