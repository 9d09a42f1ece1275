-- the slots of the logs so far are marked
use Rattle.std.proofs.Common.{map}
use Rattle.report_reader.specs.Form.{job_text}
use Rattle.timeline.proofs.OwnPairs.{UsedBelow}
use Rattle.timeline.proofs.own.used_slots.Given as goal

abbrev pub invariant-loop-log : goal.invariant-loop-log
invariant-loop-log g l = UsedBelow (map job_text l.jobs) l.logs l.log-index l.used.items
