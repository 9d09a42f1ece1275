-- the pairs are each job's own and those of the logs so far
use Rattle.std.proofs.Common.{map}
use Rattle.report_reader.specs.Form.{job_text}
use Rattle.timeline.proofs.Pairs.{PairsBelow}
use Rattle.timeline.proofs.behind.pairs_of.Given as goal

abbrev pub invariant-loop-log : goal.invariant-loop-log
invariant-loop-log g l = PairsBelow (map job_text l.jobs) l.logs l.initial.pairs.items l.log-index l.pairs.items
