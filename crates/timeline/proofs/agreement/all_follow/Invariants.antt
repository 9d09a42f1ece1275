-- the entries so far may stand one behind another
use Rattle.std.proofs.Common.{map}
use Rattle.report_reader.specs.Form.{entry_text, job_text}
use Rattle.timeline.specs.Timelines.{IsNextOf}
use Rattle.timeline.proofs.Spelled.{NextBelow}
use Rattle.timeline.proofs.agreement.all_follow.Given as goal

abbrev pub invariant-loop-place : goal.invariant-loop-place
invariant-loop-place l = NextBelow (IsNextOf (map job_text l.jobs) l.spans) (map entry_text l.entries) l.place
