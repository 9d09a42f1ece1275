-- the entries so far are clean
use Rattle.std.proofs.Common.{ℕ, ◌<◌, map}
use Rattle.report_reader.specs.Form.{entry_text, job_text}
use Rattle.timeline.specs.Clean.{IsCleanAt}
use Rattle.timeline.proofs.faulty.log_fault.Given as goal

abbrev pub invariant-loop-place : goal.invariant-loop-place
invariant-loop-place l = (k : ℕ) → k < l.place → IsCleanAt (map job_text l.jobs) (map entry_text l.entries) k
