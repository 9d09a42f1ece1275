use Rattle.std.proofs.Common.{◌≡◌, take}
use Rattle.live_lab.specs.Adding.{with_all}
use Rattle.lab_journal.specs.Finishing.{KeepsSteps}
use Rattle.lab_journal.proofs.read.add_read.Given as goal

-- those so far were added
abbrev pub invariant-loop-session : goal.invariant-loop-session
invariant-loop-session g l = record {
  longer : l.plan ≡ with_all l.fn.plan l.fn.job (take l.session-index l.further);
  keeps : KeepsSteps l.fn.plan l.plan;
}
