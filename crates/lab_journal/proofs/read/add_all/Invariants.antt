use Rattle.std.proofs.Common.{◌≡◌, drop}
use Rattle.lab_journal.specs.Meaning.{with_additions}
use Rattle.lab_journal.specs.Finishing.{KeepsSteps}
use Rattle.lab_journal.proofs.read.add_all.Given as goal

-- what is left of them gives the answer
abbrev pub invariant-loop-addition : goal.invariant-loop-addition
invariant-loop-addition g l = record {
  left : with_additions l.fn.plan l.all ≡ with_additions l.plan (drop l.addition-index l.all);
  keeps : KeepsSteps l.fn.plan l.plan;
}
