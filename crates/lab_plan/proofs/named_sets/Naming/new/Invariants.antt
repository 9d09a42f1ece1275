use Rattle.std.proofs.Common.{◌≡◌, length, take}
use Rattle.lab_plan.specs.NamedBy.{AreNaming}
use Rattle.lab_plan.proofs.named_sets.Naming.new.Given as goal

abbrev pub invariant-loop-j : goal.invariant-loop-j
invariant-loop-j g l = record {
  naming : AreNaming (take l.j l.job-items) l.sets;
  length : length l.sets ≡ 32;
}
