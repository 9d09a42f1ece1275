use Rattle.std.proofs.Common.{◌≡◌, ◌≤◌, take}
use Rattle.lab_plan.specs.LabPlan.{count_on}
use Rattle.lab_plan.proofs.plan.count_on.Given as goal

abbrev pub invariant-loop-other : goal.invariant-loop-other
invariant-loop-other l = record {
  counted : l.count ≡ count_on l.instrument (take l.other-index l.commands);
  few : l.count ≤ l.other-index;
}
