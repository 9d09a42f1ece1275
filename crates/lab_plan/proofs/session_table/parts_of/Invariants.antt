use Rattle.std.proofs.Common.{◌≡◌, length}
use Rattle.lab_plan.proofs.Parts.{AreParts}
use Rattle.lab_plan.proofs.session_table.parts_of.Given as goal

abbrev pub invariant-loop-instrument : goal.invariant-loop-instrument
invariant-loop-instrument l = record {
  parts : AreParts l.commands l.instrument-index l.parts;
  numbered : length l.parts ≡ 56;
}
