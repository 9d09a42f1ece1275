use Rattle.std.proofs.Common.{◌≡◌, ◌+◌, ◌++◌, length, map, vec_capacity}
use Rattle.std.specs.List.{range_with_len}
use Rattle.lab_plan.specs.SessionTables.{place_of}
use Rattle.lab_plan.proofs.Parts.{AreParts}
use Rattle.lab_plan.proofs.session_table.push_places.Given as goal

abbrev pub invariant-loop-instrument : goal.invariant-loop-instrument
invariant-loop-instrument g l = record {
  parts : AreParts l.commands l.instrument-index l.parts;
  numbered : length l.parts ≡ 56;
  placed : l.places.items ≡ l.fn.places.items ++ map (place_of l.commands) (range_with_len 0 l.instrument-index);
  many : length l.places.items ≡ length l.fn.places.items + l.instrument-index;
  room : vec_capacity l.places ≡ vec_capacity l.fn.places;
}
