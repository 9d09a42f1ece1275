use Rattle.std.proofs.Common.{◌≡◌, ◌<◌, take, ◌^◌}
use Rattle.script_reader.specs.Number.{value_after}
use Rattle.script_reader.proofs.number.number_of.Given as goal

abbrev pub invariant-loop-byte : goal.invariant-loop-byte
invariant-loop-byte l = record { value : l.number ≡ value_after 0 (take l.byte-index l.bytes); small : l.number < 10 ^ l.byte-index }
