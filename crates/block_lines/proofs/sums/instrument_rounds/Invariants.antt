use Rattle.std.proofs.Common.{◌≡◌, map}
use Rattle.std.specs.List.{range_with_len}
use Rattle.block_lines.specs.Sums.{rounds_on}
use Rattle.block_lines.proofs.sums.instrument_rounds.Given as goal

abbrev pub invariant-loop-instrument : goal.invariant-loop-instrument
invariant-loop-instrument g l = l.counts.items ≡ map (rounds_on l.blocks) (range_with_len 0 l.instrument)
