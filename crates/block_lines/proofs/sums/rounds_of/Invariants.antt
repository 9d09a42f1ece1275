use Rattle.std.proofs.Common.{◌≡◌, map, take}
use Rattle.block_lines.specs.Sums.{rounds_of}
use Rattle.block_lines.proofs.sums.rounds_of.Given as goal

abbrev pub invariant-loop-block : goal.invariant-loop-block
invariant-loop-block g l = l.counts.items ≡ map rounds_of (take l.block-index l.blocks)
