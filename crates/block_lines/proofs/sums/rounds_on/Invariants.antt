use Rattle.std.proofs.Common.{◌≡◌, ◌≤◌, ◌*◌, take}
use Rattle.std.specs.List.{sum_by}
use Rattle.block_lines.specs.Sums.{rounds_if_on}
use Rattle.block_lines.proofs.sums.rounds_on.Given as goal

-- of the blocks so far
abbrev pub invariant-loop-block : goal.invariant-loop-block
invariant-loop-block l = (l.total ≡ sum_by (rounds_if_on l.instrument) (take l.block-index l.blocks)) × (l.total ≤ l.block-index * 4294967295)
