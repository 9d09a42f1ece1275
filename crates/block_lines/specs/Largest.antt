-- For readers: the blocks with most rounds.
use Rattle.std.specs.Prelude.{List, map, take}
use Rattle.block_lines.specs.declared.block.Block.{Block}
use Rattle.block_lines.specs.Ranking.{ranked}
use Rattle.block_lines.specs.Sums.{rounds_of}
use Rattle.block_lines.specs.Text.{block_at}

-- at most three, largest first, and equal ones in their order; those without rounds are left out
abbrev pub largest_three : List Block → List Block
largest_three blocks = map (block_at blocks) (take 3 (ranked (map rounds_of blocks)))
