-- For readers: counts of blocks, and their sums by instrument.
use Rattle.std.specs.Prelude.{ℕ, ◌==◌, List, if◌then◌else◌}
use Rattle.std.specs.List.{sum_by}
use Rattle.block_lines.specs.declared.block.Block.{Block}

abbrev pub rounds_of : Block → ℕ
rounds_of x = x.rounds

abbrev pub rounds_if_on : ℕ → Block → ℕ
rounds_if_on i x = if x.instrument == i then x.rounds else 0

abbrev pub held_if_on : ℕ → Block → ℕ
held_if_on i x = if x.instrument == i then x.held else 0

-- over all pairs of jobs
abbrev pub rounds_on : List Block → ℕ → ℕ
rounds_on blocks i = sum_by (rounds_if_on i) blocks

abbrev pub held_on : List Block → ℕ → ℕ
held_on blocks i = sum_by (held_if_on i) blocks
