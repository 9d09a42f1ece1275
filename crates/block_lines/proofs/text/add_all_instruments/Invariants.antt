use Rattle.std.proofs.Common.{◌≡◌, ◌++◌, take}
use Rattle.std.specs.List.{flat_map}
use Rattle.block_lines.specs.Ranking.{count_at}
use Rattle.block_lines.specs.Sums.{held_on}
use Rattle.block_lines.specs.Text.{instrument_line}
use Rattle.block_lines.proofs.text.add_all_instruments.Given as goal

-- so many are told
abbrev pub invariant-loop-place : goal.invariant-loop-place
invariant-loop-place g l =
    l.out.items ≡ l.fn.out.items ++ flat_map (λ place. instrument_line l.plan place (count_at l.counts place) (held_on l.blocks place)) (take l.place-index l.order)
