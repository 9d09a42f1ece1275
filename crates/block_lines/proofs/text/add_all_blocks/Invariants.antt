use Rattle.std.proofs.Common.{◌≡◌, ◌++◌, take}
use Rattle.std.specs.List.{flat_map}
use Rattle.block_lines.specs.Text.{block_line, block_at}
use Rattle.block_lines.proofs.text.add_all_blocks.Given as goal

-- so many are told
abbrev pub invariant-loop-place : goal.invariant-loop-place
invariant-loop-place g l = l.out.items ≡ l.fn.out.items ++ flat_map (λ place. block_line l.plan (block_at l.blocks place)) (take l.place-index l.order)
