use Rattle.std.proofs.Common.{◌≡◌, ◌++◌, take}
use Rattle.std.specs.List.{flat_map}
use Rattle.round_picture.specs.Keepers.{further_text}
use Rattle.round_picture.proofs.keepers.add_further.Given as goal

-- so many keepers are told
abbrev pub invariant-loop-block : goal.invariant-loop-block
invariant-loop-block g l = l.out.items ≡ l.fn.out.items ++ flat_map (further_text l.plan) (take l.block-index l.blocks)
