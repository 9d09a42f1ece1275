use Rattle.std.proofs.Common.{◌≡◌, ◌++◌}
use Rattle.std.specs.List.{flat_map, range_with_len}
use Rattle.round_picture.specs.Gantt.{tick_text}
use Rattle.round_picture.proofs.gantt.add_scale.Given as goal

-- so much of the scale is drawn
abbrev pub invariant-loop-number : goal.invariant-loop-number
invariant-loop-number g l = l.out.items ≡ l.fn.out.items ++ flat_map (tick_text l.last l.bottom l.step) (range_with_len 0 l.number)
