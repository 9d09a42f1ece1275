use Rattle.std.proofs.Common.{◌≡◌, ◌++◌}
use Rattle.std.specs.List.{flat_map, range_with_len}
use Rattle.round_picture.specs.Gantt.{row_text}
use Rattle.round_picture.proofs.gantt.add_rows.Given as goal

-- so many rows are drawn
abbrev pub invariant-loop-job : goal.invariant-loop-job
invariant-loop-job g l = l.out.items ≡ l.fn.out.items ++ flat_map (row_text l.plan l.run) (range_with_len 0 l.job)
