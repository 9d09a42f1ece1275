use Rattle.std.proofs.Common.{◌≡◌, ◌≤◌, take}
use Rattle.std.specs.List.{count_by}
use Rattle.bay_line.specs.Keepers.{is_of}
use Rattle.bay_line.proofs.keeper.wish_for.Given as goal

abbrev pub invariant-loop-place : goal.invariant-loop-place
invariant-loop-place l = record { so_many : l.before ≡ count_by (is_of l.ask) (take l.place l.wishes); few : l.before ≤ l.set }
