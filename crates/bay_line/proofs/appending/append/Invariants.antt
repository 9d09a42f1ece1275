use Rattle.std.proofs.Common.{◌≡◌, ◌++◌, take}
use Rattle.bay_line.specs.Lines.{wishes_of}
use Rattle.bay_line.proofs.appending.append.Given as goal

abbrev pub invariant-loop-place : goal.invariant-loop-place
invariant-loop-place l = l.wishes.items ≡ l.fn.wishes.items ++ wishes_of l.ask (take l.place l.sets) l.classes l.deadline
