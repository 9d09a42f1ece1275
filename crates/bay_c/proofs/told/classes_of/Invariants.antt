use Rattle.std.proofs.Common.{◌≡◌, map, take}
use Rattle.bay_c.specs.Telling.{class_of}
use Rattle.bay_c.proofs.told.classes_of.Given as goal

-- those before this place are made
abbrev pub invariant-loop-place : goal.invariant-loop-place
invariant-loop-place l = l.made.items ≡ map class_of (take l.place l.classes)
