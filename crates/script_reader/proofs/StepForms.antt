-- A step line of which only one form fits the number of its names.
use Rattle.std.proofs.Common.{◌≡◌, refl}
use Rattle.std.specs.Prelude.{Option, None, Some}
use Rattle.script_reader.specs.Steps.{or_else}

-- no other form has a step
pub only_first : {A : Type 0} (o : Option A) → or_else o None ≡ o
only_first None = refl
only_first (Some x) = refl
