-- Two slots, if they differ.
use Rattle.std.specs.Prelude.{ℕ, ◌==◌, Option, None, Some, if◌then◌else◌}

abbrev pub two_slots : Option ℕ → Option ℕ → Option (ℕ × ℕ)
two_slots (Some x) (Some y) = if x == y then None else Some (x, y)
two_slots _ _ = None
