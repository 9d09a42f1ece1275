-- Narrow columns.
use Rattle.std.proofs.Common.{ℕ, ◌*◌, ◌≤◌}
use Rattle.std.specs.Prelude.{◌/◌}
use Rattle.std.proofs.Math.Nat.{div-le_self}

pub narrow_within : (column columns : ℕ) → 3800 * column / columns ≤ 3800 * column
narrow_within column columns = div-le_self (3800 * column) columns
