-- Where rounds stand, within what fits.
use Rattle.std.proofs.Common.{ℕ, ◌*◌, ◌≤◌, mul-le-mul_right, div-le_self}
use Rattle.std.specs.Prelude.{◌/◌}

pub narrow_within : (k last : ℕ) → 4000 * k / last ≤ 4000 * k
narrow_within k last = div-le_self (4000 * k) last

pub wide_within : (w k : ℕ) → w ≤ 24 → w * k ≤ 24 * k
wide_within w k few = mul-le-mul_right k few
