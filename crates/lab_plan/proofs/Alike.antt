-- Lists of one value.
use Rattle.std.proofs.Common.{◌≡◌, ℕ, zero, suc, replicate, slice_index_or, refl}

-- at each place stands the value, which is also what is read past the end
pub read_alike : {X : Type 0} (n i : ℕ) (x : X) → slice_index_or (replicate n x) i x ≡ x
read_alike zero i x = refl
read_alike (suc n) zero x = refl
read_alike (suc n) (suc i) x = read_alike n i x
