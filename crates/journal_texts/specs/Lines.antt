-- For readers: the part of a text that is whole lines.
use Rattle.std.specs.Prelude.{◌≡◌, ◌≢◌, ◌⊎◌, ℕ, ◌-◌, ◌<◌, ◌≤◌, List, length, slice_index}

-- the first n bytes are all up to behind the last line feed
pub record AreWholeLines (bytes : List ℕ) (n : ℕ) : Type 0 where
  pub within : n ≤ length bytes
  pub ended : (n ≡ 0) ⊎ (slice_index bytes (n - 1) ≡ 10)
  pub behind : (k : ℕ) → n ≤ k → k < length bytes → slice_index bytes k ≢ 10
