-- Sets of instruments, a bit for each.
use Rattle.std.specs.Prelude.{ℕ, Bool, ◌&&◌, ◌==◌}
use Rattle.std.specs.Int.{bit_at}

-- a set of instruments is a number whose bit i stands for instrument i
unfoldable pub holds : ℕ → ℕ → Bool
holds set i = bit_at set i == 1

-- both sets hold the instrument
abbrev pub both_in : ℕ → ℕ → ℕ → Bool
both_in a b i = holds a i && holds b i
