-- For readers: numbers as they are spelled in a script.
use Rattle.std.specs.Prelude.{ℕ, ◌+◌, ◌-◌, ◌*◌, Bool, ◌&&◌, ◌||◌, not, nat_le, List, [], ◌∷◌, ◌==◌, length, slice_index}
use Rattle.std.specs.List.{list_all}
use Rattle.lab_plan.specs.Names.{is_digit}

-- the digits, read one after another behind a number
abbrev pub value_after : ℕ → List ℕ → ℕ
value_after n [] = n
value_after n (b ∷ bs) = value_after (10 * n + (b - 48)) bs

-- the number that the digits spell
abbrev pub number_of : List ℕ → ℕ
number_of bytes = value_after 0 bytes

-- a number up to the largest: 1 to 6 digits, the first 0 only if it stands alone
abbrev pub is_number : List ℕ → Bool
is_number bytes = nat_le 1 (length bytes) && nat_le (length bytes) 6 && list_all is_digit bytes && (not (slice_index bytes 0 == 48) || length bytes == 1)
