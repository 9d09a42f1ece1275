-- Numbers as a report spells them.
use Rattle.std.specs.Prelude.{ℕ, ◌^◌, ◌&&◌, nat_lt, List, Option, None, Some, decimal, if◌then◌else◌}
use Rattle.std.specs.Str.{bytes_eq}
use Rattle.std.specs.Str.Parse.{digits_value}

-- the number below 2^32 whose decimal is the word
unfoldable pub number_of : List ℕ → Option ℕ
number_of word = let n = digits_value 10 word in if nat_lt n (2 ^ 32) && bytes_eq word (decimal n) then Some n else None
