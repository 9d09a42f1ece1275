-- For readers: numbers of a fixed width as hex digits.
use Rattle.std.specs.Prelude.{◌≡◌, ℕ, ◌/◌, ◌%◌, ◌^◌, List, ◌++◌, length, Option, None, Some, Result, Ok, Err}
use Rattle.std.specs.Int.{Width, w64, byte_len, to_be_bytes, from_be_bytes}
use Rattle.hex.specs.Hex.{encode_lower, decode_sized, IsBytes}
use Rattle.hex.specs.declared.error.FromHexError.{FromHexError}

-- a number of this width, its high digits first: 8 for 32 bits, 16 for 64
unfoldable pub digits : Width → ℕ → List ℕ
digits w n = encode_lower (to_be_bytes w n)

-- 32 digits for a number of 128 bits
abbrev pub digits_of_128 : ℕ → List ℕ
digits_of_128 n = digits w64 (n / 2 ^ 64) ++ digits w64 (n % 2 ^ 64)

abbrev pub number_in : Width → Result (List ℕ) FromHexError → Option ℕ
number_in w (Ok bytes) = Some (from_be_bytes w bytes)
number_in w (Err e) = None

-- the number that has these digits, in either case; none if they are too few or too many
unfoldable pub number_of : Width → List ℕ → Option ℕ
number_of w text = number_in w (decode_sized text (byte_len w))

-- a hash is 32 bytes
pub record IsHash (hash : List ℕ) : Type 0 where
  pub len : length hash ≡ 32
  pub bytes : IsBytes hash
