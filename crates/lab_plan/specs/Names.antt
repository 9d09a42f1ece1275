-- For readers: names of jobs and instruments.
use Rattle.std.specs.Prelude.{ℕ, Bool, ◌&&◌, ◌||◌, not, nat_le, List, [], ◌∷◌, ◌==◌, length, slice_index, codes, IsTrue}
use Rattle.std.specs.List.{list_all, list_any}
use Rattle.std.specs.Str.{bytes_eq}

-- a letter a to z, and a digit
abbrev pub is_letter : ℕ → Bool
is_letter b = nat_le 97 b && nat_le b 122

abbrev pub is_digit : ℕ → Bool
is_digit b = nat_le 48 b && nat_le b 57

-- a byte of a name: a letter, a digit or '-'
abbrev pub is_name_byte : ℕ → Bool
is_name_byte b = is_letter b || is_digit b || b == 45

-- the words of the other lines of a script are no names
unfoldable pub is_reserved : List ℕ → Bool
is_reserved bytes = list_any (bytes_eq bytes) (codes "lab" ∷ codes "job" ∷ codes "session" ∷ codes "end" ∷ codes "steps" ∷ codes "patience" ∷ [])

-- a name: 1 to 16 bytes, the first a letter, the others letters, digits or '-', and no reserved word
abbrev pub is_name : List ℕ → Bool
is_name bytes = nat_le 1 (length bytes) && nat_le (length bytes) 16 && is_letter (slice_index bytes 0) && list_all is_name_byte bytes && not (is_reserved bytes)

abbrev pub IsName : List ℕ → Type 0
IsName bytes = IsTrue (is_name bytes)
