-- For readers: the bytes that may stand in a line.
use Rattle.std.specs.Prelude.{◌≡◌, ℕ, ◌==◌, ◌≤◌, Bool, true, ◌&&◌, not, List, length}
use Rattle.std.specs.List.{list_all}

-- neither a line feed nor a carriage return
abbrev pub is_plain : ℕ → Bool
is_plain byte = not (byte == 10) && not (byte == 13)

abbrev pub ArePlain : List ℕ → Type 0
ArePlain bytes = list_all is_plain bytes ≡ true

-- the text of a note
pub record IsText (bytes : List ℕ) : Type 0 where
  pub short : length bytes ≤ 500
  pub plain : ArePlain bytes
