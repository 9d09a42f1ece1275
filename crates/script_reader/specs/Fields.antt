-- For readers: the fields of a line.
use Rattle.std.specs.Prelude.{ℕ, Bool, true, false, ◌||◌, List, [], ◌∷◌, ◌==◌}
use Rattle.std.specs.List.{filter, slice_split}

-- a space or a tab
abbrev pub is_gap : ℕ → Bool
is_gap b = b == 32 || b == 9

abbrev pub is_some_field : List ℕ → Bool
is_some_field [] = false
is_some_field (b ∷ bs) = true

-- the fields: the parts between spaces and tabs that aren't empty
unfoldable pub fields : List ℕ → List (List ℕ)
fields line = filter is_some_field (slice_split is_gap line)
