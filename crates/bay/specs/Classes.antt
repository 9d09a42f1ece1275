-- For readers: the classes of those that ask, and what they may use.
use Rattle.std.specs.Prelude.{ℕ, ◌^◌, Bool, ◌||◌, ◌==◌, not, List, length, slice_index_or}
use Rattle.std.specs.List.{list_any}
use Rattle.std.specs.Int.Bits.{bit_and}
use Rattle.bay.specs.declared.classes.Class.{Class}

-- (no class)
abbrev pub no_class : Class
no_class = record { uses = 0; places = 0 }

abbrev pub class_at : List Class → ℕ → Class
class_at classes k = slice_index_or classes k no_class

-- the set of this class alone
abbrev pub class_bit : ℕ → ℕ
class_bit class = 2 ^ class

-- all of the set is in what may be used
abbrev pub is_within : ℕ → ℕ → Bool
is_within uses set = bit_and set uses == set

-- one of the sets is empty
abbrev pub has_empty : List ℕ → Bool
has_empty sets = list_any (λ set. set == 0) sets

-- so it is, or there is none
abbrev pub has_no_set : List ℕ → Bool
has_no_set sets = length sets == 0 || has_empty sets

-- one of the sets has more than may be used
abbrev pub leaves : ℕ → List ℕ → Bool
leaves uses sets = list_any (λ set. not (is_within uses set)) sets
