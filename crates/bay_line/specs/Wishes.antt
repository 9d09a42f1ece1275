-- For readers: what somebody in line waits for, and by whom it is passed by.
use Rattle.std.specs.Prelude.{◌≡◌, ℕ, ◌+◌, Bool, ◌&&◌, not, ◌==◌, nat_le, nat_lt, if◌then◌else◌, false, List, slice_index_or, Option, None, Some}
use Rattle.std.specs.Int.Bits.{bit_and}
use Rattle.bay_line.specs.declared.wish.Wish.{Wish}

-- (what isn't in line)
abbrev pub no_wish : Wish
no_wish = record { ask = 0; needs = 0; classes = 0; deadline = None; passed = 0 }

abbrev pub wish_at : List Wish → ℕ → Wish
wish_at wishes k = slice_index_or wishes k no_wish

-- something is in both sets
abbrev pub common : ℕ → ℕ → Bool
common a b = not (bit_and a b == 0)

-- a place is free of a class that it may take
abbrev pub is_ready : ℕ → Wish → Bool
is_ready free w = common w.classes free

-- the limit of time has passed at this moment
abbrev pub is_past : ℕ → Option ℕ → Bool
is_past now (Some end) = nat_le end now
is_past now None = false

-- its time is over
abbrev pub is_late : ℕ → Wish → Bool
is_late now w = is_past now w.deadline

-- it was passed by as often as may be, and a place is free for it: so its instruments are kept for it from all but its own ask and those before it
-- of which the same is true
abbrev pub is_kept : ℕ → ℕ → Wish → Bool
is_kept most free w = is_ready free w && nat_le most w.passed

-- it wants no instrument that the other doesn't, and may have a place wherever the other may
pub record WantsNoMore (w other : Wish) : Type 0 where
  pub needs : bit_and w.needs other.needs ≡ w.needs
  pub classes : bit_and other.classes w.classes ≡ other.classes

-- somebody comes to hold one of its instruments, though a place was free for it
abbrev pub passes : ℕ → ℕ → Wish → Bool
passes free needs w = is_ready free w && common w.needs needs

-- and it counts that: it was passed by less often than may be
abbrev pub counts : ℕ → ℕ → ℕ → Wish → Bool
counts most free needs w = passes free needs w && nat_lt w.passed most

-- so it is passed by once more
abbrev pub passed_by : ℕ → ℕ → ℕ → Wish → Wish
passed_by most free needs w =
    if counts most free needs w then record { ask = w.ask; needs = w.needs; classes = w.classes; deadline = w.deadline; passed = w.passed + 1 } else w

-- it counts as passed by as often as may be
abbrev pub passed_most : ℕ → Wish → Wish
passed_most most w = record { ask = w.ask; needs = w.needs; classes = w.classes; deadline = w.deadline; passed = most }
