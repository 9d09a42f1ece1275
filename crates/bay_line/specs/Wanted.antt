-- For readers: what those in line want, all together.
use Rattle.std.specs.Prelude.{◌≡◌, ℕ, ◌<◌, ◌≤◌, ◌==◌, nat_le, Bool, ◌&&◌, not, if◌then◌else◌, true, false, List, length, Option, Some, None}
use Rattle.std.specs.Int.{bit_at}
use Rattle.std.specs.Int.Bits.{bit_and}
use Rattle.bay_line.specs.declared.wish.Wish.{Wish}
use Rattle.bay_line.specs.Wishes.{wish_at, common, is_past}
use Rattle.bay_line.specs.Lines.{IsLate}

-- the set has just what the first n wishes have, by what each of them has: bit by bit; and so it shares something with a set just if one of them does
pub record IsAllOf (what : Wish → ℕ) (wishes : List Wish) (n : ℕ) (all : ℕ) : Type 0 where
  pub has : (k i : ℕ) → k < n → bit_at (what (wish_at wishes k)) i ≡ 1 → bit_at all i ≡ 1
  pub whose : (i : ℕ) → bit_at all i ≡ 1 → (k : ℕ) × (k < n) × (bit_at (what (wish_at wishes k)) i ≡ 1)
  pub shares : (x k : ℕ) → k < n → common x (what (wish_at wishes k)) ≡ true → common x all ≡ true
  pub with : (x : ℕ) → common x all ≡ true → (k : ℕ) × (k < n) × (common x (what (wish_at wishes k)) ≡ true)

-- the instruments that somebody in line wants
abbrev pub AreWanted : List Wish → ℕ → Type 0
AreWanted wishes all = IsAllOf (λ w. w.needs) wishes (length wishes) all

-- the classes of places that somebody in line may take
abbrev pub AreClasses : List Wish → ℕ → Type 0
AreClasses wishes all = IsAllOf (λ w. w.classes) wishes (length wishes) all

-- the wish is this ask's, and has more than these instruments
abbrev pub leaves : ℕ → ℕ → Wish → Bool
leaves ask uses w = w.ask == ask && not (bit_and w.needs uses == w.needs)

-- the one that is earlier, if there is one
abbrev pub sooner : Option ℕ → Option ℕ → Option ℕ
sooner None b = b
sooner (Some a) None = Some a
sooner (Some a) (Some b) = Some (if nat_le a b then a else b)

-- the earliest of the deadlines of the first n wishes; or none of them has one
abbrev pub IsFirstDeadline : List Wish → ℕ → Option ℕ → Type 0
IsFirstDeadline wishes n (Some end) =
    ((k : ℕ) × (k < n) × ((wish_at wishes k).deadline ≡ Some end))
    × ((k other : ℕ) → k < n → (wish_at wishes k).deadline ≡ Some other → end ≤ other)
IsFirstDeadline wishes n None = (k : ℕ) → k < n → (wish_at wishes k).deadline ≡ None

-- nobody's time is over before the earliest deadline; and from then on somebody's is
pub record IsLateFrom (end : Option ℕ) (wishes : List Wish) : Type 0 where
  pub before : (now : ℕ) → is_past now end ≡ false → IsLate now wishes None
  pub after : (now : ℕ) → is_past now end ≡ true → (ask : ℕ) × IsLate now wishes (Some ask)

abbrev pub IsLateFromFirst : Type 0
IsLateFromFirst = (wishes : List Wish) (end : Option ℕ) → IsFirstDeadline wishes (length wishes) end → IsLateFrom end wishes
