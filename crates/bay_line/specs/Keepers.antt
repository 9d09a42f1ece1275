-- For readers: for whom in line an instrument is kept from an ask, and for what an ask waits.
use Rattle.std.specs.Prelude.{◌≡◌, ◌≢◌, ◌⊎◌, ℕ, ◌<◌, ◌≤◌, Bool, true, false, ◌&&◌, ◌||◌, not, ◌==◌, nat_lt, List, length, take, Option, Some, None}
use Rattle.std.specs.List.{count_by}
use Rattle.std.specs.Int.{bit_at}
use Rattle.bay_line.specs.declared.wish.Wish.{Wish}
use Rattle.bay_line.specs.Wishes.{wish_at, is_ready, is_kept}
use Rattle.bay_line.specs.Turns.{KeepsFrom}
use Rattle.bay_line.specs.Lines.{IsChosen}

-- the instrument is in the set
abbrev pub has : ℕ → ℕ → Bool
has set instrument = bit_at set instrument == 1

-- wish k is one of this ask, with the instrument
pub record IsWishWith (wishes : List Wish) (ask instrument k : ℕ) : Type 0 where
  pub inside : k < length wishes
  pub its : (wish_at wishes k).ask ≡ ask
  pub needs : has (wish_at wishes k).needs instrument ≡ true

-- The instrument is kept for wish i from this ask. The wish is another's, and has it; it was passed by as often as may be, and a place is free for it; and it
-- asked before, or it keeps its instruments from a wish of the ask with this one
pub record IsKeptFor (most free : ℕ) (wishes : List Wish) (ask instrument i : ℕ) : Type 0 where
  pub inside : i < length wishes
  pub needs : has (wish_at wishes i).needs instrument ≡ true
  pub kept : is_kept most free (wish_at wishes i) ≡ true
  pub another : (wish_at wishes i).ask ≢ ask
  pub from : ((wish_at wishes i).ask < ask) ⊎ ((k : ℕ) × IsWishWith wishes ask instrument k × KeepsFrom most free wishes i k)

-- the ask of the first wish in line for which it is kept; or it is kept for none
abbrev pub IsKeeper : ℕ → ℕ → List Wish → ℕ → ℕ → Option ℕ → Type 0
IsKeeper most free wishes ask instrument (Some keeper) =
    (i : ℕ) × IsKeptFor most free wishes ask instrument i × ((wish_at wishes i).ask ≡ keeper)
    × ((j : ℕ) → j < i → IsKeptFor most free wishes ask instrument j → ⊥)
IsKeeper most free wishes ask instrument None = (i : ℕ) → IsKeptFor most free wishes ask instrument i → ⊥

-- ---- what somebody in line lacks

-- a wish of the ask has an instrument that is in use, or kept for another
pub record LacksOne (most in_use free : ℕ) (wishes : List Wish) (ask : ℕ) : Type 0 where
  pub k : ℕ
  pub instrument : ℕ
  pub its : IsWishWith wishes ask instrument k
  pub why : (has in_use instrument ≡ true) ⊎ ((i : ℕ) × IsKeptFor most free wishes ask instrument i)

-- once nobody is let in any more: for whoever is in line no place is free; or an instrument of one of its sets is in use, or kept for another
abbrev pub EachLacksSomething : Type 0
EachLacksSomething =
    (most in_use free : ℕ) (wishes : List Wish) → IsChosen most in_use free wishes None → (k : ℕ) → k < length wishes
    → (is_ready free (wish_at wishes k) ≡ false) ⊎ LacksOne most in_use free wishes (wish_at wishes k).ask

-- ---- how it is found

-- a wish of the ask, with the instrument, that isn't kept its instruments
abbrev pub is_behind : ℕ → ℕ → ℕ → ℕ → Wish → Bool
is_behind most free ask instrument w = w.ask == ask && has w.needs instrument && not (is_kept most free w)

-- the answer says whether one is
abbrev pub SaysBehind : ℕ → ℕ → List Wish → ℕ → ℕ → Bool → Type 0
SaysBehind most free wishes ask instrument true = (k : ℕ) × (k < length wishes) × (is_behind most free ask instrument (wish_at wishes k) ≡ true)
SaysBehind most free wishes ask instrument false = (k : ℕ) → k < length wishes → is_behind most free ask instrument (wish_at wishes k) ≡ false

-- another's, which has it, and for which it is kept; and which asked before, or all others are behind it
abbrev pub keeps : ℕ → ℕ → ℕ → ℕ → Bool → Wish → Bool
keeps most free ask instrument behind w = is_kept most free w && has w.needs instrument && (nat_lt w.ask ask || behind && not (w.ask == ask))

-- ---- for what an ask waits

-- the wish is one of this ask
abbrev pub is_of : ℕ → Wish → Bool
is_of ask w = w.ask == ask

-- the wish for its set with this place among those that it asked for, counted from 0; or it isn't in line, or asked for no more
abbrev pub IsWishFor : List Wish → ℕ → ℕ → Option Wish → Type 0
IsWishFor wishes ask set (Some w) =
    (k : ℕ) × (k < length wishes) × (wish_at wishes k ≡ w) × (w.ask ≡ ask) × (count_by (is_of ask) (take k wishes) ≡ set)
IsWishFor wishes ask set None = count_by (is_of ask) wishes ≤ set
