-- For readers: whose turn it is, and what that does to the line.
use Rattle.std.specs.Prelude.{◌≡◌, ◌≢◌, ◌⊎◌, ℕ, zero, suc, ◌<◌, ◌≤◌, Bool, true, false, ◌&&◌, ◌||◌, not, ◌==◌, List, [], ◌∷◌, length, Option, Some, None}
use Rattle.std.specs.List.{filter}
use Rattle.std.specs.Int.{bit_at}
use Rattle.std.specs.Int.Bits.{bit_and}
use Rattle.bay_line.specs.declared.wish.Wish.{Wish}
use Rattle.bay_line.specs.Wishes.{wish_at, common, is_ready, is_kept, passed_by, WantsNoMore}

-- wish j of another ask stands before wish k and wants no more; and it was passed by as often as may be if k was
pub record IsElder (most free : ℕ) (wishes : List Wish) (j k : ℕ) : Type 0 where
  pub stands : j < k
  pub another : (wish_at wishes j).ask ≢ (wish_at wishes k).ask
  pub wants : WantsNoMore (wish_at wishes j) (wish_at wishes k)
  pub too : is_kept most free (wish_at wishes k) ≡ true → is_kept most free (wish_at wishes j) ≡ true

abbrev pub HasElder : ℕ → ℕ → List Wish → ℕ → Type 0
HasElder most free wishes k = (j : ℕ) × IsElder most free wishes j k

-- The instruments of wish i are kept from wish k: both were passed by as often as may be, and i stands before k; or i alone was. An ask keeps nothing from
-- itself; only where it is kept from somebody else that stands before k and wants no more, k waits as that one does
abbrev pub KeepsFrom : ℕ → ℕ → List Wish → ℕ → ℕ → Type 0
KeepsFrom most free wishes i k =
    (i < length wishes) × (is_kept most free (wish_at wishes i) ≡ true) × ((i < k) ⊎ (is_kept most free (wish_at wishes k) ≡ false))
    × (((wish_at wishes i).ask ≢ (wish_at wishes k).ask) ⊎ HasElder most free wishes k)

-- It may be let in: a place is free for it, its instruments are free, and none of them is kept from it
pub record MayGoIn (most in_use free : ℕ) (wishes : List Wish) (k : ℕ) : Type 0 where
  pub ready : is_ready free (wish_at wishes k) ≡ true
  pub unused : common (wish_at wishes k).needs in_use ≡ false
  pub not_kept : (i : ℕ) → KeepsFrom most free wishes i k → common (wish_at wishes k).needs (wish_at wishes i).needs ≡ false

-- Why it waits: no place is free for it; or an instrument of it is in use; or one is kept from it
abbrev pub HasReason : ℕ → ℕ → ℕ → List Wish → ℕ → Type 0
HasReason most in_use free wishes k =
    (is_ready free (wish_at wishes k) ≡ false) ⊎ (common (wish_at wishes k).needs in_use ≡ true)
    ⊎ ((i : ℕ) × KeepsFrom most free wishes i k × (common (wish_at wishes k).needs (wish_at wishes i).needs ≡ true))

-- wish i goes before wish k: it stands before it, and was passed by as often as may be if k was; or it was, and k wasn't
abbrev pub IsBefore : ℕ → ℕ → List Wish → ℕ → ℕ → Type 0
IsBefore most free wishes i k =
    (i < length wishes)
    × (((i < k) × (is_kept most free (wish_at wishes k) ≡ true → is_kept most free (wish_at wishes i) ≡ true))
    ⊎ ((is_kept most free (wish_at wishes i) ≡ true) × (is_kept most free (wish_at wishes k) ≡ false)))

-- it may be let in, and none that goes before it may; or none may at all
abbrev pub IsFirst : ℕ → ℕ → ℕ → List Wish → Option ℕ → Type 0
IsFirst most in_use free wishes (Some k) =
    (k < length wishes) × MayGoIn most in_use free wishes k × ((i : ℕ) → IsBefore most free wishes i k → HasReason most in_use free wishes i)
IsFirst most in_use free wishes None = (i : ℕ) → i < length wishes → HasReason most in_use free wishes i

-- the first n wishes were passed by, as far as they are
abbrev pub pass_to : ℕ → ℕ → ℕ → ℕ → List Wish → List Wish
pass_to most free needs zero wishes = wishes
pass_to most free needs (suc n) [] = []
pass_to most free needs (suc n) (w ∷ wishes) = passed_by most free needs w ∷ pass_to most free needs n wishes

-- all were
abbrev pub pass_all : ℕ → ℕ → ℕ → List Wish → List Wish
pass_all most free needs [] = []
pass_all most free needs (w ∷ wishes) = passed_by most free needs w ∷ pass_all most free needs wishes

-- all but those of this ask, in their order
abbrev pub others : ℕ → List Wish → List Wish
others ask wishes = filter (λ w. not (w.ask == ask)) wishes

-- wish k is let in: the others are passed by, as far as they are, and no wish of its ask is in line any more
abbrev pub after : ℕ → ℕ → ℕ → List Wish → List Wish
after most free k wishes = others (wish_at wishes k).ask (pass_all most free (wish_at wishes k).needs wishes)

-- ---- how the first is found

-- something of x is in use, or in a wish of which P is true
abbrev pub IsTakenOr : ℕ → List Wish → (ℕ → Type 0) → ℕ → Type 0
IsTakenOr in_use wishes P x = (common x in_use ≡ true) ⊎ ((i : ℕ) × P i × (common x (wish_at wishes i).needs ≡ true))

-- the set has just what is in use, and what the wishes have of which P is true
pub record AreKept (in_use : ℕ) (wishes : List Wish) (P : ℕ → Type 0) (kept : ℕ) : Type 0 where
  pub unused : (x : ℕ) → common x kept ≡ false → common x in_use ≡ false
  pub apart : (x : ℕ) → common x kept ≡ false → (i : ℕ) → P i → common x (wish_at wishes i).needs ≡ false
  pub why : (x : ℕ) → common x kept ≡ true → IsTakenOr in_use wishes P x

-- one of the first n for which its instruments are kept
abbrev pub IsKeptBelow : ℕ → ℕ → List Wish → ℕ → ℕ → Type 0
IsKeptBelow most free wishes n i = (i < n) × (is_kept most free (wish_at wishes i) ≡ true)

-- of those for which their instruments are kept, each below n has a reason
abbrev pub KeptHaveReasons : ℕ → ℕ → ℕ → List Wish → ℕ → Type 0
KeptHaveReasons most in_use free wishes n = (i : ℕ) → IsKeptBelow most free wishes n i → HasReason most in_use free wishes i

-- the first of them that may be let in; or none may, and what they keep
abbrev pub IsFirstKept : ℕ → ℕ → ℕ → List Wish → Option ℕ × ℕ → Type 0
IsFirstKept most in_use free wishes (Some k, kept) =
    (k < length wishes) × (is_kept most free (wish_at wishes k) ≡ true) × MayGoIn most in_use free wishes k
    × KeptHaveReasons most in_use free wishes k
IsFirstKept most in_use free wishes (None, kept) =
    AreKept in_use wishes (IsKeptBelow most free wishes (length wishes)) kept × KeptHaveReasons most in_use free wishes (length wishes)

-- of those for which their instruments aren't kept, each below n has a reason
abbrev pub OthersHaveReasons : ℕ → ℕ → ℕ → List Wish → ℕ → Type 0
OthersHaveReasons most in_use free wishes n =
    (i : ℕ) → i < n → is_kept most free (wish_at wishes i) ≡ false → HasReason most in_use free wishes i

-- the first of them that may be let in; or none may
abbrev pub IsFirstOther : ℕ → ℕ → ℕ → List Wish → Option ℕ → Type 0
IsFirstOther most in_use free wishes (Some k) =
    (k < length wishes) × (is_kept most free (wish_at wishes k) ≡ false) × MayGoIn most in_use free wishes k × OthersHaveReasons most in_use free wishes k
IsFirstOther most in_use free wishes None = OthersHaveReasons most in_use free wishes (length wishes)

-- ---- how it is seen of one

-- a place is free for it, and all its instruments are
abbrev pub is_free : ℕ → ℕ → Wish → Bool
is_free in_use free w = is_ready free w && not (common w.needs in_use)

-- the first n are those that may keep their instruments from wish k: those before it; or all, if its own aren't kept
pub record MayKeep (most free : ℕ) (wishes : List Wish) (k n : ℕ) : Type 0 where
  pub few : n ≤ length wishes
  pub each : (i : ℕ) → i < length wishes → (i < k) ⊎ (is_kept most free (wish_at wishes k) ≡ false) → i < n
  pub only : (i : ℕ) → i < n → (i < k) ⊎ (is_kept most free (wish_at wishes k) ≡ false)

-- the wish is one of another ask than v, and its instruments are kept, and one of them is one of v's
abbrev pub holds_back : ℕ → ℕ → Wish → Wish → Bool
holds_back most free v w = is_kept most free w && not (w.ask == v.ask) && common v.needs w.needs

-- the answer says whether one of the first n does so
abbrev pub SaysHeldBack : ℕ → ℕ → List Wish → ℕ → ℕ → Bool → Type 0
SaysHeldBack most free wishes k n true = (i : ℕ) × (i < n) × (holds_back most free (wish_at wishes k) (wish_at wishes i) ≡ true)
SaysHeldBack most free wishes k n false = (i : ℕ) → i < n → holds_back most free (wish_at wishes k) (wish_at wishes i) ≡ false

-- the wish before v is one of another ask, and wants no more; and it was passed by as often as may be if v was
abbrev pub is_elder : ℕ → ℕ → Wish → Wish → Bool
is_elder most free v w =
    not (w.ask == v.ask) && (bit_and w.needs v.needs == w.needs) && (bit_and v.classes w.classes == v.classes)
    && (is_kept most free w || not (is_kept most free v))

-- the answer says whether somebody else stands before it and wants no more
abbrev pub SaysElder : ℕ → ℕ → List Wish → ℕ → Bool → Type 0
SaysElder most free wishes k true = HasElder most free wishes k
SaysElder most free wishes k false = HasElder most free wishes k → ⊥

-- if the answer says so, no wish of its ask stands before it; none stands behind it; no other one is in line
abbrev pub SaysFirst : List Wish → ℕ → Bool → Type 0
SaysFirst wishes k true = (i : ℕ) → i < k → (wish_at wishes i).ask ≢ (wish_at wishes k).ask
SaysFirst wishes k false = Unit {0}

abbrev pub SaysLast : List Wish → ℕ → Bool → Type 0
SaysLast wishes k true = (i : ℕ) → i < length wishes → k < i → (wish_at wishes i).ask ≢ (wish_at wishes k).ask
SaysLast wishes k false = Unit {0}

abbrev pub SaysAlone : List Wish → ℕ → Bool → Type 0
SaysAlone wishes k true = (i : ℕ) → i < length wishes → i ≢ k → (wish_at wishes i).ask ≢ (wish_at wishes k).ask
SaysAlone wishes k false = Unit {0}

-- none of the first n holds it back but those of its own ask, and nobody else stands before it and wants no more; or else it says which isn't so, or no
-- other wish of its ask is in line
abbrev pub SaysOnlyItsOwn : ℕ → ℕ → List Wish → ℕ → ℕ → Bool → Type 0
SaysOnlyItsOwn most free wishes k n true = SaysHeldBack most free wishes k n false × (HasElder most free wishes k → ⊥)
SaysOnlyItsOwn most free wishes k n false = SaysAlone wishes k true ⊎ SaysHeldBack most free wishes k n true ⊎ HasElder most free wishes k

-- the answer says whether it may be let in; if not, it has a reason
abbrev pub SaysMayGo : ℕ → ℕ → ℕ → List Wish → ℕ → Bool → Type 0
SaysMayGo most in_use free wishes k true = MayGoIn most in_use free wishes k
SaysMayGo most in_use free wishes k false = HasReason most in_use free wishes k

-- the answer says whether it is one of those for which their instruments are kept, or aren't, and may be let in; if it is one, and may not, it has a reason
abbrev pub SaysItsTurn : Bool → ℕ → ℕ → ℕ → List Wish → ℕ → Bool → Type 0
SaysItsTurn kept most in_use free wishes k true = (is_kept most free (wish_at wishes k) ≡ kept) × MayGoIn most in_use free wishes k
SaysItsTurn kept most in_use free wishes k false = is_kept most free (wish_at wishes k) ≡ kept → HasReason most in_use free wishes k

-- a place of this class is free, and the wish may take it
pub record IsFreeClass (free : ℕ) (w : Wish) (class : ℕ) : Type 0 where
  pub is_free : bit_at free class ≡ 1
  pub its : bit_at w.classes class ≡ 1
  pub small : class < 32
