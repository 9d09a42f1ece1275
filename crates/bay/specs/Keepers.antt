-- For readers: who keeps an instrument from an ask.
use Rattle.std.specs.Prelude.{◌≡◌, ◌⊎◌, ℕ, ◌<◌, Bool, true, false, ◌&&◌, List, length, IfSome, Option, Some, None}
use Rattle.bay_line.specs.Wishes.{wish_at, is_ready}
use Rattle.bay_line.specs.Keepers.{has, IsWishWith, IsKeeper as IsKeeperInLine}
use Rattle.bay_book.specs.declared.ask.Ask.{Ask}
use Rattle.bay_book.specs.declared.ask.Stage.TheVariants.{Waits}
use Rattle.bay_book.specs.Asks.{is_holding}
use Rattle.bay_book.specs.Books.{BookView}
use Rattle.bay.specs.declared.classes.Class.{Class}
use Rattle.bay.specs.Members.{Has}
use Rattle.bay.specs.Cores.{Core, AreFree}
use Rattle.bay.specs.Views.{RoomView, core_of, GoesOn}

-- the ask holds the instrument
abbrev pub holds_it : ℕ → Ask → Bool
holds_it instrument a = is_holding a.stage && has a.needs instrument

-- one that does; or nobody does
abbrev pub IsHolder : BookView → ℕ → Option Ask → Type 0
IsHolder book instrument (Some a) = Has book.asks a × (holds_it instrument a ≡ true)
IsHolder book instrument None = (a : Ask) → Has book.asks a → holds_it instrument a ≡ true → ⊥

-- the ask with this number, and no other has it; or it isn't in the book
pub record IsAskOf (asks : List Ask) (number : ℕ) (ask : Option Ask) : Type 0 where
  pub found : IfSome ask (λ a. Has asks a × (a.number ≡ number))
  pub only : (a : Ask) → Has asks a → a.number ≡ number → ask ≡ Some a

-- nobody holds it; and in line it is kept from the ask with this number for that one, first of all, or for nobody
pub record IsKeptInLine (classes : List Class) (x : Core) (number instrument : ℕ) (keeper : Option ℕ) : Type 0 where
  pub unused : IsHolder x.book instrument None
  pub free : ℕ
  pub are_free : AreFree classes x.book.asks free
  pub first : IsKeeperInLine x.line.most free x.line.wishes number instrument keeper

-- Who keeps the instrument from the ask with this number: whoever holds it; or nobody does, and it is kept for this one, which waits. Or nobody keeps it
abbrev pub IsKeeper : List Class → Core → ℕ → ℕ → Option Ask → Type 0
IsKeeper classes x number instrument (Some a) =
    IsHolder x.book instrument (Some a)
    ⊎ (Has x.book.asks a × (a.stage ≡ Waits) × IsKeptInLine classes x number instrument (Some a.number))
IsKeeper classes x number instrument None = IsKeptInLine classes x number instrument None

-- ---- nobody waits for nobody

-- a set of the ask has an instrument that somebody keeps from it
pub record HasAKeeper (classes : List Class) (x : Core) (number : ℕ) : Type 0 where
  pub k : ℕ
  pub instrument : ℕ
  pub its : IsWishWith x.line.wishes number instrument k
  pub somebody : IsKeeper classes x number instrument None → ⊥

-- for each that is in line no place is free; or somebody keeps an instrument of one of its sets from it
pub record EachHasAKeeper (x : RoomView) : Type 0 where
  pub free : ℕ
  pub are_free : AreFree x.classes x.book.asks free
  pub keepers :
      (k : ℕ) → k < length x.line.wishes
      → (is_ready free (wish_at x.line.wishes k) ≡ false) ⊎ HasAKeeper x.classes (core_of x) (wish_at x.line.wishes k).ask

-- so it is after each call
abbrev pub NobodyWaitsForNobody : Type 0
NobodyWaitsForNobody = (old new : RoomView) (now : ℕ) (mid : Core) → GoesOn now mid old new → EachHasAKeeper new
