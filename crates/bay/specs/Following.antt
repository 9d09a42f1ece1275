-- For readers: what is due at a moment, and how all follows from a change.
use Rattle.std.specs.Prelude.{◌≡◌, ◌⊎◌, ◌↔◌, ℕ, zero, suc, ◌<◌, Bool, true, List, length, Option, Some, None}
use Rattle.std.specs.Int.{bit_at}
use Rattle.bay_line.specs.declared.wish.Wish.{Wish}
use Rattle.bay_book.specs.declared.ask.Ask.{Ask}
use Rattle.bay_book.specs.declared.ask.End.{End}
use Rattle.bay_book.specs.declared.ask.End.TheVariants.{LetGo, Left, Lapsed, NotWritten, Limit, Grace, TakenAway, Replaced, Stopped}
use Rattle.bay_book.specs.declared.ask.Stage.TheVariants.{Waits, Holds as StageHolds}
use Rattle.bay_book.specs.Asks.{ask_at}
use Rattle.bay_book.specs.Moments.{common, is_past, limit_end, is_late, is_gone_too_long}
use Rattle.bay_book.specs.Books.{BookView, hold}
use Rattle.bay.specs.declared.classes.Class.{Class}
use Rattle.bay.specs.declared.terms.Terms.{Terms}
use Rattle.bay.specs.Members.{Has}
use Rattle.bay.specs.Cores.{Core, IsFreeClass, LetsIn, NobodyWaits, ended}

-- ---- those that wait are let in

-- the ask with this number stands at this place, and waits
pub record WaitsAt (asks : List Ask) (number place : ℕ) : Type 0 where
  pub inside : place < length asks
  pub its : (ask_at asks place).number ≡ number
  pub waits : (ask_at asks place).stage ≡ Waits

abbrev pub WaitsSomewhere : List Ask → ℕ → Type 0
WaitsSomewhere asks number = (place : ℕ) × WaitsAt asks number place

-- the ask with this number, which waited, holds these instruments
abbrev pub Holds : ℕ → ℕ → ℕ → Bool → BookView → BookView → Type 0
Holds number needs now keeps old new = (place : ℕ) × WaitsAt old.asks number place × (new ≡ hold old place needs now keeps)

-- so many were let in, one after another
abbrev pub LetIn : List Class → ℕ → Bool → ℕ → Core → Core → Type 0
LetIn classes now keeps zero old new = new ≡ old
LetIn classes now keeps (suc n) old new = (mid : Core) × LetIn classes now keeps n old mid × LetsIn classes now keeps mid new

abbrev pub LetsAllIn : List Class → ℕ → Bool → Core → Core → Type 0
LetsAllIn classes now keeps old new = (n : ℕ) × LetIn classes now keeps n old new

-- ---- whose time is over

-- somebody in line may take a place of the class, and none is free
abbrev pub IsFull : List Class → Core → ℕ → Type 0
IsFull classes x k = ((w : Wish) × Has x.line.wishes w × (bit_at w.classes k ≡ 1)) × (IsFreeClass classes x.book.asks k → ⊥)

-- the set has just these classes
abbrev pub AreFull : List Class → Core → ℕ → Type 0
AreFull classes x full = (k : ℕ) → (bit_at full k ≡ 1) ↔ IsFull classes x k

-- somebody waits for what the ask has: an instrument of it; or a place of its class, of which none is free
abbrev pub IsWanted : List Class → Core → Ask → Type 0
IsWanted classes x a = ((w : Wish) × Has x.line.wishes w × (common a.needs w.needs ≡ true)) ⊎ IsFull classes x a.class

-- The time of the ask is over, so that it ends like this: its client is gone for too long; or it holds for as long as it may while somebody waits for what it
-- has; or it waited until its deadline; or it holds, and what says so isn't on the disk in time
abbrev pub IsDue : List Class → Terms → ℕ → Core → Ask → End → Type 0
IsDue classes terms now x a LetGo = ⊥
IsDue classes terms now x a Left = ⊥
IsDue classes terms now x a Lapsed = (a.stage ≡ Waits) × (is_late now x.book.durable terms.disk a ≡ true)
IsDue classes terms now x a NotWritten = (a.stage ≡ StageHolds) × (is_late now x.book.durable terms.disk a ≡ true)
IsDue classes terms now x a Limit = IsWanted classes x a × (is_past now (limit_end a) ≡ true)
IsDue classes terms now x a Grace = is_gone_too_long now terms.grace a ≡ true
IsDue classes terms now x a TakenAway = ⊥
IsDue classes terms now x a Replaced = ⊥
IsDue classes terms now x a Stopped = ⊥

-- nobody's limit is over
abbrev pub NobodyOverLimit : List Class → ℕ → Core → Type 0
NobodyOverLimit classes now x =
    (place : ℕ) → place < length x.book.asks → IsWanted classes x (ask_at x.book.asks place) → is_past now (limit_end (ask_at x.book.asks place)) ≡ true → ⊥

-- one whose limit is over; or nobody's is
abbrev pub IsFirstOverLimit : List Class → ℕ → Core → Option ℕ → Type 0
IsFirstOverLimit classes now x (Some place) =
    (place < length x.book.asks) × IsWanted classes x (ask_at x.book.asks place) × (is_past now (limit_end (ask_at x.book.asks place)) ≡ true)
IsFirstOverLimit classes now x None = NobodyOverLimit classes now x

-- nobody's time is over
abbrev pub NobodyIsDue : List Class → Terms → ℕ → Core → Type 0
NobodyIsDue classes terms now x = (place : ℕ) (how : End) → place < length x.book.asks → IsDue classes terms now x (ask_at x.book.asks place) how → ⊥

-- as things stand, nobody's time is over before this moment, and somebody's is then; or if there is none, nobody's ever is
abbrev pub IsNextMoment : List Class → Terms → Core → Option ℕ → Type 0
IsNextMoment classes terms x (Some next) =
    ((moment : ℕ) → moment < next → NobodyIsDue classes terms moment x)
    × ((place : ℕ) × (how : End) × (place < length x.book.asks) × IsDue classes terms next x (ask_at x.book.asks place) how)
IsNextMoment classes terms x None = (moment : ℕ) → NobodyIsDue classes terms moment x

-- one whose time is over, and how it ends; or nobody's is
abbrev pub IsFirstDue : List Class → Terms → ℕ → Core → Option (ℕ × End) → Type 0
IsFirstDue classes terms now x (Some t) = (t.0 < length x.book.asks) × IsDue classes terms now x (ask_at x.book.asks t.0) t.1
IsFirstDue classes terms now x None = NobodyIsDue classes terms now x

-- one whose time is over is over
pub record EndsInTime (classes : List Class) (terms : Terms) (now : ℕ) (old new : Core) : Type 0 where
  pub place : ℕ
  pub how : End
  pub inside : place < length old.book.asks
  pub due : IsDue classes terms now old (ask_at old.book.asks place) how
  pub then : new ≡ ended old place how now

-- ---- all that follows

-- one is let in, or one ends whose time is over
abbrev pub Step : List Class → Terms → ℕ → Core → Core → Type 0
Step classes terms now old new = LetsIn classes now terms.keeps old new ⊎ EndsInTime classes terms now old new

-- so many of these, one after another
abbrev pub Steps : List Class → Terms → ℕ → ℕ → Core → Core → Type 0
Steps classes terms now zero old new = new ≡ old
Steps classes terms now (suc n) old new = (mid : Core) × Steps classes terms now n old mid × Step classes terms now mid new

abbrev pub HasSteps : List Class → Terms → ℕ → Core → Core → Type 0
HasSteps classes terms now old new = (n : ℕ) × Steps classes terms now n old new

-- All follows from a change: those are let in who may be, and those end whose time is over, until nobody waits for nothing and nobody's time is over
pub record Follows (classes : List Class) (terms : Terms) (now : ℕ) (old new : Core) : Type 0 where
  pub many : ℕ
  pub steps : Steps classes terms now many old new
  pub nobody_waits : NobodyWaits classes new
  pub nobody_due : NobodyIsDue classes terms now new
