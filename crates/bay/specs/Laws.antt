-- For readers: what holds of every room.
use Rattle.std.specs.Prelude.{◌≡◌, ◌≢◌, ◌⊎◌, ℕ, ◌≤◌, true, false, List, Some}
use Rattle.std.specs.List.{count_by}
use Rattle.std.specs.Int.{bit_at}
use Rattle.bay_book.specs.declared.ask.Ask.{Ask}
use Rattle.bay_book.specs.declared.ask.End.{End}
use Rattle.bay_book.specs.declared.ask.End.TheVariants.{Lapsed, NotWritten}
use Rattle.bay_book.specs.declared.ask.Stage.TheVariants.{Waits, Holds}
use Rattle.bay_book.specs.Asks.{holding, over, holds_class, is_written}
use Rattle.bay_book.specs.Moments.{is_past, later, after}
use Rattle.bay_book.specs.Books.{BookView}
use Rattle.bay.specs.declared.classes.Class.{Class}
use Rattle.bay.specs.declared.request.Request.{Request}
use Rattle.bay.specs.declared.terms.Terms.{Terms}
use Rattle.bay.specs.Members.{Has}
use Rattle.bay.specs.Classes.{class_at, is_within}
use Rattle.bay.specs.Cores.{Core, HoldsIn}
use Rattle.bay.specs.Following.{IsDue, IsWanted}
use Rattle.bay.specs.Views.{RoomView, core_of, GoesOn}
use Rattle.bay.specs.Rooms.{Asks, Ends, Leaves, Goes, ComesBack, Passes, Stops}

-- ---- who holds

-- No two asks hold one instrument; of each class no more hold than it has places; and each holds what its class may use
pub record IsWellHeld (x : RoomView) : Type 0 where
  pub one_owner : (a b : Ask) (i : ℕ) → HoldsIn x.book a → HoldsIn x.book b → bit_at a.needs i ≡ 1 → bit_at b.needs i ≡ 1 → a ≡ b
  pub places : (k : ℕ) → count_by (holds_class k) x.book.asks ≤ (class_at x.classes k).places
  pub allowed : (a : Ask) → HoldsIn x.book a → is_within (class_at x.classes a.class).uses a.needs ≡ true

-- Of two asks that hold, or held, tokens differ; whoever holds has one; and none is larger than the largest so far
pub record HaveTokens (x : BookView) : Type 0 where
  pub differ : (a b : Ask) → Has x.asks a → Has x.asks b → 1 ≤ a.token → a.token ≡ b.token → a ≡ b
  pub holds : (a : Ask) → HoldsIn x a → 1 ≤ a.token
  pub within : (a : Ask) → Has x.asks a → a.token ≤ x.granted

-- ---- who holds goes on to hold

-- the ask is over, since its time was over, with as much of the journal durable as now
abbrev pub EndedInTime : List Class → Terms → ℕ → BookView → Ask → Type 0
EndedInTime classes terms now book a =
    (how : End) × (at : Core) × (at.book.durable ≡ book.durable) × IsDue classes terms now at a how × Has book.asks (over how now a)

-- it holds, as it did; or its time was over
abbrev pub HoldsOn : List Class → Terms → ℕ → BookView → Ask → Type 0
HoldsOn classes terms now book a = Has book.asks a ⊎ EndedInTime classes terms now book a

-- it waits, as it did; or its deadline was over; or it came to hold, and holds on
abbrev pub WaitsOn : List Class → Terms → ℕ → BookView → Ask → Type 0
WaitsOn classes terms now book a =
    Has book.asks a ⊎ ((is_past now a.deadline ≡ true) × Has book.asks (over Lapsed now a))
    ⊎ ((needs : ℕ) × (token : ℕ) × HoldsOn classes terms now book (holding needs now terms.keeps token a))

-- any call but one of the ask with this number
abbrev pub IsCallOfOthers : ℕ → ℕ → RoomView → RoomView → Type 0
IsCallOfOthers number now old new =
    ((sets : List ℕ) × (r : Request) × Asks sets r now old new)
    ⊎ ((how : End) × (other : ℕ) × (other ≢ number) × Ends how other now old new)
    ⊎ ((other : ℕ) × (other ≢ number) × Leaves other now old new)
    ⊎ ((other : ℕ) × (other ≢ number) × Goes other now old new)
    ⊎ ((other : ℕ) × (owner : ℕ) × (needs : ℕ) × (other ≢ number) × ComesBack other owner now old (Some needs) new)
    ⊎ Passes now old new
    ⊎ Stops now old new

-- whoever holds goes on to hold, whatever others do and whatever time it is, until its own time is over
abbrev pub WhoHoldsHoldsOn : Type 0
WhoHoldsHoldsOn =
    (old new : RoomView) (now : ℕ) (a : Ask) → HoldsIn old.book a → IsCallOfOthers a.number now old new
    → HoldsOn old.classes old.terms new.moment new.book a

-- any call of others but that the room stops
abbrev pub IsCallInService : ℕ → ℕ → RoomView → RoomView → Type 0
IsCallInService number now old new =
    ((sets : List ℕ) × (r : Request) × Asks sets r now old new)
    ⊎ ((how : End) × (other : ℕ) × (other ≢ number) × Ends how other now old new)
    ⊎ ((other : ℕ) × (other ≢ number) × Leaves other now old new)
    ⊎ ((other : ℕ) × (other ≢ number) × Goes other now old new)
    ⊎ ((other : ℕ) × (owner : ℕ) × (needs : ℕ) × (other ≢ number) × ComesBack other owner now old (Some needs) new)
    ⊎ Passes now old new

-- whoever waits goes on to wait, or lapses, or comes to hold
abbrev pub WhoWaitsWaitsOn : Type 0
WhoWaitsWaitsOn =
    (old new : RoomView) (now : ℕ) (a : Ask) → Has old.book.asks a → a.stage ≡ Waits → IsCallInService a.number now old new
    → WaitsOn old.classes old.terms new.moment new.book a

-- ---- in time

-- After each call: nobody waits whose deadline is over; nobody holds, and isn't written, whose deadline and the disk's time are over; nobody holds whose limit
-- is over while somebody waits for what it has; and nobody whose client is gone for too long
pub record IsInTime (classes : List Class) (terms : Terms) (now : ℕ) (x : Core) : Type 0 where
  pub waits : (a : Ask) → Has x.book.asks a → a.stage ≡ Waits → is_past now a.deadline ≡ true → ⊥
  pub unwritten :
      (a : Ask) → Has x.book.asks a → a.stage ≡ Holds → is_written x.book.durable a.hold_line ≡ false
      → is_past now (later a.deadline (after (Some a.since) terms.disk)) ≡ true → ⊥
  pub limits : (a : Ask) → Has x.book.asks a → a.stage ≡ Holds → IsWanted classes x a → is_past now (after (Some a.since) a.limit) ≡ true → ⊥
  pub gone : (a : Ask) → Has x.book.asks a → a.stage ≡ Holds → is_past now (after a.gone terms.grace) ≡ true → ⊥

-- the disk was in time for one that is written, or has no line to be written: it isn't over for that, however late it is told
abbrev pub WrittenIsInTime : Type 0
WrittenIsInTime =
    (classes : List Class) (terms : Terms) (now : ℕ) (x : Core) (a : Ask) → is_written x.book.durable a.hold_line ≡ true
    → IsDue classes terms now x a NotWritten → ⊥

abbrev pub AnswersInTime : Type 0
AnswersInTime = (old new : RoomView) (now : ℕ) (mid : Core) → GoesOn now mid old new → IsInTime old.classes old.terms new.moment (core_of new)
