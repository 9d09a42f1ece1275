-- For readers: those that held by the log hold again.
use Rattle.std.specs.Prelude.{◌≡◌, ℕ, ◌+◌, ◌<◌, ◌≤◌, max, min, true, false, List, [], ◌∷◌, All, slice_index_or, length, Option, Some, None}
use Rattle.bay_line.specs.Lines.{LineView, nobody}
use Rattle.bay_book.specs.declared.ask.Ask.{Ask}
use Rattle.bay_book.specs.declared.ask.Heard.TheVariants.{Holds as HeardHolds}
use Rattle.bay_book.specs.declared.ask.Mark.TheVariants.{At}
use Rattle.bay_book.specs.declared.ask.Stage.TheVariants.{Holds}
use Rattle.bay_book.specs.Asks.{is_holding}
use Rattle.bay_book.specs.Moments.{common}
use Rattle.bay_book.specs.Books.{BookView, restore}
use Rattle.bay_log.specs.declared.alive.Holder.{Holder}
use Rattle.bay_log.specs.declared.line.Entry.{Entry}
use Rattle.bay_log.specs.declared.line.Line.{Line}
use Rattle.bay_log.specs.declared.line.Line.TheVariants.{Head, Hold as HoldLine, Back, End as EndLine, Note}
use Rattle.bay_log.specs.Alive.{alive}
use Rattle.bay.specs.declared.classes.Class.{Class}
use Rattle.bay.specs.Members.{Has}
use Rattle.bay.specs.Classes.{class_at, is_within}
use Rattle.bay.specs.Cores.{core, IsTied, IsFreeClass}
use Rattle.bay.specs.Pages.{entry_of}
use Rattle.bay.specs.Views.{RoomView}

-- (none)
abbrev pub no_holder : Holder
no_holder = record { ask = 0; entry = record { class = 0; needs = 0; owner = 0; since = 0; limit = None; asked = 0; token = 0 } }

abbrev pub holder_at : List Holder → ℕ → Holder
holder_at holders k = slice_index_or holders k no_holder

-- nobody holds one of these instruments
abbrev pub IsUnused : List Ask → ℕ → Type 0
IsUnused asks needs = (b : Ask) → Has asks b → is_holding b.stage ≡ true → common needs b.needs ≡ false

-- This one may hold, too: nobody holds one of its instruments, its class may use them, and has a place left. (The book looks at its number and its token)
pub record MayHold (classes : List Class) (asks : List Ask) (h : Holder) : Type 0 where
  pub within : is_within (class_at classes h.entry.class).uses h.entry.needs ≡ true
  pub unused : IsUnused asks h.entry.needs
  pub place : IsFreeClass classes asks h.entry.class

-- of the first n, the one with the least number that isn't below this
abbrev pub IsNextTo : ℕ → List Holder → ℕ → Option ℕ → Type 0
IsNextTo next holders n (Some place) =
    (place < length holders) × (next ≤ (holder_at holders place).ask)
    × ((k : ℕ) → k < n → next ≤ (holder_at holders k).ask → (holder_at holders place).ask ≤ (holder_at holders k).ask)
IsNextTo next holders n None = (k : ℕ) → k < n → (holder_at holders k).ask < next

abbrev pub IsNextHolder : ℕ → List Holder → Option ℕ → Type 0
IsNextHolder next holders result = IsNextTo next holders (length holders) result

-- the book is tied to a line in which nobody waits
abbrev pub AreAlone : List Class → BookView → Type 0
AreAlone classes book = (line : LineView) → line.wishes ≡ [] → IsTied classes (core line book)

-- it holds again
abbrev pub Restores : Holder → ℕ → BookView → BookView → Type 0
Restores h moment old new =
    (h.ask < 18446744073709551615)
    × (new ≡ restore old h.ask h.entry.class h.entry.owner h.entry.limit h.entry.needs h.entry.asked h.entry.since moment h.entry.token)

-- the ask holds what it holds by these lines, and was told so; they outlive a crash; and its client is gone since this moment
pub record IsRestored (lines : List Line) (moment position : ℕ) (a : Ask) : Type 0 where
  pub holds : a.stage ≡ Holds
  pub told : a.heard ≡ HeardHolds
  pub gone : a.gone ≡ Some moment
  pub line : a.hold_line ≡ At position
  pub by_log : alive lines a.number ≡ Some (entry_of a)

abbrev pub AreRestored : List Line → ℕ → ℕ → BookView → Type 0
AreRestored lines moment position book = (book.durable ≡ position) × ((a : Ask) → Has book.asks a → IsRestored lines moment position a)

-- each has a number below this
abbrev pub AreLow : ℕ → List Ask → Type 0
AreLow next asks = (a : Ask) → Has asks a → a.number < next

-- this one is in the book, with what it holds
abbrev pub IsThere : BookView → ℕ → Entry → Type 0
IsThere book n e = (a : Ask) × Has book.asks a × (a.number ≡ n) × (entry_of a ≡ e)

-- so is each that holds by these lines
abbrev pub AreDone : List Line → BookView → Type 0
AreDone lines book = (n : ℕ) (e : Entry) → alive lines n ≡ Some e → IsThere book n e

-- ---- all of it

-- the number behind the one that a line has, if there is one; a head says which numbers were given before
abbrev pub after_line : Line → ℕ
after_line (Head bay base next granted) = next
after_line (HoldLine ask entry) = min (ask + 1) 18446744073709551615
after_line (Back from to) = min (max from to + 1) 18446744073709551615
after_line (EndLine ask how at) = min (ask + 1) 18446744073709551615
after_line (Note ask text) = min (ask + 1) 18446744073709551615

-- the token that a line says: of a hold its own; of a head the largest that was given before
abbrev pub token_of : Line → ℕ
token_of (Head bay base next granted) = granted
token_of (HoldLine ask entry) = entry.token
token_of (Back from to) = 0
token_of (EndLine ask how at) = 0
token_of (Note ask text) = 0

-- the head of these lines is this bay's
abbrev pub IsOf : List ℕ → List Line → Type 0
IsOf head [] = ⊥
IsOf head (Head bay base next granted ∷ lines) = bay ≡ head
IsOf head (HoldLine ask entry ∷ lines) = ⊥
IsOf head (Back from to ∷ lines) = ⊥
IsOf head (EndLine ask how at ∷ lines) = ⊥
IsOf head (Note ask text ∷ lines) = ⊥

-- Just those hold that held by these lines, each what it held. They were told so, and the lines outlive a crash. Their clients are gone since this moment.
-- Nobody waits. The next number is behind all that the lines have; and the largest token so far is at least each that they have
pub record IsBack (lines : List Line) (limit most moment position : ℕ) (x : RoomView) : Type 0 where
  pub nobody_waits : x.line ≡ nobody limit most
  pub each : (a : Ask) → Has x.book.asks a → IsRestored lines moment position a
  pub all : AreDone lines x.book
  pub next : All (λ line. after_line line ≤ x.book.next) lines
  pub tokens : All (λ line. token_of line ≤ x.book.granted) lines
  pub moment_is : x.moment ≡ moment
  pub durable : x.book.durable ≡ position
