-- For readers: what is asked, and why it is refused.
use Rattle.std.specs.Prelude.{ℕ, ◌+◌, ◌<◌, ◌≤◌, ◌==◌, nat_lt, nat_le, Bool, ◌&&◌, ◌||◌, not, if◌then◌else◌, List, length, Option, Some, None}
use Rattle.std.specs.List.{list_any}
use Rattle.bay_line.specs.Lines.{LineView, asking, kept_in_order}
use Rattle.bay_book.specs.declared.ask.Ask.{Ask}
use Rattle.bay_book.specs.Asks.{is_over}
use Rattle.bay_book.specs.Books.{BookView, add}
use Rattle.bay.specs.declared.classes.Class.{Class}
use Rattle.bay.specs.declared.request.Request.{Request}
use Rattle.bay.specs.declared.request.Urgency.{Urgency}
use Rattle.bay.specs.declared.request.Urgency.TheVariants.{Usual, Urgent}
use Rattle.bay.specs.declared.request.NotAsked.{NotAsked}
use Rattle.bay.specs.declared.request.NotAsked.TheVariants.{Stopped, Number, NoClass, Empty, MayNotUse, OwnerTaken, LineFull, NoMemory}
use Rattle.bay.specs.Classes.{class_at, class_bit, has_no_set, leaves}
use Rattle.bay.specs.Cores.{Core}

-- the ask isn't over, and is this owner's (0 is nobody)
abbrev pub is_of : ℕ → Ask → Bool
is_of owner a = not (is_over a.stage) && not (owner == 0) && a.owner == owner

-- an ask of this owner isn't over
abbrev pub has_owner : ℕ → List Ask → Bool
has_owner owner asks = list_any (is_of owner) asks

-- the number isn't larger than all before it, or it is the last of all
abbrev pub is_no_number : BookView → ℕ → Bool
is_no_number book number = nat_lt number book.next || number == 18446744073709551615

-- why the request is refused, before anything is tried
abbrev pub why_not : List Class → BookView → Bool → List ℕ → Request → Option NotAsked
why_not classes book stopped sets r =
    if stopped then Some Stopped else
    if is_no_number book r.number then Some Number else
    if nat_le (length classes) r.class then Some NoClass else
    if has_no_set sets then Some Empty else
    if leaves (class_at classes r.class).uses sets then Some MayNotUse else
    if has_owner r.owner book.asks then Some OwnerTaken else None

-- why it is refused then: the line has no room for so many sets; or it has, and there is no memory
abbrev pub IsWhyNotTaken : LineView → List ℕ → NotAsked → Type 0
IsWhyNotTaken line sets Stopped = ⊥
IsWhyNotTaken line sets Number = ⊥
IsWhyNotTaken line sets NoClass = ⊥
IsWhyNotTaken line sets Empty = ⊥
IsWhyNotTaken line sets MayNotUse = ⊥
IsWhyNotTaken line sets OwnerTaken = ⊥
IsWhyNotTaken line sets LineFull = line.limit < length line.wishes + length sets
IsWhyNotTaken line sets NoMemory = length line.wishes + length sets ≤ line.limit

-- it stands at the end of the line, and is in the book
abbrev pub joined : Core → List ℕ → Request → ℕ → Core
joined x sets r now = record {
  line = asking x.line r.number sets (class_bit r.class) r.deadline;
  book = add x.book r.number r.class r.owner r.deadline r.limit now;
}

-- an urgent one keeps the order of all that stand in line, it with them
abbrev pub ordered : Urgency → LineView → LineView
ordered Usual line = line
ordered Urgent line = kept_in_order line

-- so somebody asks
abbrev pub asked : Core → List ℕ → Request → ℕ → Core
asked x sets r now = record { line = ordered r.urgency (joined x sets r now).line; book = (joined x sets r now).book }
