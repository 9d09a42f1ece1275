-- For readers: what an ask is to be told, and who comes first.
use Rattle.std.specs.Prelude.{◌≡◌, ℕ, ◌<◌, Bool, true, false, List, length, Option, None, Some}
use Rattle.bay_book.specs.declared.ask.Ask.{Ask}
use Rattle.bay_book.specs.declared.ask.End.{End}
use Rattle.bay_book.specs.declared.ask.End.TheVariants.{LetGo, Left, Lapsed, NotWritten, Limit, Grace, TakenAway, Replaced, Stopped}
use Rattle.bay_book.specs.declared.ask.Heard.{Heard}
use Rattle.bay_book.specs.declared.ask.Heard.TheVariants.{Nothing, Holds as HeardHolds, End as HeardEnd}
use Rattle.bay_book.specs.declared.ask.Mark.{Mark}
use Rattle.bay_book.specs.declared.ask.Outcome.{Outcome}
use Rattle.bay_book.specs.declared.ask.Outcome.TheVariants.{Holds as ToldHolds, Over as ToldOver}
use Rattle.bay_book.specs.declared.ask.Stage.{Stage}
use Rattle.bay_book.specs.declared.ask.Stage.TheVariants.{Waits, Holds, Over}
use Rattle.bay_book.specs.Asks.{ask_at, is_written}

-- Whether one may be told that it is over so. Who let go is told so once that outlives a crash; who left hears nothing more
abbrev pub may_say : ℕ → Mark → End → Bool
may_say durable line LetGo = is_written durable line
may_say durable line Left = false
may_say durable line Lapsed = true
may_say durable line NotWritten = true
may_say durable line Limit = true
may_say durable line Grace = true
may_say durable line TakenAway = true
may_say durable line Replaced = true
may_say durable line Stopped = true

abbrev pub if_may : Bool → Outcome → Option Outcome
if_may true what = Some what
if_may false what = None

-- What is to be told now: to one that holds, that it does, once, as soon as its line outlives a crash; to one that is over, that it is, once
abbrev pub to_tell_at : ℕ → Ask → Stage → Heard → Option Outcome
to_tell_at durable a Waits heard = None
to_tell_at durable a Holds Nothing = if_may (is_written durable a.hold_line) ToldHolds
to_tell_at durable a Holds HeardHolds = None
to_tell_at durable a Holds HeardEnd = None
to_tell_at durable a (Over how) Nothing = if_may (may_say durable a.end_line how) (ToldOver how)
to_tell_at durable a (Over how) HeardHolds = if_may (may_say durable a.end_line how) (ToldOver how)
to_tell_at durable a (Over how) HeardEnd = None

abbrev pub to_tell : ℕ → Ask → Option Outcome
to_tell durable a = to_tell_at durable a a.stage a.heard

-- it says that the ask is over
abbrev pub says_over : Outcome → Bool
says_over ToldHolds = false
says_over (ToldOver how) = true

-- nobody is to be told anything of this kind
abbrev pub NobodyIsDue : Bool → List Ask → ℕ → Type 0
NobodyIsDue over asks durable =
    (j : ℕ) → j < length asks → (what : Outcome) → to_tell durable (ask_at asks j) ≡ Some what → says_over what ≡ over → ⊥

-- one is to be told this, which is of this kind; or nobody is to be told anything of it
abbrev pub IsFirstOf : Bool → List Ask → ℕ → Option (ℕ × Outcome) → Type 0
IsFirstOf over asks durable (Some t) = (t.0 < length asks) × (to_tell durable (ask_at asks t.0) ≡ Some t.1) × (says_over t.1 ≡ over)
IsFirstOf over asks durable None = NobodyIsDue over asks durable

-- One is to be told this. That it holds, only if nobody is to be told that it is over: so who had its instruments before it knows by then. Or nobody is to be
-- told anything
abbrev pub IsNextToTell : List Ask → ℕ → Option (ℕ × Outcome) → Type 0
IsNextToTell asks durable (Some t) =
    (t.0 < length asks) × (to_tell durable (ask_at asks t.0) ≡ Some t.1) × (says_over t.1 ≡ false → NobodyIsDue true asks durable)
IsNextToTell asks durable None = NobodyIsDue true asks durable × NobodyIsDue false asks durable
