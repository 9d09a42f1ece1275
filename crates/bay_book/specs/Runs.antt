-- For readers: any calls of a book, one after another, and what asks are told meanwhile.
use Rattle.std.specs.Prelude.{◌≡◌, ℕ, ◌<◌, ◌≤◌, ◌==◌, Bool, true, false, List, [], ◌∷◌, ◌++◌, length, All, Option, Some}
use Rattle.std.specs.List.{count_by}
use Rattle.bay_book.specs.declared.ask.Ask.{Ask}
use Rattle.bay_book.specs.declared.ask.End.{End}
use Rattle.bay_book.specs.declared.ask.Heard.TheVariants.{Holds as HeardHolds}
use Rattle.bay_book.specs.declared.ask.Outcome.{Outcome}
use Rattle.bay_book.specs.declared.ask.Outcome.TheVariants.{Holds as ToldHolds, Over as ToldOver}
use Rattle.bay_book.specs.declared.ask.Stage.TheVariants.{Waits, Holds}
use Rattle.bay_book.specs.Asks.{ask_at, is_over, is_written}
use Rattle.bay_book.specs.Telling.{IsNextToTell}
use Rattle.bay_book.specs.Books.{BookView, IsSound, add, hold, end, set_gone, is_back, give, turn, reach, heard, purge}

-- a call that changes the book; and at `Tell` the one that is next is told what it is to be told
pub data Call : Type 0 where
  Add : (number class owner : ℕ) → (deadline limit : Option ℕ) → (now : ℕ) → Call
  Hold : (place needs now : ℕ) → (keeps : Bool) → Call
  Finish : (place : ℕ) → (how : End) → (now : ℕ) → Call
  SetGone : (place moment : ℕ) → Call
  IsBack : (place : ℕ) → Call
  Give : (at : ℕ) → Call
  Turn : (at : ℕ) → Call
  Reach : (position : ℕ) → Call
  Tell : (place : ℕ) → (what : Outcome) → Call
  Purge : Call

-- what the call requires
abbrev pub IsAllowed : BookView → Call → Type 0
IsAllowed x (Add number class owner deadline limit now) = x.next ≤ number
IsAllowed x (Hold place needs now keeps) = (place < length x.asks) × ((ask_at x.asks place).stage ≡ Waits)
IsAllowed x (Finish place how now) = (place < length x.asks) × (is_over (ask_at x.asks place).stage ≡ false)
IsAllowed x (SetGone place moment) = place < length x.asks
IsAllowed x (IsBack place) = place < length x.asks
IsAllowed x (Give at) = Unit {0}
IsAllowed x (Turn at) = Unit {0}
IsAllowed x (Reach position) = Unit {0}
IsAllowed x (Tell place what) = IsNextToTell x.asks x.durable (Some (place, what))
IsAllowed x Purge = Unit {0}

-- the book after it
abbrev pub after_call : BookView → Call → BookView
after_call x (Add number class owner deadline limit now) = add x number class owner deadline limit now
after_call x (Hold place needs now keeps) = hold x place needs now keeps
after_call x (Finish place how now) = end x place how now
after_call x (SetGone place moment) = set_gone x place moment
after_call x (IsBack place) = is_back x place
after_call x (Give at) = give x at
after_call x (Turn at) = turn x at
after_call x (Reach position) = reach x position
after_call x (Tell place what) = heard x place what
after_call x Purge = purge x

-- who was told what by it
abbrev pub told_by : BookView → Call → List (ℕ × Outcome)
told_by x (Add number class owner deadline limit now) = []
told_by x (Hold place needs now keeps) = []
told_by x (Finish place how now) = []
told_by x (SetGone place moment) = []
told_by x (IsBack place) = []
told_by x (Give at) = []
told_by x (Turn at) = []
told_by x (Reach position) = []
told_by x (Tell place what) = ((ask_at x.asks place).number, what) ∷ []
told_by x Purge = []

-- each call is one that may be made, one after another
abbrev pub AreAllowed : BookView → List Call → Type 0
AreAllowed x [] = Unit {0}
AreAllowed x (call ∷ calls) = IsAllowed x call × AreAllowed (after_call x call) calls

-- the book after all of them
abbrev pub after_calls : BookView → List Call → BookView
after_calls x [] = x
after_calls x (call ∷ calls) = after_calls (after_call x call) calls

-- all that was told
abbrev pub told : BookView → List Call → List (ℕ × Outcome)
told x [] = []
told x (call ∷ calls) = told_by x call ++ told (after_call x call) calls

-- the ask was told that it holds
abbrev pub is_told_to_hold : ℕ → ℕ × Outcome → Bool
is_told_to_hold number (n, ToldHolds) = n == number
is_told_to_hold number (n, ToldOver how) = false

-- the ask was told that it is over
abbrev pub is_told_over : ℕ → ℕ × Outcome → Bool
is_told_over number (n, ToldHolds) = false
is_told_over number (n, ToldOver how) = n == number

-- the ask was told something
abbrev pub is_told : ℕ → ℕ × Outcome → Bool
is_told number (n, what) = n == number

-- whatever calls there are, each ask is told at most once that it holds, and at most once that it is over
abbrev pub TellsOnce : Type 0
TellsOnce =
    (x : BookView) (calls : List Call) → IsSound x → AreAllowed x calls → (number : ℕ)
    → (count_by (is_told_to_hold number) (told x calls) ≤ 1) × (count_by (is_told_over number) (told x calls) ≤ 1)

-- whoever was told that it is over is told nothing more, whatever calls there are
abbrev pub OverIsLast : Type 0
OverIsLast =
    (x : BookView) (place : ℕ) (how : End) (calls : List Call) → IsSound x → IsAllowed x (Tell place (ToldOver how))
    → AreAllowed (after_call x (Tell place (ToldOver how))) calls
    → count_by (is_told (ask_at x.asks place).number) (told (after_call x (Tell place (ToldOver how))) calls) ≡ 0

-- it holds, and was told so: its line outlives a crash, or none is owed
abbrev pub IsToldDurable : ℕ → Ask → Type 0
IsToldDurable durable a = a.stage ≡ Holds → a.heard ≡ HeardHolds → is_written durable a.hold_line ≡ true

-- so it is with each ask, whatever calls there are; a book is sound at first, and after each call
abbrev pub StaysToldDurable : Type 0
StaysToldDurable =
    (x : BookView) (calls : List Call) → IsSound x → AreAllowed x calls
    → IsSound (after_calls x calls) × All (IsToldDurable (after_calls x calls).durable) (after_calls x calls).asks
