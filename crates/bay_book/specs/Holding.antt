-- For readers: what is so of those that hold, after any call; and of the next moment at which something is due.
use Rattle.std.specs.Prelude.{◌≡◌, ℕ, ◌+◌, ◌<◌, ◌≤◌, ◌==◌, true, false, if◌then◌else◌, List, length, AllPairs, Option, None, Some}
use Rattle.std.specs.List.{count_by}
use Rattle.bay_book.specs.declared.ask.Ask.{Ask}
use Rattle.bay_book.specs.Asks.{ask_at, is_holding, holds_class}
use Rattle.bay_book.specs.Moments.{common, is_late, is_gone_too_long, is_over_limit, due_at, limit_due_at}
use Rattle.bay_book.specs.Finding.{IsFirst, IsLeast}
use Rattle.bay_book.specs.Books.{BookView}
use Rattle.bay_book.specs.Runs.{Call, IsAllowed, after_call}
use Rattle.bay_book.specs.Runs.Call.{Add, Hold, Finish, SetGone, IsBack, Give, Turn, Reach, Tell, Purge}

-- if both hold, they have no instrument in common
abbrev pub IsApart : Ask → Ask → Type 0
IsApart a b = is_holding a.stage ≡ true → is_holding b.stage ≡ true → common a.needs b.needs ≡ false

-- so it is with any two
abbrev pub AreApart : List Ask → Type 0
AreApart asks = AllPairs IsApart asks

-- if the call lets one hold, nobody has any of the instruments that it gets
abbrev pub IsFree : BookView → Call → Type 0
IsFree x (Add number class owner deadline limit now) = Unit {0}
IsFree x (Hold place needs now keeps) = (j : ℕ) → j < length x.asks → is_holding (ask_at x.asks j).stage ≡ true → common needs (ask_at x.asks j).needs ≡ false
IsFree x (Finish place how now) = Unit {0}
IsFree x (SetGone place moment) = Unit {0}
IsFree x (IsBack place) = Unit {0}
IsFree x (Give at) = Unit {0}
IsFree x (Turn at) = Unit {0}
IsFree x (Reach position) = Unit {0}
IsFree x (Tell place what) = Unit {0}
IsFree x Purge = Unit {0}

-- as long as each gets only what nobody has, no two that hold have an instrument in common
abbrev pub StaysApart : Type 0
StaysApart = (x : BookView) (call : Call) → IsAllowed x call → IsFree x call → AreApart x.asks → AreApart (after_call x call).asks

-- how many places of a class the call takes
abbrev pub places_taken : ℕ → BookView → Call → ℕ
places_taken class x (Add number k owner deadline limit now) = 0
places_taken class x (Hold place needs now keeps) = if (ask_at x.asks place).class == class then 1 else 0
places_taken class x (Finish place how now) = 0
places_taken class x (SetGone place moment) = 0
places_taken class x (IsBack place) = 0
places_taken class x (Give at) = 0
places_taken class x (Turn at) = 0
places_taken class x (Reach position) = 0
places_taken class x (Tell place what) = 0
places_taken class x Purge = 0

-- no more of a class hold than before, but for the one that the call lets hold
abbrev pub TakesAtMost : Type 0
TakesAtMost =
    (x : BookView) (call : Call) → IsAllowed x call → (class : ℕ)
    → count_by (holds_class class) (after_call x call).asks ≤ count_by (holds_class class) x.asks + places_taken class x call

-- once nobody is late, and no grace is over, the next moment at which that is so is to come
abbrev pub DueIsToCome : Type 0
DueIsToCome =
    (asks : List Ask) (now durable m : ℕ) (grace disk : Option ℕ) → IsFirst (is_late now durable disk) asks None
    → IsFirst (is_gone_too_long now grace) asks None → IsLeast (due_at grace durable disk) asks (Some m) → now < m

-- once no limit is over, the next moment at which one is, is to come
abbrev pub LimitIsToCome : Type 0
LimitIsToCome =
    (asks : List Ask) (now m wanted full : ℕ) → IsFirst (is_over_limit now wanted full) asks None → IsLeast (limit_due_at wanted full) asks (Some m)
    → now < m
