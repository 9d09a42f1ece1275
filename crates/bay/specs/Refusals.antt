-- For readers: why no bay comes back.
use Rattle.std.specs.Prelude.{◌≡◌, ◌≢◌, ◌⊎◌, ℕ, ◌+◌, ◌<◌, ◌≤◌, ◌^◌, true, false, List, length, Some}
use Rattle.bay_book.specs.declared.ask.Ask.{Ask}
use Rattle.bay_book.specs.Asks.{is_holding}
use Rattle.bay_book.specs.Moments.{common}
use Rattle.bay_log.specs.declared.alive.Holder.{Holder}
use Rattle.bay_log.specs.declared.line.Entry.{Entry}
use Rattle.bay_log.specs.declared.line.Line as line
use Rattle.bay_log.specs.declared.reading.Found.{Found}
use Rattle.bay_log.specs.Lines.{base_of}
use Rattle.bay_log.specs.Reads.{IsRead, IsFault}
use Rattle.bay_log.specs.Alive.{alive}
use Rattle.bay.specs.declared.classes.Class.{Class}
use Rattle.bay.specs.declared.restoring.NotBack.{NotBack}
use Rattle.bay.specs.declared.restoring.NotBack.TheVariants.{NoMemory, NoPlace, Line, Another, Classes, MayNot}
use Rattle.bay.specs.Members.{Has}
use Rattle.bay.specs.Classes.{class_at, is_within}
use Rattle.bay.specs.Cores.{IsFreeClass}
use Rattle.bay.specs.Restoring.{IsOf}
use Rattle.bay.specs.Safe.{HavePlaces}

-- ---- as one after another holds again

-- somebody holds one of these instruments
abbrev pub IsUsed : List Ask → ℕ → Type 0
IsUsed asks needs = (b : Ask) × Has asks b × (is_holding b.stage ≡ true) × (common needs b.needs ≡ true)

-- it is no token, or somebody has it
abbrev pub IsOldToken : List Ask → ℕ → Type 0
IsOldToken asks token = (token ≡ 0) ⊎ ((b : Ask) × Has asks b × (b.token ≡ token))

-- there is no such class; or it may not use one of the instruments; or somebody holds one; or the class has no place left; or it has no token, or another's
abbrev pub MayNotHold : List Class → List Ask → Holder → Type 0
MayNotHold classes asks h =
    (length classes ≤ h.entry.class) ⊎ (is_within (class_at classes h.entry.class).uses h.entry.needs ≡ false) ⊎ IsUsed asks h.entry.needs
    ⊎ (IsFreeClass classes asks h.entry.class → ⊥) ⊎ IsOldToken asks h.entry.token

-- there is no memory; or this one has the last of all numbers, or may not hold
abbrev pub IsWhyNotOne : List Class → List Ask → Holder → NotBack → Type 0
IsWhyNotOne classes asks h NoMemory = Unit {0}
IsWhyNotOne classes asks h NoPlace = ⊥
IsWhyNotOne classes asks h (Line n) = ⊥
IsWhyNotOne classes asks h Another = ⊥
IsWhyNotOne classes asks h Classes = ⊥
IsWhyNotOne classes asks h (MayNot n) = (n ≡ h.ask) × ((h.ask ≡ 18446744073709551615) ⊎ MayNotHold classes asks h)

-- ---- by the lines

-- another holds one of its instruments by these lines
abbrev pub AnotherHolds : List line.Line → ℕ → Entry → Type 0
AnotherHolds lines n e = (m : ℕ) × (f : Entry) × (alive lines m ≡ Some f) × (n ≢ m) × (common e.needs f.needs ≡ true)

-- by these lines it has no token, or another that holds has it
abbrev pub HasNoTokenOfItsOwn : List line.Line → ℕ → Entry → Type 0
HasNoTokenOfItsOwn lines n e = (e.token ≡ 0) ⊎ ((m : ℕ) × (f : Entry) × (alive lines m ≡ Some f) × (n ≢ m) × (e.token ≡ f.token))

-- by these lines more hold of its class than it has places, and this is one of them
abbrev pub TooManyHold : List Class → List line.Line → ℕ → Entry → Type 0
TooManyHold classes lines n e =
    (numbers : List ℕ) × HavePlaces lines e.class numbers × Has numbers n × ((class_at classes e.class).places < length numbers)

-- by these lines the ask holds; and it has the last of all numbers, which is never given; or there is no such class; or the class may not use one of its
-- instruments; or another holds one; or too many of its class hold; or it has no token of its own
abbrev pub HoldsAndMayNot : List Class → List line.Line → ℕ → Type 0
HoldsAndMayNot classes lines n =
    (e : Entry) × (alive lines n ≡ Some e)
    × ((n ≡ 18446744073709551615) ⊎ (length classes ≤ e.class) ⊎ (is_within (class_at classes e.class).uses e.needs ≡ false) ⊎ AnotherHolds lines n e
    ⊎ TooManyHold classes lines n e ⊎ HasNoTokenOfItsOwn lines n e)

-- there are more than 32 classes; or there is no memory; or this one holds by the lines, and may not
abbrev pub IsWhyNotRestored : List Class → List line.Line → NotBack → Type 0
IsWhyNotRestored classes lines NoMemory = Unit {0}
IsWhyNotRestored classes lines NoPlace = ⊥
IsWhyNotRestored classes lines (Line n) = ⊥
IsWhyNotRestored classes lines Another = ⊥
IsWhyNotRestored classes lines Classes = 32 < length classes
IsWhyNotRestored classes lines (MayNot n) = HoldsAndMayNot classes lines n

-- ---- of the bytes of a file

-- line n of the bytes isn't one; or there is no memory
abbrev pub IsWhyNoLines : List ℕ → NotBack → Type 0
IsWhyNoLines bytes NoMemory = Unit {0}
IsWhyNoLines bytes NoPlace = ⊥
IsWhyNoLines bytes (Line n) = IsFault bytes n
IsWhyNoLines bytes Another = ⊥
IsWhyNoLines bytes Classes = ⊥
IsWhyNoLines bytes (MayNot n) = ⊥

-- Line n isn't one. Or the lines are read, and the first isn't this bay's head, or there is none; or it is, and there is no position behind them. Or there are
-- more than 32 classes; or one holds by the lines, and may not; or there is no memory
abbrev pub IsWhyNotBack : List Class → List ℕ → List ℕ → NotBack → Type 0
IsWhyNotBack classes head bytes NoMemory = Unit {0}
IsWhyNotBack classes head bytes NoPlace =
    (found : Found) × IsRead bytes found × IsOf head found.lines.items × (2 ^ 64 ≤ base_of found.lines.items + found.used)
IsWhyNotBack classes head bytes (Line n) = IsFault bytes n
IsWhyNotBack classes head bytes Another = (found : Found) × IsRead bytes found × (IsOf head found.lines.items → ⊥)
IsWhyNotBack classes head bytes Classes = 32 < length classes
IsWhyNotBack classes head bytes (MayNot n) =
    (found : Found) × IsRead bytes found × IsOf head found.lines.items × HoldsAndMayNot classes found.lines.items n
