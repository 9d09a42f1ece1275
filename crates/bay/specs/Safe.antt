-- For readers: lines by which no two hold a common instrument.
use Rattle.std.specs.Prelude.{◌≡◌, ◌≢◌, ℕ, ◌+◌, ◌<◌, ◌≤◌, true, false, List, length, All, AllPairs, Some}
use Rattle.bay_book.specs.Moments.{common}
use Rattle.bay_log.specs.declared.line.Entry.{Entry}
use Rattle.bay_log.specs.declared.line.Line.{Line}
use Rattle.bay_log.specs.Lines.{log_text, base_of}
use Rattle.bay_log.specs.Alive.{alive}
use Rattle.bay_log.specs.Laws.{BeginsWith}
use Rattle.bay.specs.declared.classes.Class.{Class}
use Rattle.bay.specs.Classes.{class_at, is_within}

-- by the lines the ask holds a place of this class
abbrev pub HasPlace : List Line → ℕ → ℕ → Type 0
HasPlace lines k n = (e : Entry) × (alive lines n ≡ Some e) × (e.class ≡ k)

-- these asks, each of them once, hold a place of this class
abbrev pub HavePlaces : List Line → ℕ → List ℕ → Type 0
HavePlaces lines k numbers = AllPairs (λ (a b : ℕ). a < b) numbers × All (HasPlace lines k) numbers

-- By the lines no two hold a common instrument, each holds what its class may use, of each class no more hold than it has places, and each has a token of its
-- own
pub record AreSafe (classes : List Class) (lines : List Line) : Type 0 where
  pub apart : (n m : ℕ) (e f : Entry) → alive lines n ≡ Some e → alive lines m ≡ Some f → n ≢ m → common e.needs f.needs ≡ false
  pub within : (n : ℕ) (e : Entry) → alive lines n ≡ Some e → is_within (class_at classes e.class).uses e.needs ≡ true
  pub few : (k : ℕ) (numbers : List ℕ) → HavePlaces lines k numbers → length numbers ≤ (class_at classes k).places
  pub some : (n : ℕ) (e : Entry) → alive lines n ≡ Some e → 1 ≤ e.token
  pub tokens : (n m : ℕ) (e f : Entry) → alive lines n ≡ Some e → alive lines m ≡ Some f → n ≢ m → e.token ≢ f.token

-- The lines are safe, wherever they are cut, if some of them stay that are durable
pub record StaySafe (classes : List Class) (lines : List Line) (durable : ℕ) : Type 0 where
  pub sure : List Line
  pub begins : BeginsWith lines sure
  pub within : base_of lines + length (log_text sure) ≤ durable
  pub safe : (front : List Line) → BeginsWith lines front → BeginsWith front sure → AreSafe classes front
