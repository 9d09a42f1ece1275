-- For readers: what a book keeps count of: how many of each class hold, and what all have that hold.
use Rattle.std.specs.Prelude.{◌≡◌, ℕ, ◌<◌, Bool, true, if◌then◌else◌, List, length, slice_index_or}
use Rattle.std.specs.List.{count_by, sum_by}
use Rattle.bay_book.specs.declared.ask.Ask.{Ask}
use Rattle.bay_book.specs.Asks.{is_holding, holds_class}
use Rattle.bay_book.specs.Holding.{AreApart}

-- what it has, if it holds
abbrev pub own : Ask → ℕ
own a = if is_holding a.stage then a.needs else 0

-- 1, if it holds, and its place is of this class
abbrev pub one_of : ℕ → Ask → ℕ
one_of class a = if holds_class class a then 1 else 0

-- how many of each of the first 32 classes hold
abbrev pub AreTaken : List Ask → List ℕ → Type 0
AreTaken asks taken = (k : ℕ) → k < 32 → slice_index_or taken k 0 ≡ count_by (holds_class k) asks

-- How many of each of the first 32 classes hold. As long as it is sure, no two that hold have an instrument in common, and these are all in use (so that sets
-- add up as numbers do)
pub record AreCounted (asks : List Ask) (taken : List ℕ) (used : ℕ) (sure : Bool) : Type 0 where
  pub long : length taken ≡ 32
  pub each : AreTaken asks taken
  pub apart : sure ≡ true → AreApart asks
  pub all : sure ≡ true → used ≡ sum_by own asks
