-- For readers: which asks are in line, and what stays true of their wishes.
use Rattle.std.specs.Prelude.{◌≡◌, ◌≢◌, ℕ, ◌<◌, Bool, true, false, List, length, Option, Some}
use Rattle.std.specs.List.{All}
use Rattle.bay_line.specs.declared.wish.Wish.{Wish}
use Rattle.bay_line.specs.declared.going_in.Seated.{Seated}
use Rattle.bay_line.specs.Wishes.{wish_at}
use Rattle.bay_line.specs.Turns.{IsFreeClass}
use Rattle.bay_line.specs.Lines.{LineView, Below, IsNext, LetsIn, TakesLate, nobody, wishes_of, asking, leaving, gone, kept_in_order}

-- a wish of this ask is in line
abbrev pub InLine : List Wish → ℕ → Type 0
InLine wishes ask = (k : ℕ) × (k < length wishes) × ((wish_at wishes k).ask ≡ ask)

-- the answer says whether one is
abbrev pub SaysInLine : List Wish → ℕ → Bool → Type 0
SaysInLine wishes ask true = InLine wishes ask
SaysInLine wishes ask false = InLine wishes ask → ⊥

-- each other ask is in line just if it was
pub record OthersStay (ask : ℕ) (old new : List Wish) : Type 0 where
  pub still : (other : ℕ) → other ≢ ask → InLine old other → InLine new other
  pub before : (other : ℕ) → other ≢ ask → InLine new other → InLine old other

-- the ask is in line now
pub record Comes (ask : ℕ) (old new : List Wish) : Type 0 where
  pub it : InLine new ask
  pub others : OthersStay ask old new

-- the ask isn't in line any more; and if it was, there are fewer wishes
pub record GoesOut (ask : ℕ) (old new : List Wish) : Type 0 where
  pub it : InLine new ask → ⊥
  pub others : OthersStay ask old new
  pub fewer : InLine old ask → length new < length old

-- each ask in line has a number below this
abbrev pub AreBelow : ℕ → List Wish → Type 0
AreBelow next wishes = (ask : ℕ) → InLine wishes ask → ask < next

-- Whoever asks for a set at least is in line; until it leaves, is let in, or its time is over; and all others stay
pub record StaysInLine : Type 0 where
  pub asks : (x : LineView) (ask : ℕ) (sets : List ℕ) (classes : ℕ) (deadline : Option ℕ) → 0 < length sets
      → Comes ask x.wishes (asking x ask sets classes deadline).wishes
  pub leaves : (x : LineView) (ask : ℕ) → GoesOut ask x.wishes (leaving x ask).wishes
  pub late : (now : ℕ) (old : LineView) (ask : ℕ) (new : LineView) → TakesLate now old (Some ask) new
      → InLine old.wishes ask × GoesOut ask old.wishes new.wishes
  pub next : (most in_use free : ℕ) (wishes : List Wish) (place : ℕ) (s : Seated) → IsNext most in_use free wishes place s → InLine wishes s.ask
  pub goes : (x : LineView) (s : Seated) (free : ℕ) → GoesOut s.ask x.wishes (gone x s free).wishes
  pub let_in : (in_use free : ℕ) (old : LineView) (s : Seated) (new : LineView) → LetsIn in_use free old (Some s) new
      → InLine old.wishes s.ask × GoesOut s.ask old.wishes new.wishes
  pub keeps_order : (x : LineView) (ask : ℕ) → InLine x.wishes ask → InLine (kept_in_order x).wishes ask
  pub kept_order : (x : LineView) (ask : ℕ) → InLine (kept_in_order x).wishes ask → InLine x.wishes ask
  -- so whoever's number is above those of all asks in line may ask
  pub below : (next : ℕ) (wishes : List Wish) → AreBelow next wishes → Below next wishes
  pub are_below : (next : ℕ) (wishes : List Wish) → Below next wishes → AreBelow next wishes

-- ---- what was asked

-- the wish as it was when it asked
abbrev pub as_asked : Wish → Wish
as_asked w = record { ask = w.ask; needs = w.needs; classes = w.classes; deadline = w.deadline; passed = 0 }

-- P is true of each wish in line, as it was when it asked
abbrev pub Within : (Wish → Type 0) → List Wish → Type 0
Within P wishes = All (λ w. P (as_asked w)) wishes

-- what the one that is let in asked for, if it may have a place of these classes
abbrev pub asked_by : Seated → ℕ → Wish
asked_by s classes = record { ask = s.ask; needs = s.needs; classes = classes; deadline = s.deadline; passed = 0 }

-- P is true of what it asked for, and it gets a place of a class that it asked for
pub record IsSeatedWithin (P : Wish → Type 0) (free : ℕ) (s : Seated) : Type 0 where
  pub classes : ℕ
  pub asked : P (asked_by s classes)
  pub class : IsFreeClass free (asked_by s classes) s.class

-- If P is true of each wish when it asks, it stays true of all that are in line, and of whoever is let in
pub record StaysWithin (P : Wish → Type 0) : Type 0 where
  pub nobody : (limit most : ℕ) → Within P (nobody limit most).wishes
  pub asks : (x : LineView) (ask : ℕ) (sets : List ℕ) (classes : ℕ) (deadline : Option ℕ) → Within P x.wishes → All P (wishes_of ask sets classes deadline)
      → Within P (asking x ask sets classes deadline).wishes
  pub leaves : (x : LineView) (ask : ℕ) → Within P x.wishes → Within P (leaving x ask).wishes
  pub keeps_order : (x : LineView) → Within P x.wishes → Within P (kept_in_order x).wishes
  pub late : (now : ℕ) (old : LineView) (ask : Option ℕ) (new : LineView) → TakesLate now old ask new → Within P old.wishes → Within P new.wishes
  pub next : (most in_use free : ℕ) (wishes : List Wish) (place : ℕ) (s : Seated) → IsNext most in_use free wishes place s → Within P wishes
      → IsSeatedWithin P free s
  pub goes : (x : LineView) (s : Seated) (free : ℕ) → Within P x.wishes → Within P (gone x s free).wishes
  pub let_in : (in_use free : ℕ) (old : LineView) (s : Option Seated) (new : LineView) → LetsIn in_use free old s new → Within P old.wishes
      → Within P new.wishes

-- so it is with each test of what was asked: as, whether its instruments are all among some
abbrev pub WhatWasAskedStays : Type 0
WhatWasAskedStays = (test : Wish → Bool) → StaysWithin (λ w. test w ≡ true)
