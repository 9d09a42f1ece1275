-- For readers: by how many somebody is passed while it waits in line.
use Rattle.std.specs.Prelude.{◌≡◌, ◌≢◌, ◌⊎◌, ℕ, zero, suc, ◌+◌, ◌<◌, ◌≤◌, Bool, if◌then◌else◌, true, false, List, ◌∷◌, ◌++◌, length, Option, Some, None}
use Rattle.std.proofs.Common.{inl, inr}
use Rattle.bay_line.specs.declared.wish.Wish.{Wish}
use Rattle.bay_line.specs.declared.going_in.Seated.{Seated}
use Rattle.bay_line.specs.Wishes.{wish_at, common, is_ready, is_kept, passes, WantsNoMore}
use Rattle.bay_line.specs.Turns.{KeepsFrom, HasElder, MayGoIn}
use Rattle.bay_line.specs.Lines.{LineView, IsInOrder, Below, IsNext, IsChosen, GoIn, LetsIn, asking, leaving, kept_in_order}

-- so many wishes stand before this one
pub record Stands (w : Wish) (place : ℕ) (wishes : List Wish) : Type 0 where
  pub before : List Wish
  pub behind : List Wish
  pub is : wishes ≡ before ++ w ∷ behind
  pub place_is : length before ≡ place

-- what happens while an ask waits: another one is let in; another one asks; another one leaves; or the order is kept of all that stand in line
abbrev pub WaitsOnce : ℕ → LineView → LineView → Type 0
WaitsOnce ask old new =
    ((in_use : ℕ) × (free : ℕ) × (s : Seated) × LetsIn in_use free old (Some s) new × (s.ask ≢ ask))
    ⊎ ((other : ℕ) × (sets : List ℕ) × (classes : ℕ) × (deadline : Option ℕ) × Below other old.wishes
    × (new ≡ asking old other sets classes deadline) × (length new.wishes ≤ new.limit))
    ⊎ ((other : ℕ) × (other ≢ ask) × (new ≡ leaving old other))
    ⊎ (new ≡ kept_in_order old)

-- so many of these, one after another
abbrev pub Waits : ℕ → ℕ → LineView → LineView → Type 0
Waits ask zero old new = new ≡ old
Waits ask (suc n) old new = (mid : LineView) × Waits ask n old mid × WaitsOnce ask mid new

abbrev pub one_if : Bool → ℕ
one_if b = if b then 1 else 0

-- one more, if somebody was let in that needs one of the instruments of the wish, while a place was free for it
abbrev pub goes_before : (ask : ℕ) (old new : LineView) → WaitsOnce ask old new → Wish → ℕ
goes_before ask old new (inl (in_use, free, s, lets, other)) w = one_if (passes free s.needs w)
goes_before ask old new (inr same) w = 0

-- all that went before it
abbrev pub go_before : (ask n : ℕ) (old new : LineView) → Waits ask n old new → Wish → ℕ
go_before ask zero old new same w = 0
go_before ask (suc n) old new (mid, before, once) w = go_before ask n old mid before w + goes_before ask mid new once w

-- one more, if the order was kept
abbrev pub keeps_order : (ask : ℕ) (old new : LineView) → WaitsOnce ask old new → ℕ
keeps_order ask old new (inl lets) = 0
keeps_order ask old new (inr (inl asks)) = 0
keeps_order ask old new (inr (inr (inl leaves))) = 0
keeps_order ask old new (inr (inr (inr keeps))) = 1

-- how often that was so
abbrev pub keep_order : (ask n : ℕ) (old new : LineView) → Waits ask n old new → ℕ
keep_order ask zero old new same = 0
keep_order ask (suc n) old new (mid, before, once) = keep_order ask n old mid before + keeps_order ask mid new once

-- what happens in one time and then in another happens in both together; and so do those that go before it, and how often the order was kept
abbrev pub WaitsAddUp : Type 0
WaitsAddUp =
    (ask n m : ℕ) (old mid new : LineView) (first : Waits ask n old mid) (second : Waits ask m mid new)
    → (all : ℕ) × (all ≡ n + m) × (both : Waits ask all old new)
    × ((w : Wish) → go_before ask all old new both w ≡ go_before ask n old mid first w + go_before ask m mid new second w)
    × (keep_order ask all old new both ≡ keep_order ask n old mid first + keep_order ask m mid new second)

-- The wish is in line still. It counts those that went before it, until it was passed by as often as may be, or counts as if; and all that went before it are
-- no more than it counted and stand before it no more. It counts them alone, if the order was never kept meanwhile
pub record HasWaited (w : Wish) (place all orders : ℕ) (new : LineView) : Type 0 where
  pub it : Wish
  pub now : ℕ
  pub stands : Stands it now new.wishes
  pub ask : it.ask ≡ w.ask
  pub needs : it.needs ≡ w.needs
  pub classes : it.classes ≡ w.classes
  pub later : ℕ
  pub counted : w.passed + later ≤ it.passed
  pub exact : orders ≡ 0 → it.passed ≡ w.passed + later
  pub each : it.passed < new.most → (all ≡ later) × (it.passed ≡ w.passed + later)
  pub bound : all + now ≤ place + later

-- As long as a wish waits: each that needs one of its instruments and is let in while a place is free for it is counted, until it was passed by as often as may
-- be. From its asking on at most `most` go before it, and at most so many more as stood in line before it when it asked
abbrev pub IsPassedAtMost : Type 0
IsPassedAtMost =
    (ask n : ℕ) (old new : LineView) (w : Wish) (place : ℕ) → IsInOrder old → w.ask ≡ ask → Stands w place old.wishes → (waits : Waits ask n old new)
    → (h : HasWaited w place (go_before ask n old new waits w) (keep_order ask n old new waits) new) × (w.passed + h.later ≤ old.most)
    × (go_before ask n old new waits w + w.passed ≤ place + old.most) × (new.most ≡ old.most) × IsInOrder new

-- ---- first come, first served

-- both want the same instruments, on places of the same classes
pub record WantTheSame (v w : Wish) : Type 0 where
  pub needs : v.needs ≡ w.needs
  pub classes : v.classes ≡ w.classes

-- among those that want the same, the first come is served first
abbrev pub IsFirstComeFirstServed : Type 0
IsFirstComeFirstServed =
    (in_use free : ℕ) (x : LineView) (place : ℕ) (s : Seated) → IsInOrder x → IsNext x.most in_use free x.wishes place s
    → (i : ℕ) → i < place → WantTheSame (wish_at x.wishes i) (wish_at x.wishes place) → ⊥

-- Whoever is let in: nobody that stood before it wants no more, and may have a place wherever it may, unless the one was passed by as often as may be and the
-- other wasn't
abbrev pub IsServedBefore : Type 0
IsServedBefore =
    (most in_use free : ℕ) (wishes : List Wish) (place : ℕ) (s : Seated) → IsNext most in_use free wishes place s
    → (i : ℕ) → i < place → WantsNoMore (wish_at wishes i) (wish_at wishes place)
    → (is_kept most free (wish_at wishes place) ≡ true → is_kept most free (wish_at wishes i) ≡ true) → ⊥

-- ---- nobody waits for nothing

-- its instruments are free, a place is free for it, and none of them is kept for one that goes before it
pub record WaitsForNothing (most in_use free : ℕ) (wishes : List Wish) (k : ℕ) : Type 0 where
  pub inside : k < length wishes
  pub may : MayGoIn most in_use free wishes k

-- once nobody is let in any more, nobody waits for nothing
abbrev pub NobodyWaitsForNothing : Type 0
NobodyWaitsForNothing =
    (most in_use free : ℕ) (old new : List Wish) → GoIn most in_use free old None new → (k : ℕ) → WaitsForNothing most in_use free new k → ⊥

-- once nobody is let in any more: for each wish in line no place is free; or an instrument of it is in use; or another ask keeps one from it; or another ask
-- stands before it and wants no more
abbrev pub NobodyWaitsForItself : Type 0
NobodyWaitsForItself =
    (most in_use free : ℕ) (wishes : List Wish) → IsChosen most in_use free wishes None → (k : ℕ) → k < length wishes
    → (is_ready free (wish_at wishes k) ≡ false) ⊎ (common (wish_at wishes k).needs in_use ≡ true)
    ⊎ ((i : ℕ) × KeepsFrom most free wishes i k × ((wish_at wishes i).ask ≢ (wish_at wishes k).ask)
    × (common (wish_at wishes k).needs (wish_at wishes i).needs ≡ true))
    ⊎ HasElder most free wishes k
