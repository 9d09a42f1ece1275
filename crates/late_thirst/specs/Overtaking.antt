-- For readers: by how many a job is passed while it waits outside.
use Rattle.std.specs.Prelude.{◌≡◌, ◌⊎◌, ℕ, zero, suc, ◌+◌, ◌≤◌, if◌then◌else◌, List, Option, Some}
use Rattle.std.proofs.Common.{inl, inr}
use Rattle.lab_plan.specs.InstrumentSets.{holds}
use Rattle.late_thirst.specs.declared.asker.Asker.{Asker}
use Rattle.late_thirst.specs.Outside.{LineView, place, needs_of, apart, IsOutside}
use Rattle.late_thirst.specs.LettingIn.{GoInPassed, LetsIn}
use Rattle.late_thirst.specs.Lines.{LineLetsIn}

-- 1 if an instrument is in both sets
abbrev pub one_if_common : ℕ → ℕ → ℕ
one_if_common a b = if apart a b then 0 else 1

-- how many of those that went in, one after another, need one of these instruments
abbrev pub passes_in : (most ready n : ℕ) (old new : List (Option Asker)) → GoInPassed most ready n old new → ℕ → ℕ
passes_in most ready zero old new is needs = 0
passes_in most ready (suc n) old new (mid, k, earlier, inside, due, goes) needs =
    passes_in most ready n old mid earlier needs + one_if_common needs (needs_of (place mid k))

-- and of those of one letting-in
abbrev pub passes : (most ready used : ℕ) (old : List (Option Asker)) (set : ℕ) (new : List (Option Asker)) → LetsIn most ready used old set new → ℕ → ℕ
passes most ready used old set new (inl (some, all)) needs = passes_in most ready all.many old new all.one_by_one needs
passes most ready used old set new (inr (inl (none, k, first, goes, gone))) needs = one_if_common needs (needs_of (place old k))
passes most ready used old set new (inr (inr nobody)) needs = 0

-- ---- from asking on

-- A letting-in; or whatever else leaves the job's place as it is, and the number
abbrev pub WaitsOnce : ℕ → LineView → LineView → Type 0
WaitsOnce j old new =
    ((ready : ℕ) × (used : ℕ) × (set : ℕ) × LineLetsIn ready used old set new)
    ⊎ ((place new.places j ≡ place old.places j) × (new.most ≡ old.most))

-- so many of these, one after another, and the job is outside all the time
abbrev pub Waits : ℕ → ℕ → LineView → LineView → Type 0
Waits j zero old new = new ≡ old
Waits j (suc n) old new = (mid : LineView) × Waits j n old mid × WaitsOnce j mid new × IsOutside new.places j

-- how many sessions that need one of these instruments a letting-in lets in, if job j might have been let in
abbrev pub passes_once : (j : ℕ) (old new : LineView) → WaitsOnce j old new → ℕ → ℕ
passes_once j old new (inl (ready, used, set, lets)) needs =
    if holds ready j then passes old.most ready used old.places set new.places lets.places needs else 0
passes_once j old new (inr same) needs = 0

-- and all of them
abbrev pub passes_meanwhile : (j n : ℕ) (old new : LineView) → Waits j n old new → ℕ → ℕ
passes_meanwhile j zero old new same needs = 0
passes_meanwhile j (suc n) old new (mid, before, once, outside) needs = passes_meanwhile j n old mid before needs + passes_once j mid new once needs

-- Whoever waits outside has been passed just as often as it counts. So from its asking on, until it is let in, at most `most` sessions are let in that need
-- one of its instruments
abbrev pub IsPassedAtMost : Type 0
IsPassedAtMost =
    (j n : ℕ) (old new : LineView) (a : Asker) → place old.places j ≡ Some a → (waits : Waits j n old new)
    → (b : Asker) × (place new.places j ≡ Some b) × (b.needs ≡ a.needs) × (b.passed ≡ a.passed + passes_meanwhile j n old new waits a.needs)
    × (new.most ≡ old.most) × (a.passed ≤ old.most → b.passed ≤ old.most)
