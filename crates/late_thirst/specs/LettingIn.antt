-- For readers: letting in.
use Rattle.std.specs.Prelude.{◌≡◌, ◌≢◌, ◌⊎◌, ◌↔◌, ℕ, zero, suc, ◌<◌, true, List, length, Option, Some, None}
use Rattle.lab_plan.specs.InstrumentSets.{holds}
use Rattle.late_thirst.specs.declared.asker.Asker.{Asker}
use Rattle.late_thirst.specs.declared.asker.Reason.TheVariants.{Passed, Free}
use Rattle.late_thirst.specs.Outside.{place, IsOutside, needs_of, passed_at, IsDueAt, NobodyIsDue, IsFirst}

-- job k goes in, and those of `ready` that stay and need one of its instruments are passed by once more
pub record GoesIn (most ready k : ℕ) (old new : List (Option Asker)) : Type 0 where
  pub as_many : length new ≡ length old
  pub inside : place new k ≡ None
  pub others : (j : ℕ) → j ≢ k → place new j ≡ passed_at most ready (needs_of (place old k)) j (place old j)

-- So many went in, one after another, each of whom had been passed by often enough when it did
abbrev pub GoInPassed : ℕ → ℕ → ℕ → List (Option Asker) → List (Option Asker) → Type 0
GoInPassed most ready zero old new = new ≡ old
GoInPassed most ready (suc n) old new =
    (mid : List (Option Asker)) × (k : ℕ) × GoInPassed most ready n old mid × (k < length mid) × IsDueAt (Passed most) ready mid k
    × GoesIn most ready k mid new

-- the set has just the jobs that were outside and aren't any more
abbrev pub AreGone : List (Option Asker) → ℕ → List (Option Asker) → Type 0
AreGone old set new = (j : ℕ) → (holds set j ≡ true) ↔ (IsOutside old j × (place new j ≡ None))

-- All who were passed by often enough went in, until nobody was left who was. If somebody becomes so by this, it is one of them; so the order
-- in which they go makes no difference
pub record PassedGoIn (most ready : ℕ) (old : List (Option Asker)) (set : ℕ) (new : List (Option Asker)) : Type 0 where
  pub many : ℕ
  pub one_by_one : GoInPassed most ready many old new
  pub all : NobodyIsDue (Passed most) ready new
  pub gone : AreGone old set new
  pub some : set ≢ 0 → many ≢ 0

-- One letting-in. All who were passed by often enough went in, if there are any. If not, one went in of those that need no instrument in use: the one
-- that asked first. And if there is none either, nobody did
abbrev pub LetsIn : ℕ → ℕ → ℕ → List (Option Asker) → ℕ → List (Option Asker) → Type 0
LetsIn most ready used old set new =
    ((set ≢ 0) × PassedGoIn most ready old set new)
    ⊎ (NobodyIsDue (Passed most) ready old × (k : ℕ) × IsFirst (Free used) ready old (length old) (Some k) × GoesIn most ready k old new
    × AreGone old set new)
    ⊎ (NobodyIsDue (Passed most) ready old × NobodyIsDue (Free used) ready old × (set ≡ 0) × (new ≡ old))
