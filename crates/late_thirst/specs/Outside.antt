-- For readers: who waits outside, and who is due to be let in.
use Rattle.std.specs.Prelude.{◌≡◌, ◌⊎◌, ◌↔◌, ℕ, ◌+◌, ◌<◌, ◌≤◌, true, Bool, ◌||◌, ◌==◌, nat_le, if◌then◌else◌}
use Rattle.std.specs.Prelude.{List, length, replicate, Option, Some, None, slice_index_or}
use Rattle.std.specs.Int.Bits.{bit_and}
use Rattle.lab_plan.specs.InstrumentSets.{holds}
use Rattle.late_thirst.specs.declared.asker.Asker.{Asker}
use Rattle.late_thirst.specs.declared.asker.Reason.{Reason}
use Rattle.late_thirst.specs.declared.asker.Reason.TheVariants.{Passed, Free}

-- for each job by its number its place outside, if it has one; how many calls there were in which jobs may ask; and after how many sessions that pass
-- it by a job is let in
pub record LineView : Type 0 where
  pub places : List (Option Asker)
  pub calls : ℕ
  pub most : ℕ

abbrev pub place : List (Option Asker) → ℕ → Option Asker
place places j = slice_index_or places j None

-- nobody is outside, and nobody ever has to be
abbrev pub nobody : ℕ → LineView
nobody jobs = record { places = replicate jobs None; calls = 0; most = 0 }

abbrev pub IsOutside : List (Option Asker) → ℕ → Type 0
IsOutside places j = (a : Asker) × (place places j ≡ Some a)

-- the set has just these jobs
abbrev pub AreOutside : List (Option Asker) → ℕ → Type 0
AreOutside places set = (j : ℕ) → (holds set j ≡ true) ↔ IsOutside places j

abbrev pub since_of : Option Asker → ℕ
since_of (Some a) = a.since
since_of None = 0

abbrev pub needs_of : Option Asker → ℕ
needs_of (Some a) = a.needs
needs_of None = 0

-- no instrument is in both sets
abbrev pub apart : ℕ → ℕ → Bool
apart a b = bit_and a b == 0

-- ---- who is due

-- it was passed by often enough; or it needs none of the instruments in use
abbrev pub IsDue : Reason → Option Asker → Type 0
IsDue (Passed most) (Some a) = most ≤ a.passed
IsDue (Free used) (Some a) = bit_and a.needs used ≡ 0
IsDue (Passed most) None = ⊥
IsDue (Free used) None = ⊥

-- and it may be let in now, as one of `ready`
abbrev pub IsDueAt : Reason → ℕ → List (Option Asker) → ℕ → Type 0
IsDueAt reason ready places j = (holds ready j ≡ true) × IsDue reason (place places j)

abbrev pub NobodyIsDue : Reason → ℕ → List (Option Asker) → Type 0
NobodyIsDue reason ready places = (j : ℕ) → j < length places → IsDueAt reason ready places j → ⊥

-- job j asked in an earlier call than job k, or in the same one, and has the lower number
abbrev pub AskedFirst : List (Option Asker) → ℕ → ℕ → Type 0
AskedFirst places j k = (since_of (place places j) < since_of (place places k)) ⊎ ((since_of (place places j) ≡ since_of (place places k)) × (j ≤ k))

-- of the first n jobs that are due this one asked first; or none is
abbrev pub IsFirst : Reason → ℕ → List (Option Asker) → ℕ → Option ℕ → Type 0
IsFirst reason ready places n (Some j) =
    (j < n) × IsDueAt reason ready places j × ((k : ℕ) → k < n → IsDueAt reason ready places k → AskedFirst places j k)
IsFirst reason ready places n None = (k : ℕ) → k < n → IsDueAt reason ready places k → ⊥

-- ---- who is passed by

-- A session with these needs is let in: one more for who needs one of its instruments. Who was passed by often enough isn't counted any further, since
-- it is let in at once
abbrev pub passed_by : ℕ → ℕ → Option Asker → Option Asker
passed_by most needs (Some a) =
    if apart a.needs needs || nat_le most a.passed then Some a else Some (record { since = a.since; needs = a.needs; passed = a.passed + 1 })
passed_by most needs None = None

-- only who might be let in now is passed by
abbrev pub passed_at : ℕ → ℕ → ℕ → ℕ → Option Asker → Option Asker
passed_at most ready needs j a = if holds ready j then passed_by most needs a else a
