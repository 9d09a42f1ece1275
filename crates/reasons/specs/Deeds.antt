-- For readers: what is done without a word from the owners: how much it can be.
use Rattle.std.specs.Prelude.{ℕ, zero, suc, ◌+◌, ◌*◌, Bool, true, false, List, [], ◌∷◌, length}
use Rattle.lab_plan.specs.LabPlan.{LabPlan, edges, bottles}
use Rattle.legal_steps.specs.declared.event.Event.{Event}
use Rattle.legal_steps.specs.declared.event.Event.TheVariants.{Look, Thirst, Reach, Act, Quit, Retire, Glance, Withdraw}

-- no session begins, goes on, ends or is given up, and no job retires
abbrev pub IsBetween : Event → Type 0
IsBetween (Thirst j) = ⊥
IsBetween (Reach j) = ⊥
IsBetween (Act j) = ⊥
IsBetween (Quit j) = ⊥
IsBetween (Retire j) = ⊥
IsBetween (Withdraw j) = ⊥
IsBetween _ = Unit {0}

abbrev pub AreBetween : List Event → Type 0
AreBetween [] = Unit {0}
AreBetween (event ∷ events) = IsBetween event × AreBetween events

-- a deed is an event that is no look and no glance
abbrev pub is_deed : Event → Bool
is_deed (Look j e seen) = false
is_deed (Glance j other seen) = false
is_deed _ = true

-- f 0 + f 1 + .. + f (n - 1)
abbrev pub sum_below : (ℕ → ℕ) → ℕ → ℕ
sum_below f zero = 0
sum_below f (suc n) = sum_below f n + f n

-- the bottles of all edges of a plan
abbrev pub bottle_count : LabPlan → ℕ
bottle_count plan = sum_below (λ e. length (bottles plan e)) (length (edges plan))

-- four deeds for each job, nine for each edge, and nine for each bottle
abbrev pub most_deeds : LabPlan → ℕ
most_deeds plan = 4 * length plan.jobs + 9 * length (edges plan) + 9 * bottle_count plan
