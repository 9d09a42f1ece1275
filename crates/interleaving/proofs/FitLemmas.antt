-- What holds of a list after one element is replaced, and that a seat fits its plan with another phase.
use Rattle.std.proofs.Common.{◌≢◌, ℕ, ◌<◌, length, slice_index_or, slice_set, List, sym, subst, get_or-set_same, get_or-set_other, inl, inr}
use Rattle.std.proofs.lemmas.Bool.{cases_eq}
use Rattle.lab_plan.specs.LabPlan.{LabPlan}
use Rattle.legal_steps.specs.declared.phase.JobState.{JobState}
use Rattle.legal_steps.specs.State.{Seat}
use Rattle.legal_steps.specs.Fitting.{IsPhaseOf, IsSeatOf}

-- what holds at place k of a list with a new element at place n: the new one where they are the same, the old one elsewhere
pub set_cases : {X : Type 0} (P : ℕ → X → Type 0) (xs : List X) (n : ℕ) (x d : X) (k : ℕ) → n < length xs
    → P n x → (k ≢ n → P k (slice_index_or xs k d)) → P k (slice_index_or (slice_set xs n x) k d)
set_cases {X} P xs n x d k inside new old = elim (cases_eq k n) [
  | inl same ↦ let Q : ℕ → Type 0 = λ m. P m (slice_index_or (slice_set xs n x) m d) in
      subst Q (sym same) (subst (P n) (sym (get_or-set_same xs n x d inside)) new)
  | inr other ↦ subst (P k) (sym (get_or-set_other xs n k x d other)) (old other)
]

-- a seat fits with another phase that fits
pub seat_with_phase : (plan : LabPlan) (j : ℕ) (x : Seat) (phase : JobState)
    → IsSeatOf plan j x → IsPhaseOf plan j phase → IsSeatOf plan j (record x { phase = phase })
seat_with_phase plan j x phase h p = record {
  fork_marks_there = h.fork_marks_there;
  bottle_marks_there = h.bottle_marks_there;
  bottle_marks_fit = h.bottle_marks_fit;
  phase_within = p;
}
