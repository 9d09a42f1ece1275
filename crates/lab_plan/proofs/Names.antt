-- The sets of what the jobs name, job by job.
use Rattle.std.proofs.Common.{◌≡◌, ℕ, ◌+◌, ◌<◌, List, length, take, replicate, slice_index_or, slice_set, arith, sym, ap, ◌∙◌, subst, inl, inr, get_or-set_same, get_or-set_other}
use Rattle.std.proofs.lemmas.Bool.{cases_eq, cases_lt}
use Rattle.std.proofs.lemmas.List.{get_or-take, get_or_past, length-take}
use Rattle.lab_plan.specs.LabPlan.{JobPlan, no_job, is_named_by}
use Rattle.lab_plan.specs.InstrumentSets.{holds}
use Rattle.lab_plan.specs.NamedBy.{AreNaming}
use Rattle.lab_plan.proofs.Bits.{holds_none}
use Rattle.lab_plan.proofs.Alike.{read_alike}

take_other : {X : Type 0} (xs : List X) (k j : ℕ) (d : X) → (j ≡ k → ⊥) → slice_index_or (take k xs) j d ≡ slice_index_or (take (k + 1) xs) j d
take_other xs k j d other = elim (cases_lt j k) [
  | inl h ↦ get_or-take k xs j d h ∙ sym (get_or-take (k + 1) xs j d (omega arith))
  | inr h ↦ get_or_past (take k xs) j d (omega (arith, length-take k xs))
      ∙ sym (get_or_past (take (k + 1) xs) j d (omega (arith, length-take (k + 1) xs, other)))
]

-- the sets of the jobs before k are done, and then that of k
pub naming_more : (sets : List ℕ) (jobs : List JobPlan) (k set : ℕ) (job : JobPlan) → k < length sets → slice_index_or jobs k no_job ≡ job
    → ((i : ℕ) → holds set i ≡ is_named_by job i) → AreNaming (take k jobs) sets → AreNaming (take (k + 1) jobs) (slice_set sets k set)
naming_more sets jobs k set job within is of before j i = elim (cases_eq j k) [
  | inl h ↦ subst (λ n. holds (slice_index_or (slice_set sets k set) n 0) i ≡ is_named_by (slice_index_or (take (k + 1) jobs) n no_job) i) (sym h)
      (ap (λ s. holds s i) (get_or-set_same sets k set 0 within) ∙ of i
      ∙ ap (λ x. is_named_by x i) (sym (get_or-take (k + 1) jobs k no_job (omega arith) ∙ is)))
  | inr h ↦ ap (λ s. holds s i) (get_or-set_other sets k j set 0 h) ∙ before j i ∙ ap (λ x. is_named_by x i) (take_other jobs k j no_job h)
]

-- before the first job
pub naming_none : (jobs : List JobPlan) (n r : ℕ) → r ≡ 0 → AreNaming (take 0 jobs) (replicate n r)
naming_none jobs n r e j i = ap (λ s. holds s i) (ap (slice_index_or (replicate n r) j) (sym e) ∙ read_alike n j r ∙ e) ∙ holds_none i
