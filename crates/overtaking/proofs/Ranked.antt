-- A ranking along the pairs of precedence is one by precedence.
use Rattle.std.proofs.Common.{◌≢◌, ◌↔◌, ℕ, zero, suc, ◌<◌, List, [], ◌∷◌, length, slice_index_or, arith, sym, subst, inl, inr}
use Rattle.std.specs.List.{Contains}
use Rattle.std.proofs.lemmas.Bool.{cases_lt, cases_eq}
use Rattle.std.proofs.lemmas.List.{get_or_default}
use Rattle.cycles.specs.Cycles.{IsAmong, HasNoCycle}
use Rattle.cycles.specs.Rankings.{IsRanked, IsRanking}
use Rattle.lab_plan.specs.LabPlan.{LabPlan}
use Rattle.legal_steps.specs.State.{State}
use Rattle.legal_steps.specs.Precedence.{Precedes, IsAcyclic}
use Rattle.legal_steps.proofs.AcyclicLists.{cycle_same}
use Rattle.overtaking.specs.Rankings.{IsRankingOf}

at_contains : (xs : List ℕ) (i d : ℕ) → i < length xs → Contains xs (slice_index_or xs i d)
at_contains xs i d inside = (i, inside, get_or_default xs i (slice_index_or xs i d) d inside)

-- a later job leads to no earlier one, and is another
apart : (pairs : List (ℕ × ℕ)) (order : List ℕ) (d k i : ℕ) → IsRanked pairs order → k < i → i < length order
    → ¬ IsAmong pairs (slice_index_or order i d) (slice_index_or order k d) × (slice_index_or order k d ≢ slice_index_or order i d)
apart pairs [] d k i h before inside = absurd (omega (arith, inside))
apart pairs (x ∷ xs) d k zero h before inside = absurd (omega (arith, before))
apart pairs (x ∷ xs) d zero (suc i) h before inside =
    let there : Contains xs (slice_index_or xs i d) = at_contains xs i d (omega (arith, inside)) in
    (h.0 (slice_index_or xs i d) there, λ same. h.1 (subst (Contains xs) (sym same) there))
apart pairs (x ∷ xs) d (suc k) (suc i) h before inside = apart pairs xs d k i h.2 (omega (arith, before)) (omega (arith, inside))

pub acyclic_pairs : (plan : LabPlan) (s : State) (pairs : List (ℕ × ℕ))
    → ((a b : ℕ) → IsAmong pairs a b ↔ Precedes plan s a b) → IsAcyclic plan s → HasNoCycle (IsAmong pairs)
acyclic_pairs plan s pairs same acyclic jobs cycle = acyclic jobs (cycle_same (IsAmong pairs) (Precedes plan s) (λ a b. (same a b).0) jobs cycle)

pub ranks_by_precedence : (plan : LabPlan) (s : State) (pairs : List (ℕ × ℕ)) (order : List ℕ)
    → ((a b : ℕ) → IsAmong pairs a b ↔ Precedes plan s a b) → IsAcyclic plan s → IsRanking (length plan.jobs) pairs order → IsRankingOf plan s order
ranks_by_precedence plan s pairs order same acyclic h = record {
  every = h.every;
  none_else = h.none_else;
  once = λ i k d before inside. (apart pairs order d i k h.ranked before inside).1;
  in_order = λ i k here there precedes. elim (cases_lt i k) [
    | inl before ↦ before
    | inr after ↦ elim (cases_eq k i) [
      | inl one ↦ absurd (acyclic (slice_index_or order i 0 ∷ [])
          (subst (λ n. Precedes plan s (slice_index_or order i 0) (slice_index_or order n 0)) one precedes))
      | inr other ↦ absurd ((apart pairs order 0 k i h.ranked (omega (arith, after, other)) here).0 ((same _ _).1 precedes))
    ]
  ];
}
