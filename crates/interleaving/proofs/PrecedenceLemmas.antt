-- Precedence on edges, as pairs of jobs.
use Rattle.std.proofs.Common.{◌≡◌, ℕ, ◌+◌, ◌<◌, ◌≤◌, ◌↔◌, true, ◌&&◌, eqb, List, [], ◌∷◌, ◌++◌, length, slice_index_or, arith, refl, sym, ap, ◌∙◌, subst, inl, inr}
use Rattle.std.proofs.lemmas.Bool.{cases_lt, eq-eqb}
use Rattle.std.specs.List.{Contains}
use Rattle.std.proofs.lemmas.List.{length_push, get_or_append_left, get_or_push}
use Rattle.std.proofs.lemmas.List.Elements.{Contains-push, Contains-push_cases, Contains-append_left, All-push}
use Rattle.cycles.specs.Cycles.{IsAmong, AreBelow, HasNoCycle, IsCycleOf}
use Rattle.lab_plan.specs.LabPlan.{LabPlan, edges}
use Rattle.legal_steps.specs.State.{State, IsOwn, fork, opposite}
use Rattle.legal_steps.specs.Precedence.{Precedes, PrecedesOn, IsAcyclic}
use Rattle.interleaving.specs.Pairs.{PairPrecedesOn, IsPrecedenceByEdge}
use Rattle.legal_steps.proofs.ForkEnds.{own_at}
use Rattle.legal_steps.proofs.AcyclicLists.{cycle_same}

-- who precedes on an edge is one of its two jobs
pub precedes_own : (plan : LabPlan) (s : State) (e a b : ℕ) → PrecedesOn plan s e a b → IsOwn plan a e
precedes_own plan s e a b on = elim on.order [
  | inl used ↦ subst (λ j. IsOwn plan j e) (sym used.1) (own_at plan e (opposite (fork s e)) on.is_edge)
  | inr clean ↦ subst (λ j. IsOwn plan j e) (sym clean.1) (own_at plan e (fork s e) on.is_edge)
]

pub both_equal : (a b c d : ℕ) → a ≡ c → b ≡ d → (eqb a c && eqb b d) ≡ true
both_equal a b c d h k = rw (eq-eqb a c h, eq-eqb b d k) refl

-- the pairs of the edges before edge n, in their order, and no others
pub record ArePairsBelow (plan : LabPlan) (s : State) (n : ℕ) (pairs : List (ℕ × ℕ)) : Type 0 where
  pub count : length pairs ≡ n
  pub each : (e : ℕ) → e < n → PairPrecedesOn plan s e (slice_index_or pairs e (0, 0))
  pub among : (a b : ℕ) → IsAmong pairs a b → (e : ℕ) × (e < n) × PrecedesOn plan s e a b
  pub all : (a b e : ℕ) → e < n → PrecedesOn plan s e a b → IsAmong pairs a b
  pub below : AreBelow (length plan.jobs) pairs

pub pairs_none : (plan : LabPlan) (s : State) (pairs : List (ℕ × ℕ)) → pairs ≡ [] → ArePairsBelow plan s 0 pairs
pairs_none plan s pairs none =
    let empty : length pairs ≡ 0 = ap length none in
    record {
      count = empty;
      each = λ e below. absurd (omega (arith, below));
      among = λ a b has. absurd (omega (arith, has.1, empty));
      all = λ a b e below on. absurd (omega (arith, below));
      below = λ k d inside. absurd (omega (arith, inside, empty));
    }

pub pairs_more : (plan : LabPlan) (s : State) (n : ℕ) (pairs : List (ℕ × ℕ)) (order : ℕ × ℕ)
    → ArePairsBelow plan s n pairs → PrecedesOn plan s n order.0 order.1
    → ((a b : ℕ) → PrecedesOn plan s n a b → (a ≡ order.0) × (b ≡ order.1))
    → (order.0 < length plan.jobs) × (order.1 < length plan.jobs) → ArePairsBelow plan s (n + 1) (pairs ++ order ∷ [])
pairs_more plan s n pairs order h on only jobs = record {
  count = omega (arith, length_push pairs order, h.count);
  each = λ e below. elim (cases_lt e n) [
    | inl before ↦
        let inside : e < length pairs = omega (arith, before, h.count) in
        subst (PairPrecedesOn plan s e) (sym (get_or_append_left pairs (order ∷ []) (0, 0) e inside)) (h.each e before)
    | inr past ↦
        let last : n ≡ e = omega arith in
        subst (λ k. PairPrecedesOn plan s k (slice_index_or (pairs ++ order ∷ []) k (0, 0))) last
        (subst (PairPrecedesOn plan s n) (sym (get_or_push pairs order (0, 0) n h.count)) on)
  ];
  among = λ a b has. elim (Contains-push_cases pairs order (a, b) has) [
    | inl old ↦ let w = h.among a b old in (w.0, omega (arith, w.1), w.2)
    | inr is ↦ (n, omega arith, subst (λ (p : ℕ × ℕ). PrecedesOn plan s n p.0 p.1) is on)
  ];
  all = λ a b e below other. elim (cases_lt e n) [
    | inl before ↦ Contains-append_left pairs (order ∷ []) (a, b) (h.all a b e before other)
    | inr past ↦
        let last : e ≡ n = omega arith in
        let is = only a b (subst (λ k. PrecedesOn plan s k a b) last other) in
        let pair : ℕ → ℕ → ℕ × ℕ = λ x y. (x, y) in
        subst (Contains (pairs ++ order ∷ [])) (sym (ap (λ x. pair x b) is.0 ∙ ap (pair order.0) is.1)) (Contains-push pairs order)
  ];
  below = All-push (λ (p : ℕ × ℕ). (p.0 < length plan.jobs) × (p.1 < length plan.jobs)) pairs order h.below jobs;
}

pub precedes_of : (plan : LabPlan) (s : State) (n : ℕ) (pairs : List (ℕ × ℕ)) → ArePairsBelow plan s n pairs
    → length (edges plan) ≤ n → (a b : ℕ) → IsAmong pairs a b ↔ Precedes plan s a b
precedes_of plan s n pairs h past a b = (λ has. let w = h.among a b has in (w.0, w.2), λ p. h.all a b p.0 (omega (arith, p.1.is_edge, past)) p.1)

pub by_edge_of : (plan : LabPlan) (s : State) (n : ℕ) (pairs : List (ℕ × ℕ))
    → ArePairsBelow plan s n pairs → n ≡ length (edges plan) → IsPrecedenceByEdge plan s pairs
by_edge_of plan s n pairs h all = record { one_each = h.count ∙ all; each = λ e is_edge. h.each e (omega (arith, is_edge, all)) }

-- ---- cycles

-- from a list that is lent as a slice
pub acyclic_of : (plan : LabPlan) (s : State) (pairs lent : List (ℕ × ℕ)) → lent ≡ pairs
    → ((a b : ℕ) → IsAmong pairs a b ↔ Precedes plan s a b) → HasNoCycle (IsAmong lent) → IsAcyclic plan s
acyclic_of plan s pairs lent is same none jobs cycle =
    none jobs (subst (λ xs. IsCycleOf (IsAmong xs) jobs) (sym is) (cycle_same (Precedes plan s) (IsAmong pairs) (λ a b. (same a b).1) jobs cycle))

pub cyclic_of : (plan : LabPlan) (s : State) (pairs lent : List (ℕ × ℕ)) (cycle : List ℕ) → lent ≡ pairs
    → ((a b : ℕ) → IsAmong pairs a b ↔ Precedes plan s a b) → IsCycleOf (IsAmong lent) cycle → ¬ IsAcyclic plan s
cyclic_of plan s pairs lent cycle is same found acyclic =
    acyclic cycle (cycle_same (IsAmong pairs) (Precedes plan s) (λ a b. (same a b).0) cycle (subst (λ xs. IsCycleOf (IsAmong xs) cycle) is found))
