-- Cycles of two relations.
use Rattle.std.proofs.Common.{◌≢◌, ℕ, List, [], ◌∷◌}
use Rattle.legal_steps.specs.Precedence.{LeadsBackTo, IsCycleOf}

leads_same : (R' R : ℕ → ℕ → Type 0) → ((a b : ℕ) → R' a b → R a b) → (first a : ℕ) (jobs : List ℕ) → LeadsBackTo R' first a jobs → LeadsBackTo R first a jobs
leads_same R' R h first a [] r = h a first r
leads_same R' R h first a (b ∷ jobs) r = (h a b r.0, leads_same R' R h first b jobs r.1)

pub cycle_same : (R' R : ℕ → ℕ → Type 0) → ((a b : ℕ) → R' a b → R a b) → (jobs : List ℕ) → IsCycleOf R' jobs → IsCycleOf R jobs
cycle_same R' R h [] c = c
cycle_same R' R h (first ∷ jobs) c = leads_same R' R h first first jobs c

-- in a relation that doesn't lead out of j
starts : (R' : ℕ → ℕ → Type 0) (j : ℕ) → ((a b : ℕ) → R' a b → a ≢ j) → (first a : ℕ) (jobs : List ℕ) → LeadsBackTo R' first a jobs → a ≢ j
starts R' j out first a [] r = out a first r
starts R' j out first a (b ∷ jobs) r = out a b r.0

leads_past : (R' R : ℕ → ℕ → Type 0) (j : ℕ) → ((a b : ℕ) → R' a b → a ≢ j) → ((a b : ℕ) → R' a b → b ≢ j → R a b)
    → (first a : ℕ) (jobs : List ℕ) → first ≢ j → LeadsBackTo R' first a jobs → LeadsBackTo R first a jobs
leads_past R' R j out h first a [] other r = h a first r other
leads_past R' R j out h first a (b ∷ jobs) other r = (h a b r.0 (starts R' j out first b jobs r.1), leads_past R' R j out h first b jobs other r.1)

pub cycle_past : (R' R : ℕ → ℕ → Type 0) (j : ℕ) → ((a b : ℕ) → R' a b → a ≢ j)
    → ((a b : ℕ) → R' a b → b ≢ j → R a b) → (jobs : List ℕ) → IsCycleOf R' jobs → IsCycleOf R jobs
cycle_past R' R j out h [] c = c
cycle_past R' R j out h (first ∷ jobs) c = leads_past R' R j out h first first jobs (starts R' j out first first jobs c) c
