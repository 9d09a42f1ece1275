-- In a relation without a cycle, among the numbers with a property one is left that none of them comes before.
use Rattle.std.proofs.Common.{◌≡◌, ℕ, zero, suc, ◌<◌, List, [], ◌∷◌, ◌++◌, arith, subst, inl, inr}
use Rattle.std.proofs.lemmas.Bool.{cases_eq}
use Rattle.cycles.specs.Cycles.{LeadsBackTo, HasNoCycle}

-- x comes before z by a chain of one or more steps
abbrev pub Before : (ℕ → ℕ → Type 0) → ℕ → ℕ → Type 0
Before R x z = (between : List ℕ) × LeadsBackTo R z x between

joined : (R : ℕ → ℕ → Type 0) (x : ℕ) (ys : List ℕ) (y : ℕ) (zs : List ℕ) (z : ℕ)
    → LeadsBackTo R y x ys → LeadsBackTo R z y zs → LeadsBackTo R z x (ys ++ y ∷ zs)
joined R x [] y zs z a b = (a, b)
joined R x (w ∷ ws) y zs z a b = (a.0, joined R w ws y zs z a.1 b)

-- it isn't refuted that there is a first among the numbers below n with H
pub first : (R : ℕ → ℕ → Type 0) → HasNoCycle R → (H : ℕ → Type 0) (n j : ℕ) → j < n → H j
    → ((t : ℕ) → t < n → H t → ((w : ℕ) → w < n → H w → ¬ Before R w t) → ⊥) → ⊥
first R a H zero j below hj k = absurd (omega (arith, below))
first R a H (suc n) j below hj k =
    -- a job before n itself would close a cycle
    let loop : (w : ℕ) → w ≡ n → Before R w n → ⊥ = λ w is r. let c : Before R n n = subst (λ v. Before R v n) is r in a (n ∷ c.0) c.1 in
    let earlier : (i : ℕ) → i < n → H i → ⊥ =
    λ i inside hi. first R a H n i inside hi (λ t lt ht free.
    -- t is first below n: so it is first, or n comes before it, and then n is
    let stays : ¬ (H n × Before R n t) → ⊥ =
    λ no. k t (omega (arith, lt)) ht (λ w lw hw r. elim (cases_eq w n) [
      | inl is ↦ no (subst H is hw, subst (λ v. Before R v t) is r)
      | inr other ↦ free w (omega (arith, lw, other)) hw r
    ]) in
    stays (λ yes. k n (omega arith) yes.0 (λ w lw hw r. elim (cases_eq w n) [
      | inl is ↦ loop w is r
      | inr other ↦ free w (omega (arith, lw, other)) hw (r.0 ++ n ∷ yes.1.0, joined R w r.0 n yes.1.0 t r.1 yes.1.1)
    ]))) in
    elim (cases_eq j n) [
      | inl is ↦ k n (omega arith) (subst H is hj)
          (λ w lw hw r. elim (cases_eq w n) [ inl same ↦ loop w same r | inr other ↦ earlier w (omega (arith, lw, other)) hw ])
      | inr other ↦ earlier j (omega (arith, below, other)) hj
    ]
