-- Who goes back along a relation without a cycle, among finitely many, comes to an end.
use Rattle.std.proofs.Common.{◌≡◌, ◌⊎◌, ℕ, zero, suc, ◌<◌, List, [], ◌∷◌, ◌++◌, arith, subst, inl, inr}
use Rattle.std.proofs.lemmas.Bool.{cases_eq}
use Rattle.cycles.specs.Cycles.{LeadsBackTo}

-- x comes before z by a chain of one or more steps
abbrev pub Before : (ℕ → ℕ → Type 0) → ℕ → ℕ → Type 0
Before R x z = (between : List ℕ) × LeadsBackTo R z x between

joined : (R : ℕ → ℕ → Type 0) (x : ℕ) (ys : List ℕ) (y : ℕ) (zs : List ℕ) (z : ℕ)
    → LeadsBackTo R y x ys → LeadsBackTo R z y zs → LeadsBackTo R z x (ys ++ y ∷ zs)
joined R x [] y zs z a b = (a, b)
joined R x (w ∷ ws) y zs z a b = (a.0, joined R w ws y zs z a.1 b)

pub before_joined : (R : ℕ → ℕ → Type 0) (x y z : ℕ) → Before R x y → Before R y z → Before R x z
before_joined R x y z a b = (a.0 ++ y ∷ b.0, joined R x a.0 y b.0 z a.1 b.1)

-- t has G, or it has G if another with H does, that comes before it
abbrev pub GoesBack : (ℕ → ℕ → Type 0) → (ℕ → Type 0) → (ℕ → Type 0) → ℕ → ℕ → Type 0
GoesBack B H G n t = G t ⊎ ((w : ℕ) × (w < n) × H w × B w t × (G w → G t))

-- so each has G, if nothing comes before itself
pub goes_back : (B : ℕ → ℕ → Type 0) → ((x : ℕ) → B x x → ⊥) → ((x y z : ℕ) → B x y → B y z → B x z) → (H G : ℕ → Type 0) (n : ℕ)
    → ((t : ℕ) → t < n → H t → GoesBack B H G n t) → (j : ℕ) → j < n → H j → G j
goes_back B never joins H G zero step j below h = absurd (omega (arith, below))
goes_back B never joins H G (suc n) step j below h =
    -- n itself goes back to one below it
    let last : (t : ℕ) → t ≡ n → H t → G t ⊎ ((w : ℕ) × (w < n) × H w × B w n × (G w → G t)) =
    λ t is ht. elim (step t (omega (arith, is)) ht) [
      | inl g ↦ inl g
      | inr (w, small, hw, before, give) ↦ elim (cases_eq w n) [
        | inl same ↦ absurd (never n (subst (λ v. B v n) same (subst (B w) is before)))
        | inr other ↦ inr (w, omega (arith, small, other), hw, subst (B w) is before, give)
      ]
    ] in
    let earlier : (i : ℕ) → i < n → H i → G i =
    goes_back B never joins H G n (λ t small ht. elim (step t (omega (arith, small)) ht) [
      | inl g ↦ inl g
      | inr (w, inside, hw, before, give) ↦ elim (cases_eq w n) [
        | inr other ↦ inr (w, omega (arith, inside, other), hw, before, give)
        | inl same ↦ elim (last w same hw) [
          | inl g ↦ inl (give g)
          | inr (v, low, hv, more, next) ↦ inr (v, low, hv, joins v n t more (subst (λ x. B x t) same before), λ g. give (next g))
        ]
      ]
    ]) in
    elim (cases_eq j n) [
      | inr other ↦ earlier j (omega (arith, below, other)) h
      | inl same ↦ elim (last j same h) [ inl g ↦ g | inr (v, low, hv, more, next) ↦ next (earlier v low hv) ]
    ]
