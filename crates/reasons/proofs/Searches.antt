-- What is decided of a state, and searched for in it.
use Rattle.std.proofs.Common.{◌≡◌, ◌⊎◌, ℕ, zero, suc, ◌<◌, length, arith, refl, sym, ◌∙◌, subst, inl, inr}
use Rattle.std.proofs.lemmas.Bool.{cases_Bool, cases_eq, false≢true}
use Rattle.lab_plan.specs.LabPlan.{LabPlan, edges, ends, session_names}
use Rattle.legal_steps.specs.declared.phase.Drinking.{Drinking}
use Rattle.legal_steps.specs.declared.phase.Drinking.TheVariants.{Tranquil, Thirsty, Drinking as Drinks, Reaching, Retired}
use Rattle.legal_steps.specs.State.{State, IsOwn, IsInSession, IsDrinking, phase, drinking, session}
use Rattle.legal_steps.specs.Legal.{Needs}
use Rattle.legal_steps.proofs.FitsLaw.{not_tranquil, not_retired}

-- each below n has P, or one has Q
pub each_or_one : (P Q : ℕ → Type 0) → ((i : ℕ) → P i ⊎ Q i) → (n : ℕ) → ((i : ℕ) → i < n → P i) ⊎ ((i : ℕ) × (i < n) × Q i)
each_or_one P Q either zero = inl (λ i inside. absurd (omega (arith, inside)))
each_or_one P Q either (suc n) = elim (either n) [
  | inr q ↦ inr (n, omega arith, q)
  | inl p ↦ elim (each_or_one P Q either n) [
    | inr (i, inside, q) ↦ inr (i, omega (arith, inside), q)
    | inl all ↦ inl (λ i inside. elim (cases_eq i n) [ inl same ↦ subst P (sym same) p | inr other ↦ all i (omega (arith, inside, other)) ])
  ]
]

pub own_or_not : (plan : LabPlan) (j e : ℕ) → e < length (edges plan) → IsOwn plan j e ⊎ ¬ IsOwn plan j e
own_or_not plan j e inside = elim (cases_eq (ends plan e).0 j) [
  | inl lower ↦ inl (record { is_edge = inside; at_end = inl lower })
  | inr not_lower ↦ elim (cases_eq (ends plan e).1 j) [
    | inl higher ↦ inl (record { is_edge = inside; at_end = inr higher })
    | inr not_higher ↦ inr (λ own. elim own.at_end [ inl lower ↦ not_lower lower | inr higher ↦ not_higher higher ])
  ]
]

-- thirsty, drinking, or in no session
pub drinking_cases : (s : State) (j : ℕ) (d : Drinking) → drinking s j ≡ d
    → (drinking s j ≡ Thirsty) ⊎ IsDrinking (phase s j) ⊎ ¬ IsInSession (drinking s j)
drinking_cases s j Thirsty is = inl is
drinking_cases s j Drinks is = inr (inl (inl is))
drinking_cases s j Reaching is = inr (inl (inr is))
drinking_cases s j Tranquil is = inr (inr (λ inside. not_tranquil (subst IsInSession is inside)))
drinking_cases s j Retired is = inr (inr (λ inside. not_retired (subst IsInSession is inside)))

pub needs_or_not : (plan : LabPlan) (s : State) (j i : ℕ) → Needs plan s j i ⊎ ¬ Needs plan s j i
needs_or_not plan s j i = elim (cases_Bool (session_names plan j (session s j) i)) [
  | inr unnamed ↦ inr (λ need. false≢true (sym unnamed ∙ need.named))
  | inl named ↦ elim (drinking_cases s j (drinking s j) refl) [
    | inl thirsty ↦ inl (record { in_session = inl thirsty; named = named })
    | inr (inl drinks) ↦ inl (record { in_session = inr drinks; named = named })
    | inr (inr out) ↦ inr (λ need. out need.in_session)
  ]
]

pub drinks_or_not : (s : State) (j : ℕ) → IsDrinking (phase s j) ⊎ ¬ IsDrinking (phase s j)
drinks_or_not s j = elim (drinking_cases s j (drinking s j) refl) [
  | inl thirsty ↦ inr (λ drinks. elim drinks [ inl is ↦ not_drinks (sym thirsty ∙ is) | inr is ↦ not_reaches (sym thirsty ∙ is) ])
  | inr (inl drinks) ↦ inl drinks
  | inr (inr out) ↦ inr (λ drinks. out (inr drinks))
]
  where
    not_drinks : Thirsty ≡ Drinks → ⊥
    not_drinks h = cc

    not_reaches : Thirsty ≡ Reaching → ⊥
    not_reaches h = cc
