-- The two ends of an edge, seen from a job at one of them.
use Rattle.std.proofs.Common.{◌≡◌, ◌≢◌, ◌⊎◌, ℕ, ◌+◌, ◌<◌, arith, refl, sym, subst, ap, ◌∙◌, inl, inr}
use Rattle.std.proofs.lemmas.Bool.{cases_lt}
use Rattle.lab_plan.specs.LabPlan.{LabPlan, ends}
use Rattle.legal_steps.specs.declared.end.End.{End}
use Rattle.legal_steps.specs.declared.end.End.TheVariants.{Lower, Higher}
use Rattle.legal_steps.specs.State.{IsOwn, end_of, opposite, neighbour}
use Rattle.legal_steps.specs.Legal.{Here, There}
use Rattle.legal_steps.proofs.ForkEnds.{one_at_end, own_at, end_at, not_opposite}

-- one of two ends
pub end_cases : (a b : End) → (a ≡ b) ⊎ (a ≢ b)
end_cases Lower Lower = inl refl
end_cases Higher Higher = inl refl
end_cases Lower Higher = inr (λ h. cc)
end_cases Higher Lower = inr (λ h. cc)

-- not at one end is at the other
pub at_opposite : (a b : End) → a ≢ b → a ≡ opposite b
at_opposite Lower Lower h = absurd (h refl)
at_opposite Lower Higher h = refl
at_opposite Higher Lower h = refl
at_opposite Higher Higher h = absurd (h refl)

-- two jobs at an edge are at opposite ends
pub across : (plan : LabPlan) (j k e : ℕ) → IsOwn plan j e → IsOwn plan k e → j ≢ k → opposite (end_of plan j e) ≡ end_of plan k e
across plan j k e mine yours apart = sym (at_opposite (end_of plan k e) (end_of plan j e) (λ same. apart (one_at_end plan j k e mine yours (sym same))))

-- a thing is not at both of two jobs
pub not_both : (plan : LabPlan) (j k e : ℕ) (thing : End) → IsOwn plan j e → IsOwn plan k e → j ≢ k → Here plan j e thing → There plan k e thing
not_both plan j k e thing mine yours apart here there = apart (one_at_end plan j k e mine yours (sym here ∙ there))

-- the neighbour: the edge is its own, and what is not at the job is at it
pub neighbour_own : (plan : LabPlan) (j e : ℕ) → IsOwn plan j e → IsOwn plan (neighbour plan j e) e
neighbour_own plan j e own = own_at plan e (opposite (end_of plan j e)) own.is_edge

pub neighbour_apart : (plan : LabPlan) (j e : ℕ) → IsOwn plan j e → j ≢ neighbour plan j e
neighbour_apart plan j e own same =
    not_opposite (end_of plan j e) (sym (end_at plan e (opposite (end_of plan j e)) own.is_edge) ∙ ap (λ k. end_of plan k e) (sym same))

pub at_neighbour : (plan : LabPlan) (j e : ℕ) (thing : End) → IsOwn plan j e → There plan j e thing → Here plan (neighbour plan j e) e thing
at_neighbour plan j e thing own there = at_opposite thing (end_of plan j e) there ∙ sym (end_at plan e (opposite (end_of plan j e)) own.is_edge)

-- ---- edge by edge, for both jobs of each

-- from the edges below n to those up to n
pub one_more_edge : (plan : LabPlan) (P : ℕ → ℕ → Type 0) (n : ℕ) (pair : ℕ × ℕ) → pair ≡ ends plan n
    → ((j e : ℕ) → e < n → IsOwn plan j e → P j e) → P pair.0 n → P pair.1 n → (j e : ℕ) → e < n + 1 → IsOwn plan j e → P j e
one_more_edge plan P n pair is before lower higher j e below own = elim (cases_lt e n) [
  | inl inside ↦ before j e inside own
  | inr past ↦
      let last : n ≡ e = omega (arith, past, below) in
      let at : (ends plan n ≡ ends plan e) = ap (ends plan) last in
      subst (P j) last (elim own.at_end [
        | inl same ↦ subst (λ k. P k n) (ap (λ (p : ℕ × ℕ). p.0) (is ∙ at) ∙ same) lower
        | inr same ↦ subst (λ k. P k n) (ap (λ (p : ℕ × ℕ). p.1) (is ∙ at) ∙ same) higher
      ])
]
