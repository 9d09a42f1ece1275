-- What the two ends of edges saw.
use Rattle.std.proofs.Common.{◌≡◌, ℕ, ◌+◌, ◌≤◌, Bool, true, false, IsTrue, ◌↔◌, List, sym, ap, ◌∙◌, subst, arith, inl, inr}
use Rattle.std.proofs.lemmas.Bool.{cases_lt, eqb-true, eq-eqb}
use Rattle.std.proofs.Math.Dec.{eqb}
use Rattle.legal_steps.specs.declared.edge_state.EdgeState.{EdgeState}
use Rattle.edge_word.specs.Words.{word_of, IsOfBottles}
use Rattle.edge_word.proofs.WordBits.{no_two_edges}
use Rattle.edge_word.proofs.WordLemmas.{IsOfBottles-28}
use Rattle.lab_plan.specs.LabPlan.{LabPlan, ends}
use Rattle.edge_rule.specs.DeskView.{DeskView}
use Rattle.rounds.specs.Company.{seen_by, IsAgreed}

module _ (desks : List DeskView) (plan : LabPlan) where
  abbrev At : ℕ → Type 0
  At e = seen_by desks (ends plan e).0 e ≡ seen_by desks (ends plan e).1 e

  pub agreed_fewer : (n : ℕ) → IsAgreed desks plan (n + 1) → IsAgreed desks plan n
  agreed_fewer n all e l = all e (omega arith)

  pub agreed_more : (n : ℕ) → IsAgreed desks plan n → At n → IsAgreed desks plan (n + 1)
  agreed_more n all here e l = elim (cases_lt e n) [
    | inl less ↦ all e less
    | inr more ↦ (let is : n ≡ e = omega arith in subst At is here)
  ]

-- edges are told apart by their words
pub same_word : (n : ℕ) (x y : EdgeState) → n ≤ 28 → IsOfBottles n x → IsOfBottles n y → (eqb (word_of x) (word_of y) ≡ true) ↔ (x ≡ y)
same_word n x y few fits_x fits_y = (
  λ is. no_two_edges x y (IsOfBottles-28 n x few fits_x) (IsOfBottles-28 n y few fits_y) (eqb-true (word_of x) (word_of y) is),
  λ is. eq-eqb (word_of x) (word_of y) (ap word_of is),
)

-- one more edge
pub with_one_more : (desks : List DeskView) (plan : LabPlan) (n : ℕ) (all here : Bool) → all ≡ true → IsTrue all ↔ IsAgreed desks plan n
    → IsTrue here ↔ seen_by desks (ends plan n).0 n ≡ seen_by desks (ends plan n).1 n → IsTrue here ↔ IsAgreed desks plan (n + 1)
with_one_more desks plan n all here is so_far last = (λ t. agreed_more desks plan n (so_far.0 is) (last.0 t), λ t. last.1 (t n (omega arith)))

pub not_all : (desks : List DeskView) (plan : LabPlan) (n : ℕ) (all now : Bool) → all ≡ false
    → now ≡ all → IsTrue all ↔ IsAgreed desks plan n → IsTrue now ↔ IsAgreed desks plan (n + 1)
not_all desks plan n all now is same so_far =
    (λ t. let both : true ≡ false = sym t ∙ (same ∙ is) in absurd (cc), λ t. same ∙ so_far.1 (agreed_fewer desks plan n t))
