-- The first act that counts.
use Rattle.std.proofs.Common.{◌≡◌, ◌↔◌, ℕ, Bool, true, false, List, [], ◌∷◌, sym, ◌∙◌, inl, inr}
use Rattle.std.proofs.lemmas.Bool.{false≢true}
use Rattle.lab_plan.specs.LabPlan.{LabPlan}
use Rattle.legal_steps.specs.declared.event.Event.{Event}
use Rattle.legal_steps.specs.State.{State}
use Rattle.legal_steps.specs.Legal.{May}
use Rattle.turns.specs.Acts.{Counts, AreFirst, order}
use Rattle.turns.specs.Laws.{OneActIsDue}

pub refused : (b : Bool) (M : Type 0) → (b ≡ true) ↔ M → b ≡ false → ¬ M
refused b M test is m = false≢true (sym is ∙ test.1 m)

module _ (plan : LabPlan) (s : State) (j waited : ℕ) where
  pub illegal : (x : Event) → ¬ May plan s x → ¬ Counts plan s j waited x
  illegal x other c = other c.0

one_first : (plan : LabPlan) (s : State) (j waited : ℕ) (xs a b : List Event) → AreFirst plan s j waited xs a → AreFirst plan s j waited xs b → a ≡ b
one_first plan s j waited [] a b p q = p ∙ sym q
one_first plan s j waited (x ∷ xs) a b p q = elim p [
  | inl here ↦ elim q [ inl there ↦ here.1 ∙ sym there.1 | inr there ↦ absurd (there.0 here.0) ]
  | inr here ↦ elim q [ inl there ↦ absurd (here.0 there.0) | inr there ↦ one_first plan s j waited xs a b here.1 there.1 ]
]

pub one_act_is_due : OneActIsDue
one_act_is_due = λ plan s j waited a b p q. one_first plan s j waited (order j) a b p q
