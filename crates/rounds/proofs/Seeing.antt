-- Of the two ends of an edge, one saw it as it is, or changed it last.
use Rattle.std.proofs.Common.{◌≡◌, ◌≢◌, ◌⊎◌, ℕ, Bool, true, false, ◌==◌, if◌then◌else◌, List, [], ◌∷◌, Option, Some, None, refl, sym, ap, ◌∙◌, subst, inl, inr}
use Rattle.std.proofs.lemmas.Bool.{cases_eq, eq-eqb, ne_eqb}
use Rattle.lab_plan.specs.LabPlan.{LabPlan, ends}
use Rattle.legal_steps.specs.declared.edge_state.EdgeState.{EdgeState}
use Rattle.legal_steps.specs.declared.event.Event.{Event}
use Rattle.legal_steps.specs.declared.event.Event.TheVariants.{Look, AskFork, GiveFork, Soil, AskBottles, GiveBottles, Thirst, Hunger, Sit, Leave, Drink, Reach, Act, Quit, Retire, Glance, Withdraw}
use Rattle.legal_steps.specs.State.{State, IsOwn, edge}
use Rattle.legal_steps.specs.Legal.{May, after}
use Rattle.legal_steps.specs.Run.{IsLegalFrom, after_all, actor}
use Rattle.legal_steps.proofs.FitsWrites.{edge_other}
use Rattle.turns.specs.History.{is_by, events_by}
use Rattle.rounds.specs.LastLooks.{seen_next, seen_after}

module _ (plan : LabPlan) (e : ℕ) where
  -- the job changed the edge since it looked, or saw it as it is
  abbrev pub IsCurrent : State → Option EdgeState → Type 0
  IsCurrent s seen = (seen ≡ None) ⊎ (seen ≡ Some (edge s e))

  -- one of the two ends did
  abbrev pub OneIsCurrent : State → Option EdgeState → Option EdgeState → Type 0
  OneIsCurrent s low high = IsCurrent s low ⊎ IsCurrent s high

  -- what job m saw last, after an event of any job
  abbrev seen_by : ℕ → Option EdgeState → Event → Option EdgeState
  seen_by m seen x = if is_by m x then seen_next e seen x else seen

  same_if : (b : Bool) (s t : Option EdgeState) → t ≡ s → (if b then t else s) ≡ s
  same_if true s t is = is
  same_if false s t is = refl

  -- an event that has nothing to do with the edge
  module _ (s : State) (x : Event) (low high : Option EdgeState) where
    elsewhere : ((seen : Option EdgeState) → seen_next e seen x ≡ seen) → edge (after plan s x) e ≡ edge s e
        → OneIsCurrent s low high → OneIsCurrent (after plan s x) (seen_by (ends plan e).0 low x) (seen_by (ends plan e).1 high x)
    elsewhere same still one =
        subst (λ (z : Option EdgeState × Option EdgeState × EdgeState). ((z.0 ≡ None) ⊎ (z.0 ≡ Some z.2)) ⊎ ((z.1 ≡ None) ⊎ (z.1 ≡ Some z.2)))
        (λ i. (
          sym (same_if (is_by (ends plan e).0 x) low (seen_next e low x) (same low)) i,
          sym (same_if (is_by (ends plan e).1 x) high (seen_next e high x) (same high)) i,
          sym still i,
        )) one

    -- a look at the edge, or an exchange on it, of one of its two jobs
    here : (now : Option EdgeState) → ((seen : Option EdgeState) → seen_next e seen x ≡ now) → IsCurrent (after plan s x) now
        → IsOwn plan (actor x) e → OneIsCurrent (after plan s x) (seen_by (ends plan e).0 low x) (seen_by (ends plan e).1 high x)
    here now is current own = elim own.at_end [
      | inl lower ↦ inl (subst (IsCurrent (after plan s x))
          (sym (ap (λ (b : Bool). if b then seen_next e low x else low) (eq-eqb (actor x) (ends plan e).0 (sym lower)) ∙ is low)) current)
      | inr higher ↦ inr (subst (IsCurrent (after plan s x))
          (sym (ap (λ (b : Bool). if b then seen_next e high x else high) (eq-eqb (actor x) (ends plan e).1 (sym higher)) ∙ is high)) current)
    ]

  to_none : (f : ℕ) → f ≡ e → (seen : Option EdgeState) → (if f == e then None else seen) ≡ None
  to_none f is seen = ap (λ (b : Bool). let z : Option EdgeState = if b then None else seen in z) (eq-eqb f e is)

  to_same : (f : ℕ) → f ≢ e → (seen : Option EdgeState) → (if f == e then None else seen) ≡ seen
  to_same f apart seen = ap (λ (b : Bool). let z : Option EdgeState = if b then None else seen in z) (ne_eqb f e apart)

  one_after : (s : State) (x : Event) (low high : Option EdgeState) → May plan s x → OneIsCurrent s low high
      → OneIsCurrent (after plan s x) (seen_by (ends plan e).0 low x) (seen_by (ends plan e).1 high x)
  one_after s (Look j f y) low high may one = elim (cases_eq f e) [
    | inl is ↦ here s (Look j f y) low high (Some y) (λ seen. ap (λ (b : Bool). if b then Some y else seen) (eq-eqb f e is))
        (inr (ap (λ (z : EdgeState). Some z) (may.1 ∙ ap (edge s) is))) (subst (IsOwn plan j) is may.0)
    | inr apart ↦ elsewhere s (Look j f y) low high (λ seen. ap (λ (b : Bool). if b then Some y else seen) (ne_eqb f e apart)) refl one
  ]
  one_after s (AskFork j f) low high may one = elim (cases_eq f e) [
    | inl is ↦ here s (AskFork j f) low high None (to_none f is) (inl refl) (subst (IsOwn plan j) is may.0)
    | inr apart ↦ elsewhere s (AskFork j f) low high (to_same f apart) (edge_other s f _ e (λ is. apart (sym is))) one
  ]
  one_after s (GiveFork j f) low high may one = elim (cases_eq f e) [
    | inl is ↦ here s (GiveFork j f) low high None (to_none f is) (inl refl) (subst (IsOwn plan j) is may.0)
    | inr apart ↦ elsewhere s (GiveFork j f) low high (to_same f apart) (edge_other s f _ e (λ is. apart (sym is))) one
  ]
  one_after s (Soil j f) low high may one = elim (cases_eq f e) [
    | inl is ↦ here s (Soil j f) low high None (to_none f is) (inl refl) (subst (IsOwn plan j) is may.0)
    | inr apart ↦ elsewhere s (Soil j f) low high (to_same f apart) (edge_other s f _ e (λ is. apart (sym is))) one
  ]
  one_after s (AskBottles j f set) low high may one = elim (cases_eq f e) [
    | inl is ↦ here s (AskBottles j f set) low high None (to_none f is) (inl refl) (subst (IsOwn plan j) is may.0)
    | inr apart ↦ elsewhere s (AskBottles j f set) low high (to_same f apart) (edge_other s f _ e (λ is. apart (sym is))) one
  ]
  one_after s (GiveBottles j f set) low high may one = elim (cases_eq f e) [
    | inl is ↦ here s (GiveBottles j f set) low high None (to_none f is) (inl refl) (subst (IsOwn plan j) is may.0)
    | inr apart ↦ elsewhere s (GiveBottles j f set) low high (to_same f apart) (edge_other s f _ e (λ is. apart (sym is))) one
  ]
  one_after s (Thirst j) low high may one = elsewhere s (Thirst j) low high (λ seen. refl) refl one
  one_after s (Hunger j) low high may one = elsewhere s (Hunger j) low high (λ seen. refl) refl one
  one_after s (Sit j) low high may one = elsewhere s (Sit j) low high (λ seen. refl) refl one
  one_after s (Leave j) low high may one = elsewhere s (Leave j) low high (λ seen. refl) refl one
  one_after s (Drink j) low high may one = elsewhere s (Drink j) low high (λ seen. refl) refl one
  one_after s (Reach j) low high may one = elsewhere s (Reach j) low high (λ seen. refl) refl one
  one_after s (Act j) low high may one = elsewhere s (Act j) low high (λ seen. refl) refl one
  one_after s (Quit j) low high may one = elsewhere s (Quit j) low high (λ seen. refl) refl one
  one_after s (Retire j) low high may one = elsewhere s (Retire j) low high (λ seen. refl) refl one
  one_after s (Glance j other seen) low high may one = elsewhere s (Glance j other seen) low high (λ z. refl) refl one
  one_after s (Withdraw j) low high may one = elsewhere s (Withdraw j) low high (λ seen. refl) refl one

  seen_more : (m : ℕ) (seen : Option EdgeState) (x : Event) (h : List Event)
      → seen_after e (seen_by m seen x) (events_by m h) ≡ seen_after e seen (events_by m (x ∷ h))
  seen_more m seen x h = at (is_by m x) where
    at : (b : Bool) → seen_after e (if b then seen_next e seen x else seen) (events_by m h) ≡ seen_after e seen (if b then x ∷ events_by m h else events_by m h)
    at true = refl
    at false = refl

  pub one_is_current : (s : State) (h : List Event) (low high : Option EdgeState) → IsLegalFrom plan s h → OneIsCurrent s low high
      → OneIsCurrent (after_all plan s h) (seen_after e low (events_by (ends plan e).0 h)) (seen_after e high (events_by (ends plan e).1 h))
  one_is_current s [] low high legal one = one
  one_is_current s (x ∷ h) low high legal one =
      subst (λ (z : Option EdgeState × Option EdgeState). OneIsCurrent (after_all plan (after plan s x) h) z.0 z.1)
      (λ i. (seen_more (ends plan e).0 low x h i, seen_more (ends plan e).1 high x h i))
      (one_is_current (after plan s x) h (seen_by (ends plan e).0 low x) (seen_by (ends plan e).1 high x) legal.1 (one_after s x low high legal.0 one))

  or_else : EdgeState → Option EdgeState → EdgeState
  or_else d (Some x) = x
  or_else d None = d

  -- what was seen last is the edge as it is
  pub current_is : (s : State) (seen : Option EdgeState) (y : EdgeState) → seen ≡ Some y → IsCurrent s seen → edge s e ≡ y
  unfolding or_else
  current_is s seen y is (inl none) = absurd (let both : Some y ≡ None = sym is ∙ none in cc)
  current_is s seen y is (inr some) = ap (or_else y) (sym some ∙ is)
