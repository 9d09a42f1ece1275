-- Laws of histories.
use Rattle.std.proofs.Common.{◌≡◌, ◌≢◌, ℕ, ◌<◌, true, false, ◌==◌, List, [], ◌∷◌, ◌++◌, length, refl, sym, ap, ◌∙◌, subst, arith, inl, inr, append_assoc}
use Rattle.std.proofs.lemmas.Bool.{cases_eq, eq-eqb, ne_eqb}
use Rattle.std.proofs.lemmas.List.{length-replicate}
use Rattle.lab_plan.specs.LabPlan.{LabPlan, edges}
use Rattle.legal_steps.specs.declared.event.Event.{Event}
use Rattle.legal_steps.specs.State.{Seat, State, seat}
use Rattle.legal_steps.specs.Legal.{after}
use Rattle.legal_steps.specs.Run.{IsLegalFrom, after_all, actor}
use Rattle.legal_steps.specs.Opening.{the_opening, idle_seat}
use Rattle.legal_steps.proofs.ReachedLaws.{the_opening_is_acyclic}
use Rattle.turns.specs.History.{events_by, learned, learned_all, known_by, state_after}
use Rattle.turns.specs.Lists.{StartsWith, Each}
use Rattle.turns.proofs.Frame.{as_many_seats, own_seat, other_seat, learned_seats, learned_edges, learned_seat}
use Rattle.turns.specs.Changes.{seat_after}

module _ (plan : LabPlan) where
  pub after_all-append : (s : State) (a b : List Event) → after_all plan s (a ++ b) ≡ after_all plan (after_all plan s a) b
  after_all-append s [] b = refl
  after_all-append s (x ∷ a) b = after_all-append (after plan s x) a b

  pub legal-append : (s : State) (a b : List Event) → IsLegalFrom plan s a → IsLegalFrom plan (after_all plan s a) b → IsLegalFrom plan s (a ++ b)
  legal-append s [] b l m = m
  legal-append s (x ∷ a) b l m = (l.0, legal-append (after plan s x) a b l.1 m)

  pub legal-begins : (s : State) (a b : List Event) → IsLegalFrom plan s (a ++ b) → IsLegalFrom plan s a
  legal-begins s [] b l = tt
  legal-begins s (x ∷ a) b l = (l.0, legal-begins (after plan s x) a b l.1)

  pub legal-goes_on : (s : State) (a b : List Event) → IsLegalFrom plan s (a ++ b) → IsLegalFrom plan (after_all plan s a) b
  legal-goes_on s [] b l = l
  legal-goes_on s (x ∷ a) b l = legal-goes_on (after plan s x) a b l.1

  pub learned_all-append : (s : State) (a b : List Event) → learned_all plan s (a ++ b) ≡ learned_all plan (learned_all plan s a) b
  learned_all-append s [] b = refl
  learned_all-append s (x ∷ a) b = learned_all-append (learned plan s x) a b

  pub all_seats : (s : State) (h : List Event) → length (after_all plan s h).seats ≡ length s.seats
  all_seats s [] = refl
  all_seats s (x ∷ h) = all_seats (after plan s x) h ∙ as_many_seats plan s x

  pub learned_all_seats : (s : State) (h : List Event) → length (learned_all plan s h).seats ≡ length s.seats
  learned_all_seats s [] = refl
  learned_all_seats s (x ∷ h) = learned_all_seats (learned plan s x) h ∙ learned_seats plan s x

  pub learned_all_edges : (s : State) (h : List Event) → length (learned_all plan s h).edges ≡ length s.edges
  learned_all_edges s [] = refl
  learned_all_edges s (x ∷ h) = learned_all_edges (learned plan s x) h ∙ learned_edges plan s x

  -- what a job is follows from its own events alone
  pub own_follows : (j : ℕ) (s t : State) (h : List Event) → j < length s.seats → j < length t.seats
      → seat s j ≡ seat t j → seat (after_all plan s h) j ≡ seat (learned_all plan t (events_by j h)) j
  own_follows j s t [] in_s in_t same = same
  own_follows j s t (x ∷ h) in_s in_t same = elim (cases_eq (actor x) j) [
    | inl is ↦
        let here : (actor x == j) ≡ true = eq-eqb (actor x) j is in
        let a : seat (after plan s x) j ≡ seat_after plan (seat s j) x =
        subst (λ i. i < length s.seats → seat (after plan s x) i ≡ seat_after plan (seat s i) x) is (own_seat plan s x) in_s in
        let b : seat (learned plan t x) j ≡ seat_after plan (seat t j) x =
        subst (λ i. i < length t.seats → seat (learned plan t x) i ≡ seat_after plan (seat t i) x) is (learned_seat plan t x) in_t in
        rw here (own_follows j (after plan s x) (learned plan t x) h (omega (arith, in_s, as_many_seats plan s x)) (omega (arith, in_t, learned_seats plan t x))
        (a ∙ (ap (λ (y : Seat). seat_after plan y x) same ∙ sym b)))
    | inr ne ↦
        let there : (actor x == j) ≡ false = ne_eqb (actor x) j ne in
        rw there (own_follows j (after plan s x) t h (omega (arith, in_s, as_many_seats plan s x)) in_t (other_seat plan s x j (λ e. ne (sym e)) ∙ same))
  ]

  pub opening_seats : length (the_opening plan).seats ≡ length plan.jobs
  opening_seats = length-replicate (length plan.jobs) (idle_seat plan)

  pub opening_edges : length (the_opening plan).edges ≡ length (edges plan)
  opening_edges = (the_opening_is_acyclic plan).0.edges_there

  -- the seat of a job after a history is what the job knows by its events in it
  pub own_known : (j : ℕ) (h : List Event) → j < length plan.jobs → seat (state_after plan h) j ≡ seat (known_by plan (events_by j h)) j
  own_known j h job = let n = opening_seats in own_follows j (the_opening plan) (the_opening plan) h (omega arith) (omega arith) refl

module _ (j : ℕ) where
  pub only_mine : (g : List Event) → Each (λ (x : Event). actor x ≡ j) g → events_by j g ≡ g
  only_mine [] e = refl
  only_mine (x ∷ g) e = let t : (actor x == j) ≡ true = eq-eqb (actor x) j e.0 in rw t (ap (λ l. x ∷ l) (only_mine g e.1))

  pub none_theirs : (k : ℕ) (g : List Event) → k ≢ j → Each (λ (x : Event). actor x ≡ j) g → events_by k g ≡ []
  none_theirs k [] n e = refl
  none_theirs k (x ∷ g) n e = let t : (actor x == k) ≡ false = ne_eqb (actor x) k (λ h. n (sym h ∙ e.0)) in rw t (none_theirs k g n e.1)

module _ {A : Type 0} where
  pub each_map : (P Q : A → Type 0) → ((x : A) → P x → Q x) → (l : List A) → Each P l → Each Q l
  each_map P Q f [] e = tt
  each_map P Q f (x ∷ l) e = (f x e.0, each_map P Q f l e.1)

  pub each-append : (P : A → Type 0) (a b : List A) → Each P a → Each P b → Each P (a ++ b)
  each-append P [] b e f = f
  each-append P (x ∷ a) b e f = (e.0, each-append P a b e.1 f)

pub starts_longer : (h g front : List Event) → StartsWith h front → StartsWith (h ++ g) front
starts_longer h g front s = (s.0 ++ g, ap (λ l. l ++ g) s.1 ∙ append_assoc front s.0 g)

pub append_self : {A : Type 0} (a b : List A) → a ++ b ≡ a → b ≡ []
append_self [] b e = e
append_self (x ∷ a) b e = append_self a b (cc)
