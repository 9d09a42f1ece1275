-- The number of a job's session never falls, and is the plan's.
use Rattle.std.proofs.Common.{◌≡◌, ℕ, ◌==◌, ◌<◌, ◌≤◌, true, false, List, [], ◌∷◌, length, sym, ap, ◌∙◌, subst, inl, inr, arith}
use Rattle.std.proofs.lemmas.Bool.{cases_eq, eq-eqb, ne_eqb}
use Rattle.std.proofs.lemmas.List.Elements.{filter-append}
use Rattle.lab_plan.specs.LabPlan.{LabPlan}
use Rattle.legal_steps.specs.declared.event.Event.{Event}
use Rattle.legal_steps.specs.declared.event.Event.TheVariants.{Look, AskFork, GiveFork, Soil, AskBottles, GiveBottles, Thirst, Hunger, Sit, Leave, Drink, Reach, Act, Quit, Retire, Glance, Withdraw}
use Rattle.legal_steps.specs.State.{State, Seat, seat, phase, session}
use Rattle.legal_steps.specs.Fitting.{IsPhaseOf}
use Rattle.legal_steps.proofs.ReachedInvariant.{sound_opening, sound_after_all}
use Rattle.legal_steps.proofs.ReachedLaws.{the_opening_is_acyclic}
use Rattle.legal_steps.specs.Opening.{the_opening}
use Rattle.legal_steps.specs.Run.{actor}
use Rattle.turns.specs.History.{IsHistory, is_by, events_by, learned, learned_all}
use Rattle.turns.specs.Changes.{seat_after}
use Rattle.turns.specs.Lists.{StartsWith}
use Rattle.turns.proofs.Frame.{learned_seat, learned_seats}
use Rattle.turns.proofs.Runs.{learned_all-append, learned_all_seats, opening_seats, own_known}
use Rattle.rounds.specs.Rounds.{known_in}

module _ (plan : LabPlan) where
  by_one : (y : Seat) (x : Event) → y.phase.session ≤ (seat_after plan y x).phase.session
  by_one y (Look j e seen) = omega arith
  by_one y (AskFork j e) = omega arith
  by_one y (GiveFork j e) = omega arith
  by_one y (Soil j e) = omega arith
  by_one y (AskBottles j e set) = omega arith
  by_one y (GiveBottles j e set) = omega arith
  by_one y (Thirst j) = omega arith
  by_one y (Hunger j) = omega arith
  by_one y (Sit j) = omega arith
  by_one y (Leave j) = omega arith
  by_one y (Drink j) = omega arith
  by_one y (Reach j) = omega arith
  by_one y (Act j) = omega arith
  by_one y (Quit j) = omega arith
  by_one y (Retire j) = omega arith
  by_one y (Glance j other seen) = omega arith
  by_one y (Withdraw j) = omega arith

  by_all : (j : ℕ) (s : State) (h : List Event) → j < length s.seats → session s j ≤ session (learned_all plan s (events_by j h)) j
  by_all j s [] inside = omega arith
  by_all j s (x ∷ h) inside = elim (cases_eq (actor x) j) [
    | inl is ↦
        let here : (actor x == j) ≡ true = eq-eqb (actor x) j is in
        let own : seat (learned plan s x) j ≡ seat_after plan (seat s j) x =
        subst (λ i. i < length s.seats → seat (learned plan s x) i ≡ seat_after plan (seat s i) x) is (learned_seat plan s x) inside in
        let up : session s j ≤ session (learned plan s x) j = subst (λ (y : Seat). session s j ≤ y.phase.session) (sym own) (by_one (seat s j) x) in
        let later : session (learned plan s x) j ≤ session (learned_all plan (learned plan s x) (events_by j h)) j =
        by_all j (learned plan s x) h (omega (arith, inside, learned_seats plan s x)) in
        rw here (omega (arith, up, later))
    | inr ne ↦
        let there : (actor x == j) ≡ false = ne_eqb (actor x) j ne in
        rw there (by_all j s h inside)
  ]

  -- from a beginning of a history to its end
  pub rises : (j : ℕ) (h start : List Event) → StartsWith h start → j < length plan.jobs → session (known_in plan start j) j ≤ session (known_in plan h j) j
  rises j h start s inside =
      let n = learned_all_seats plan (the_opening plan) (events_by j start) in let m = opening_seats plan in
      let more : session (known_in plan start j) j ≤ session (learned_all plan (known_in plan start j) (events_by j s.0)) j =
      by_all j (known_in plan start j) s.0 (omega (arith, inside, n, m)) in
      subst (λ (t : State). session (known_in plan start j) j ≤ session t j)
      (sym (ap (λ l. known_in plan l j) s.1
      ∙ (ap (learned_all plan (the_opening plan)) (filter-append (is_by j) start s.0)
      ∙ learned_all-append plan (the_opening plan) (events_by j start) (events_by j s.0)))) more

-- what a job knows of itself fits the plan
pub within : (plan : LabPlan) (h : List Event) (j : ℕ) → IsHistory plan h → j < length plan.jobs → IsPhaseOf plan j (phase (known_in plan h j) j)
within plan h j legal inside =
    let opening = the_opening plan in
    let sound = sound_after_all plan opening h (sound_opening plan opening (the_opening_is_acyclic plan).0) legal in
    subst (λ (y : Seat). IsPhaseOf plan j y.phase) (own_known plan j h inside) (sound.fits.seats_fit j inside).phase_within
