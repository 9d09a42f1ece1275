-- A job in no session is at no command.
use Rattle.std.proofs.Common.{◌≡◌, ℕ, ◌<◌, List, [], ◌∷◌, length, refl, sym, ap, subst, inl, inr}
use Rattle.std.proofs.lemmas.Bool.{cases_eq, cases_lt}
use Rattle.std.proofs.lemmas.List.{get_or_past}
use Rattle.lab_plan.specs.LabPlan.{LabPlan}
use Rattle.legal_steps.specs.declared.event.Event.{Event}
use Rattle.legal_steps.specs.declared.event.Event.TheVariants.{Look, AskFork, GiveFork, Soil, AskBottles, GiveBottles, Thirst, Hunger, Sit, Leave, Drink, Reach, Act, Quit, Retire, Glance, Withdraw}
use Rattle.legal_steps.specs.State.{State, Seat, no_seat, seat, IsInSession}
use Rattle.legal_steps.specs.Legal.{May, after}
use Rattle.legal_steps.specs.Run.{IsLegalFrom, after_all, actor}
use Rattle.legal_steps.specs.Opening.{the_opening}
use Rattle.legal_steps.proofs.FitsLaw.{not_tranquil}
use Rattle.legal_steps.proofs.LogRun.{opening_phase}
use Rattle.legal_steps.proofs.ReachedLaws.{the_opening_is_acyclic}
use Rattle.turns.specs.Changes.{seat_after}
use Rattle.turns.specs.Locality.{RestsAtNoCommand}
use Rattle.turns.proofs.Frame.{own_seat, other_seat, as_many_seats}

-- the seat's job is in a session, or at no command
abbrev Rests : Seat → Type 0
Rests x = ¬ IsInSession x.phase.drinking → x.phase.position ≡ 0

module _ (plan : LabPlan) where
  rests_own : (s : State) (event : Event) → May plan s event → Rests (seat s (actor event)) → Rests (seat_after plan (seat s (actor event)) event)
  rests_own s (Look j e seen) may h = h
  rests_own s (AskFork j e) may h = h
  rests_own s (GiveFork j e) may h = h
  rests_own s (Soil j e) may h = h
  rests_own s (AskBottles j e set) may h = h
  rests_own s (GiveBottles j e set) may h = h
  rests_own s (Thirst j) may h = λ out. refl
  rests_own s (Hunger j) may h = h
  rests_own s (Sit j) may h = h
  rests_own s (Leave j) may h = h
  rests_own s (Drink j) may h = λ out. absurd (out (inr (inl refl)))
  rests_own s (Reach j) may h = λ out. absurd (out (inr (inr refl)))
  rests_own s (Act j) may h = λ out. absurd (out (inr (inl refl)))
  rests_own s (Quit j) may h = λ out. refl
  rests_own s (Retire j) may h = λ out. h (λ inside. not_tranquil (subst IsInSession may.2 inside))
  rests_own s (Glance j other seen) may h = h
  rests_own s (Withdraw j) may h = λ out. refl

  rests_after : (s : State) (event : Event) (j : ℕ) → May plan s event → Rests (seat s j) → Rests (seat (after plan s event) j)
  rests_after s event j may h = elim (cases_eq j (actor event)) [
    | inr other ↦ subst Rests (sym (other_seat plan s event j other)) h
    | inl same ↦ elim (cases_lt j (length (after plan s event).seats)) [
      | inr past ↦ subst Rests (sym (get_or_past (after plan s event).seats j no_seat past)) (λ out. refl)
      | inl inside ↦
          let there : actor event < length s.seats = subst (λ k. k < length s.seats) same (subst (λ n. j < n) (as_many_seats plan s event) inside) in
          let mine : Rests (seat s (actor event)) = subst (λ k. Rests (seat s k)) same h in
          subst (λ k. Rests (seat (after plan s event) k)) (sym same) (subst Rests (sym (own_seat plan s event there)) (rests_own s event may mine))
    ]
  ]

  rests_all : (s : State) (events : List Event) (j : ℕ) → IsLegalFrom plan s events → Rests (seat s j) → Rests (seat (after_all plan s events) j)
  rests_all s [] j legal h = h
  rests_all s (event ∷ events) j legal h = rests_all (after plan s event) events j legal.1 (rests_after s event j legal.0 h)

pub rests_at_no_command : RestsAtNoCommand
rests_at_no_command plan h j legal =
    rests_all plan (the_opening plan) h j legal (λ out. ap (λ x. x.position) (opening_phase plan (the_opening plan) j (the_opening_is_acyclic plan).0))
