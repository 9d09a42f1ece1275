-- Who has retired has no session left.
use Rattle.std.proofs.Common.{◌≡◌, ℕ, ◌≤◌, List, [], ◌∷◌, length, sym, ap, ◌∙◌, subst, inl, inr, arith}
use Rattle.std.proofs.lemmas.Bool.{cases_eq}
use Rattle.std.proofs.lemmas.List.{get_or_past}
use Rattle.lab_plan.specs.LabPlan.{LabPlan, sessions}
use Rattle.legal_steps.specs.declared.event.Event.{Event}
use Rattle.legal_steps.specs.declared.event.Event.TheVariants.{Look, AskFork, GiveFork, Soil, AskBottles, GiveBottles, Thirst, Hunger, Sit, Leave, Drink, Reach, Act, Quit, Retire, Glance, Withdraw}
use Rattle.legal_steps.specs.declared.phase.JobState.{JobState}
use Rattle.legal_steps.specs.declared.phase.Drinking.TheVariants.{Tranquil, Retired}
use Rattle.legal_steps.specs.State.{State, Seat, no_seat, seat, phase, drinking, session}
use Rattle.legal_steps.specs.Legal.{May, after}
use Rattle.legal_steps.specs.Run.{IsLegalFrom, after_all, actor}
use Rattle.legal_steps.proofs.LogRun.{opening_phase}
use Rattle.interleaving.specs.World.{WorldView, IsReachedWith}
use Rattle.turns.specs.Changes.{seat_after}
use Rattle.turns.proofs.Frame.{as_many_seats, own_seat, other_seat}
use Rattle.live_lab.proofs.Frames.{below_or}

abbrev HasNone : LabPlan → ℕ → JobState → Type 0
HasNone plan j p = p.drinking ≡ Retired → length (sessions plan j) ≤ p.session

none_own : (plan : LabPlan) (s : State) (event : Event) → May plan s event → HasNone plan (actor event) (phase s (actor event))
    → HasNone plan (actor event) (seat_after plan (seat s (actor event)) event).phase
none_own plan s (Look j e seen) may h = h
none_own plan s (AskFork j e) may h = h
none_own plan s (GiveFork j e) may h = h
none_own plan s (Soil j e) may h = h
none_own plan s (AskBottles j e set) may h = h
none_own plan s (GiveBottles j e set) may h = h
none_own plan s (Thirst j) may h = λ is. absurd (cc)
none_own plan s (Hunger j) may h = h
none_own plan s (Sit j) may h = h
none_own plan s (Leave j) may h = h
none_own plan s (Drink j) may h = λ is. absurd (cc)
none_own plan s (Reach j) may h = λ is. absurd (cc)
none_own plan s (Act j) may h = λ is. absurd (cc)
none_own plan s (Quit j) may h = λ is. absurd (cc)
none_own plan s (Retire j) may h = λ is. may.3
none_own plan s (Glance j other seen) may h = h
none_own plan s (Withdraw j) may h = λ is. absurd (cc)

none_actor : (plan : LabPlan) (s : State) (event : Event) → May plan s event → HasNone plan (actor event) (phase s (actor event))
    → HasNone plan (actor event) (phase (after plan s event) (actor event))
none_actor plan s event may h = elim (below_or (actor event) (length s.seats)) [
  | inl there ↦ subst (λ (x : Seat). HasNone plan (actor event) x.phase) (sym (own_seat plan s event there)) (none_own plan s event may h)
  | inr past ↦ subst (λ (x : Seat). HasNone plan (actor event) x.phase)
      (get_or_past s.seats (actor event) no_seat past
      ∙ sym (get_or_past (after plan s event).seats (actor event) no_seat (omega (arith, past, as_many_seats plan s event)))) h
]

none_one : (plan : LabPlan) (s : State) (event : Event) (j : ℕ) → May plan s event → HasNone plan j (phase s j) → HasNone plan j (phase (after plan s event) j)
none_one plan s event j may h = elim (cases_eq j (actor event)) [
  | inl same ↦ subst (λ k. HasNone plan k (phase (after plan s event) k)) (sym same)
      (none_actor plan s event may (subst (λ k. HasNone plan k (phase s k)) same h))
  | inr other ↦ subst (λ (x : Seat). HasNone plan j x.phase) (sym (other_seat plan s event j other)) h
]

none_all : (plan : LabPlan) (s : State) (events : List Event) (j : ℕ) → IsLegalFrom plan s events → HasNone plan j (phase s j)
    → HasNone plan j (phase (after_all plan s events) j)
none_all plan s [] j legal h = h
none_all plan s (event ∷ events) j legal h = none_all plan (after plan s event) events j legal.1 (none_one plan s event j legal.0 h)

idle_first : (plan : LabPlan) (j : ℕ) (p : JobState) → p.drinking ≡ Tranquil → HasNone plan j p
idle_first plan j p is h = absurd (cc)

pub retired_has_none : (w : WorldView) → IsReachedWith w.plan w.state w.counts → (j : ℕ) → drinking w.state j ≡ Retired → length (sessions w.plan j) ≤ session w.state j
retired_has_none w r j =
    let x = r.reached in
    let start : HasNone w.plan j (phase x.opening j) = idle_first w.plan j (phase x.opening j)
    (ap (λ (p : JobState). p.drinking) (opening_phase w.plan x.opening j x.is_opening)) in
    subst (λ (s : State). HasNone w.plan j (phase s j)) (sym x.run.leads) (none_all w.plan x.opening x.events j x.run.legal start)
