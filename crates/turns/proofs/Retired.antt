-- A retired job stays retired.
use Rattle.std.proofs.Common.{◌≡◌, ℕ, ◌<◌, List, [], ◌∷◌, ◌++◌, length, refl, sym, ap, ◌∙◌, subst, inl, inr}
use Rattle.std.proofs.lemmas.Bool.{cases_eq, cases_lt}
use Rattle.std.proofs.lemmas.List.{get_or_past}
use Rattle.lab_plan.specs.LabPlan.{LabPlan}
use Rattle.legal_steps.specs.declared.phase.Drinking.TheVariants.{Tranquil, Thirsty, Drinking as Drinks, Reaching, Retired}
use Rattle.legal_steps.specs.declared.event.Event.{Event}
use Rattle.legal_steps.specs.declared.event.Event.TheVariants.{Look, AskFork, GiveFork, Soil, AskBottles, GiveBottles, Thirst, Hunger, Sit, Leave, Drink, Reach, Act, Quit, Retire, Glance, Withdraw}
use Rattle.legal_steps.specs.State.{State, Seat, no_seat, seat, drinking}
use Rattle.legal_steps.specs.Legal.{May, after}
use Rattle.legal_steps.specs.Run.{IsLegalFrom, after_all, actor}
use Rattle.legal_steps.specs.Opening.{the_opening}
use Rattle.turns.specs.History.{IsHistory, state_after}
use Rattle.turns.specs.Changes.{seat_after}
use Rattle.turns.specs.Locality.{StaysRetired}
use Rattle.turns.proofs.Frame.{own_seat, other_seat}
use Rattle.turns.proofs.Runs.{after_all-append, legal-goes_on}

module _ (plan : LabPlan) where
  -- its own events leave it so: what they ask for, a retired job never is, but for looks, groups, meals and glances
  retired_own : (s : State) (event : Event) → May plan s event → drinking s (actor event) ≡ Retired
      → (seat_after plan (seat s (actor event)) event).phase.drinking ≡ Retired
  retired_own s (Look j e seen) may is = is
  retired_own s (AskFork j e) may is = is
  retired_own s (GiveFork j e) may is = is
  retired_own s (Soil j e) may is = is
  retired_own s (AskBottles j e set) may is = is
  retired_own s (GiveBottles j e set) may is = is
  retired_own s (Thirst j) may is = let both : Tranquil ≡ Retired = sym may.1 ∙ is in absurd (cc)
  retired_own s (Hunger j) may is = is
  retired_own s (Sit j) may is = is
  retired_own s (Leave j) may is = is
  retired_own s (Drink j) may is = let both : Thirsty ≡ Retired = sym may.1 ∙ is in absurd (cc)
  retired_own s (Reach j) may is = let both : Drinks ≡ Retired = sym may.1 ∙ is in absurd (cc)
  retired_own s (Act j) may is = let both : Reaching ≡ Retired = sym may.1 ∙ is in absurd (cc)
  retired_own s (Quit j) may is = let both : Drinks ≡ Retired = sym may.1 ∙ is in absurd (cc)
  retired_own s (Retire j) may is = refl
  retired_own s (Glance j other seen) may is = is
  retired_own s (Withdraw j) may is = let both : Thirsty ≡ Retired = sym may.1 ∙ is in absurd (cc)

  -- who is retired has a seat
  retired_inside : (s : State) (j : ℕ) → drinking s j ≡ Retired → j < length s.seats
  retired_inside s j is = elim (cases_lt j (length s.seats)) [
    | inl inside ↦ inside
    | inr past ↦ (let both : Tranquil ≡ Retired = sym (ap (λ (x : Seat). x.phase.drinking) (get_or_past s.seats j no_seat past)) ∙ is in absurd (cc))
  ]

  -- one event of any job
  pub retired_after : (s : State) (event : Event) (j : ℕ) → May plan s event → drinking s j ≡ Retired → drinking (after plan s event) j ≡ Retired
  retired_after s event j may is = elim (cases_eq j (actor event)) [
    | inl same ↦
        let mine : drinking s (actor event) ≡ Retired = subst (λ k. drinking s k ≡ Retired) same is in
        subst (λ k. drinking (after plan s event) k ≡ Retired) (sym same)
        (ap (λ (x : Seat). x.phase.drinking) (own_seat plan s event (retired_inside s (actor event) mine)) ∙ retired_own s event may mine)
    | inr other ↦ ap (λ (x : Seat). x.phase.drinking) (other_seat plan s event j other) ∙ is
  ]

  -- a legal list
  pub retired_stays : (s : State) (events : List Event) (j : ℕ) → IsLegalFrom plan s events
      → drinking s j ≡ Retired → drinking (after_all plan s events) j ≡ Retired
  retired_stays s [] j legal is = is
  retired_stays s (event ∷ events) j legal is = retired_stays (after plan s event) events j legal.1 (retired_after s event j legal.0 is)

  -- who is retired after a history is so after each longer one
  pub retired_on : (j : ℕ) (h more : List Event) → IsHistory plan (h ++ more)
      → drinking (state_after plan h) j ≡ Retired → drinking (state_after plan (h ++ more)) j ≡ Retired
  retired_on j h more legal is =
      ap (λ (s : State). drinking s j) (after_all-append plan (the_opening plan) h more)
      ∙ retired_stays (state_after plan h) more j (legal-goes_on plan (the_opening plan) h more legal) is

pub stays_retired : StaysRetired
stays_retired plan s events j legal is = retired_stays plan s events j legal is
