-- A retired job stays retired.
use Rattle.std.proofs.Common.{◌≡◌, ℕ, ◌<◌, List, [], ◌∷◌, length, refl, sym, ap, ◌∙◌, subst, inl, inr}
use Rattle.std.proofs.lemmas.Bool.{cases_eq, cases_lt}
use Rattle.std.proofs.lemmas.List.{get_or_past}
use Rattle.lab_plan.specs.LabPlan.{LabPlan}
use Rattle.legal_steps.specs.declared.phase.Drinking.TheVariants.{Tranquil, Thirsty, Drinking as Drinks, Reaching, Retired}
use Rattle.legal_steps.specs.declared.event.Event.{Event}
use Rattle.legal_steps.specs.declared.event.Event.TheVariants.{Look, AskFork, GiveFork, Soil, AskBottles, GiveBottles, Thirst, Hunger}
use Rattle.legal_steps.specs.declared.event.Event.TheVariants.{Sit, Leave, Drink, Reach, Act, Quit, Retire, Glance, Withdraw}
use Rattle.legal_steps.specs.State.{Seat, State, no_seat, drinking}
use Rattle.legal_steps.specs.Legal.{May, after, with_seat}
use Rattle.legal_steps.specs.Run.{IsLegalFrom, after_all}
use Rattle.legal_steps.proofs.FitsWrites.{seat_same, seat_other}

-- who is retired has a seat
inside : (s : State) (j : ℕ) → drinking s j ≡ Retired → j < length s.seats
inside s j is = elim (cases_lt j (length s.seats)) [
  | inl there ↦ there
  | inr past ↦ (let both : Tranquil ≡ Retired = sym (ap (λ (x : Seat). x.phase.drinking) (get_or_past s.seats j no_seat past)) ∙ is in absurd (cc))
]

-- a seat that is replaced by one that is retired if it was
still : (s : State) (k : ℕ) (x : Seat) (j : ℕ) → (drinking s k ≡ Retired → x.phase.drinking ≡ Retired)
    → drinking s j ≡ Retired → drinking (with_seat s k x) j ≡ Retired
still s k x j keeps is = elim (cases_eq j k) [
  | inl same ↦
      let mine : drinking s k ≡ Retired = subst (λ n. drinking s n ≡ Retired) same is in
      subst (λ n. drinking (with_seat s k x) n ≡ Retired) (sym same)
      (ap (λ (y : Seat). y.phase.drinking) (seat_same s k x (inside s k mine)) ∙ keeps mine)
  | inr other ↦ ap (λ (y : Seat). y.phase.drinking) (seat_other s k x j other) ∙ is
]

-- one event of any job
pub retired_after : (plan : LabPlan) (s : State) (event : Event) (j : ℕ) → May plan s event → drinking s j ≡ Retired → drinking (after plan s event) j ≡ Retired
retired_after plan s (Look k e seen) j may is = still s k _ j (λ r. r) is
retired_after plan s (AskFork k e) j may is = is
retired_after plan s (GiveFork k e) j may is = still s k _ j (λ r. r) is
retired_after plan s (Soil k e) j may is = still s k _ j (λ r. r) is
retired_after plan s (AskBottles k e set) j may is = is
retired_after plan s (GiveBottles k e set) j may is = still s k _ j (λ r. r) is
retired_after plan s (Thirst k) j may is = still s k _ j (λ r. let both : Tranquil ≡ Retired = sym may.1 ∙ r in absurd (cc)) is
retired_after plan s (Hunger k) j may is = still s k _ j (λ r. r) is
retired_after plan s (Sit k) j may is = still s k _ j (λ r. r) is
retired_after plan s (Leave k) j may is = still s k _ j (λ r. r) is
retired_after plan s (Drink k) j may is = still s k _ j (λ r. let both : Thirsty ≡ Retired = sym may.1 ∙ r in absurd (cc)) is
retired_after plan s (Reach k) j may is = still s k _ j (λ r. let both : Drinks ≡ Retired = sym may.1 ∙ r in absurd (cc)) is
retired_after plan s (Act k) j may is = still s k _ j (λ r. let both : Reaching ≡ Retired = sym may.1 ∙ r in absurd (cc)) is
retired_after plan s (Quit k) j may is = still s k _ j (λ r. let both : Drinks ≡ Retired = sym may.1 ∙ r in absurd (cc)) is
retired_after plan s (Retire k) j may is = still s k _ j (λ r. refl) is
retired_after plan s (Glance k other seen) j may is = is
retired_after plan s (Withdraw k) j may is = still s k _ j (λ r. let both : Thirsty ≡ Retired = sym may.1 ∙ r in absurd (cc)) is

-- a legal list
pub retired_stays : (plan : LabPlan) (s : State) (events : List Event) (j : ℕ) → IsLegalFrom plan s events
    → drinking s j ≡ Retired → drinking (after_all plan s events) j ≡ Retired
retired_stays plan s [] j legal is = is
retired_stays plan s (event ∷ events) j legal is = retired_stays plan (after plan s event) events j legal.1 (retired_after plan s event j legal.0 is)
