-- What each event does to the phase of its own job; no event changes another job's.
use Rattle.std.proofs.Common.{◌≡◌, ℕ, ◌+◌, sym, subst, ◌∙◌, inl, inr, refl, arith}
use Rattle.std.proofs.lemmas.Bool.{cases_eq}
use Rattle.lab_plan.specs.LabPlan.{LabPlan}
use Rattle.legal_steps.specs.declared.phase.Dining.TheVariants.{Thinking, Hungry, Eating}
use Rattle.legal_steps.specs.declared.phase.Drinking.TheVariants.{Tranquil, Thirsty, Drinking as Drinks, Reaching, Retired}
use Rattle.legal_steps.specs.declared.phase.JobState.{JobState}
use Rattle.legal_steps.specs.declared.event.Event.{Event}
use Rattle.legal_steps.specs.declared.event.Event.TheVariants.{Look, AskFork, GiveFork, Soil, AskBottles, GiveBottles, Thirst, Hunger, Sit, Leave, Drink, Reach, Act, Quit, Retire, Glance, Withdraw}
use Rattle.legal_steps.specs.State.{State, Seat, seat, phase}
use Rattle.legal_steps.specs.Fitting.{Fits}
use Rattle.legal_steps.specs.Legal.{May, after}
use Rattle.legal_steps.specs.Run.{actor}
use Rattle.legal_steps.proofs.LogBooks.{put, put-same, put-other}
use Rattle.legal_steps.proofs.LogMoves.{read-same, read-put}

-- its phase after the event
abbrev pub phased : Event → JobState → JobState
phased (Thirst j) x = record x { drinking = Thirsty; session = x.session + 1; position = 0 }
phased (Hunger j) x = record x { dining = Hungry }
phased (Sit j) x = record x { dining = Eating }
phased (Leave j) x = record x { dining = Thinking }
phased (Drink j) x = record x { drinking = Drinks }
phased (Reach j) x = record x { drinking = Reaching }
phased (Act j) x = record x { drinking = Drinks; position = x.position + 1 }
phased (Quit j) x = record x { drinking = Tranquil; position = 0 }
phased (Retire j) x = record x { drinking = Retired }
phased (Withdraw j) x = record x { drinking = Tranquil; position = 0 }
phased _ x = x

abbrev phase_in : Seat → JobState
phase_in x = x.phase

abbrev phases : State → ℕ → JobState
phases s j = phase s j

-- nothing of the job's phase changes
unchanged : (before now : ℕ → JobState) (j : ℕ) → ((k : ℕ) → now k ≡ before k) → (k : ℕ) → now k ≡ put before j (before j) k
unchanged before now j same k = elim (cases_eq k j) [
  | inl here ↦ same k ∙ subst (λ n. before n ≡ put before j (before j) n) (sym here) (sym (put-same before j (before j)))
  | inr other ↦ same k ∙ sym (put-other before j (before j) k other)
]

pub phases_after : (plan : LabPlan) (s : State) (event : Event) → Fits plan s → May plan s event → (k : ℕ)
    → phase (after plan s event) k ≡ put (λ n. phase s n) (actor event) (phased event (phase s (actor event))) k
phases_after plan s (Look j e seen) fit may = unchanged (phases s) (phases (after plan s (Look j e seen))) j (read-same phase_in s j _ refl)
phases_after plan s (AskFork j e) fit may = unchanged (phases s) (phases (after plan s (AskFork j e))) j (λ k. refl)
phases_after plan s (GiveFork j e) fit may = unchanged (phases s) (phases (after plan s (GiveFork j e))) j (read-same phase_in s j _ refl)
phases_after plan s (Soil j e) fit may = unchanged (phases s) (phases (after plan s (Soil j e))) j (read-same phase_in s j _ refl)
phases_after plan s (AskBottles j e set) fit may = unchanged (phases s) (phases (after plan s (AskBottles j e set))) j (λ k. refl)
phases_after plan s (GiveBottles j e set) fit may = unchanged (phases s) (phases (after plan s (GiveBottles j e set))) j (read-same phase_in s j _ refl)
phases_after plan s (Thirst j) fit may = read-put phase_in s j _ (omega (arith, may.0, fit.seats_there))
phases_after plan s (Hunger j) fit may = read-put phase_in s j _ (omega (arith, may.0, fit.seats_there))
phases_after plan s (Sit j) fit may = read-put phase_in s j _ (omega (arith, may.0, fit.seats_there))
phases_after plan s (Leave j) fit may = read-put phase_in s j _ (omega (arith, may.0, fit.seats_there))
phases_after plan s (Drink j) fit may = read-put phase_in s j _ (omega (arith, may.0, fit.seats_there))
phases_after plan s (Reach j) fit may = read-put phase_in s j _ (omega (arith, may.0, fit.seats_there))
phases_after plan s (Act j) fit may = read-put phase_in s j (record (seat s j) { phase = phased (Act j) (phase s j) }) (omega (arith, may.0, fit.seats_there))
phases_after plan s (Quit j) fit may = read-put phase_in s j _ (omega (arith, may.0, fit.seats_there))
phases_after plan s (Retire j) fit may = read-put phase_in s j _ (omega (arith, may.0, fit.seats_there))
phases_after plan s (Glance j other seen) fit may = unchanged (phases s) (phases (after plan s (Glance j other seen))) j (λ k. refl)
phases_after plan s (Withdraw j) fit may = read-put phase_in s j _ (omega (arith, may.0, fit.seats_there))
