-- The steps of legal events.
use Rattle.std.proofs.Common.{◌≡◌, zero, suc, List, [], ◌∷◌, map, refl, sym, ap, ◌∙◌, arith}
use Rattle.std.specs.List.{All}
use Rattle.lab_plan.specs.LabPlan.{LabPlan}
use Rattle.legal_steps.specs.declared.event.Event.{Event}
use Rattle.legal_steps.specs.declared.event.Event.TheVariants.{Look, AskFork, GiveFork, Soil, AskBottles, GiveBottles, Thirst, Hunger, Sit, Leave, Drink, Reach, Act, Quit, Retire, Glance, Withdraw}
use Rattle.legal_steps.specs.State.{State}
use Rattle.legal_steps.specs.Legal.{May, after}
use Rattle.legal_steps.specs.Steps.{event_of, step_events, IsStepOf}
use Rattle.legal_steps.proofs.FitsLaw.{own_is_job}
use Rattle.round_trace.specs.StepsOf.{step_of, StepsGiveEvents, StepsAreOfPlan}

module _ (plan : LabPlan) where
  same_event : (s : State) (x : Event) → May plan s x → event_of s (step_of x) ≡ x
  same_event s (Look j e seen) may = ap (Look j e) (sym may.1)
  same_event s (AskFork j e) may = refl
  same_event s (GiveFork j e) may = refl
  same_event s (Soil j e) may = refl
  same_event s (AskBottles j e set) may = refl
  same_event s (GiveBottles j e set) may = refl
  same_event s (Thirst j) may = refl
  same_event s (Hunger j) may = refl
  same_event s (Sit j) may = refl
  same_event s (Leave j) may = refl
  same_event s (Drink j) may = refl
  same_event s (Reach j) may = refl
  same_event s (Act j) may = refl
  same_event s (Quit j) may = refl
  same_event s (Retire j) may = refl
  same_event s (Glance j other seen) may = ap (Glance j other) (sym may.3)
  same_event s (Withdraw j) may = refl

  of_plan : (s : State) (x : Event) → May plan s x → IsStepOf plan (step_of x)
  of_plan s (Look j e seen) may = (own_is_job plan j e may.0, may.0.is_edge)
  of_plan s (AskFork j e) may = (own_is_job plan j e may.0, may.0.is_edge)
  of_plan s (GiveFork j e) may = (own_is_job plan j e may.0, may.0.is_edge)
  of_plan s (Soil j e) may = (own_is_job plan j e may.0, may.0.is_edge)
  of_plan s (AskBottles j e set) may = (own_is_job plan j e may.0, may.0.is_edge)
  of_plan s (GiveBottles j e set) may = (own_is_job plan j e may.0, may.0.is_edge)
  of_plan s (Thirst j) may = may.0
  of_plan s (Hunger j) may = may.0
  of_plan s (Sit j) may = may.0
  of_plan s (Leave j) may = may.0
  of_plan s (Drink j) may = may.0
  of_plan s (Reach j) may = may.0
  of_plan s (Act j) may = may.0
  of_plan s (Quit j) may = may.0
  of_plan s (Retire j) may = may.0
  of_plan s (Glance j other seen) may = (may.0, may.1)
  of_plan s (Withdraw j) may = may.0

pub steps_give_events : StepsGiveEvents
steps_give_events plan s [] legal = refl
steps_give_events plan s (x ∷ events) legal =
    let here = same_event plan s x legal.0 in
    (λ i. here i ∷ step_events plan (after plan s (here i)) (map step_of events)) ∙ ap (λ (l : List Event). x ∷ l) (steps_give_events plan
    (after plan s x) events legal.1)

all_cons : (P : Event → Type 0) (x : Event) (xs : List Event) → P x → All P xs → All P (x ∷ xs)
all_cons P x xs here all zero d inside = here
all_cons P x xs here all (suc k) d inside = all k d (omega (arith, inside))

pub steps_are_of_plan : StepsAreOfPlan
steps_are_of_plan plan s [] legal = λ k d inside. absurd (omega (arith, inside))
steps_are_of_plan plan s (x ∷ events) legal = all_cons (λ event. IsStepOf plan (step_of event)) x events (of_plan plan s x legal.0) (steps_are_of_plan plan
    (after plan s x) events legal.1)
