-- Who knows the state itself learns nothing else by legal events.
use Rattle.std.proofs.Common.{◌≡◌, ℕ, List, [], ◌∷◌, refl, ap, ◌∙◌}
use Rattle.std.proofs.lemmas.List.{set-get_or}
use Rattle.lab_plan.specs.LabPlan.{LabPlan}
use Rattle.legal_steps.specs.declared.edge_state.EdgeState.{EdgeState}
use Rattle.legal_steps.specs.declared.event.Event.{Event}
use Rattle.legal_steps.specs.declared.event.Event.TheVariants.{Look, AskFork, GiveFork, Soil, AskBottles, GiveBottles, Thirst, Hunger, Sit, Leave, Drink, Reach, Act, Quit, Retire, Glance, Withdraw}
use Rattle.legal_steps.specs.State.{State, edge, no_edge}
use Rattle.legal_steps.specs.Legal.{May, after, with_edge}
use Rattle.legal_steps.specs.Run.{IsLegalFrom, after_all}
use Rattle.turns.specs.History.{learned, learned_all}

with_self : (s : State) (e : ℕ) → with_edge s e (edge s e) ≡ s
with_self s e = ap (λ (l : List EdgeState). record s { edges = l }) (set-get_or s.edges e no_edge)

module _ (plan : LabPlan) where
  pub looked : (s : State) (j e : ℕ) (seen : EdgeState) → seen ≡ edge s e → learned plan s (Look j e seen) ≡ after plan s (Look j e seen)
  looked s j e seen is = ap (λ (z : State). after plan z (Look j e seen)) (ap (with_edge s e) is ∙ with_self s e)

  learned_legal : (s : State) (x : Event) → May plan s x → learned plan s x ≡ after plan s x
  learned_legal s (Look j e seen) may = looked s j e seen may.1
  learned_legal s (AskFork j e) may = refl
  learned_legal s (GiveFork j e) may = refl
  learned_legal s (Soil j e) may = refl
  learned_legal s (AskBottles j e set) may = refl
  learned_legal s (GiveBottles j e set) may = refl
  learned_legal s (Thirst j) may = refl
  learned_legal s (Hunger j) may = refl
  learned_legal s (Sit j) may = refl
  learned_legal s (Leave j) may = refl
  learned_legal s (Drink j) may = refl
  learned_legal s (Reach j) may = refl
  learned_legal s (Act j) may = refl
  learned_legal s (Quit j) may = refl
  learned_legal s (Retire j) may = refl
  learned_legal s (Glance j other seen) may = refl
  learned_legal s (Withdraw j) may = refl

  pub learned_all_legal : (s : State) (events : List Event) → IsLegalFrom plan s events → learned_all plan s events ≡ after_all plan s events
  learned_all_legal s [] legal = refl
  learned_all_legal s (x ∷ events) legal = ap (λ (z : State). learned_all plan z events) (learned_legal s x legal.0) ∙
      learned_all_legal (after plan s x) events legal.1
