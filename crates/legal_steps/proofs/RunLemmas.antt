-- A run goes on by one event, and each beginning of a legal list is legal.
use Rattle.std.proofs.Common.{◌≡◌, ℕ, zero, suc, ◌+◌, ◌<◌, List, [], ◌∷◌, ◌++◌, length, take, slice_index_or, refl, sym, ap, ◌∙◌, subst}
use Rattle.std.proofs.lemmas.List.{take_more}
use Rattle.lab_plan.specs.LabPlan.{LabPlan}
use Rattle.legal_steps.specs.declared.event.Event.{Event}
use Rattle.legal_steps.specs.State.{State}
use Rattle.legal_steps.specs.Legal.{IsLegal, May, after}
use Rattle.legal_steps.specs.Run.{Runs, IsLegalFrom, after_all}

pub after_all_push : (plan : LabPlan) (s : State) (events : List Event) (event : Event)
    → after_all plan s (events ++ event ∷ []) ≡ after plan (after_all plan s events) event
after_all_push plan s [] event = refl
after_all_push plan s (e ∷ es) event = after_all_push plan (after plan s e) es event

pub legal_push : (plan : LabPlan) (s : State) (events : List Event) (event : Event) → IsLegalFrom plan s events
    → May plan (after_all plan s events) event → IsLegalFrom plan s (events ++ event ∷ [])
legal_push plan s [] event h may = (may, tt)
legal_push plan s (e ∷ es) event h may = (h.0, legal_push plan (after plan s e) es event h.1 may)

pub legal_take : (plan : LabPlan) (s : State) (events : List Event) (n : ℕ) → IsLegalFrom plan s events → IsLegalFrom plan s (take n events)
legal_take plan s events zero h = tt
legal_take plan s [] (suc n) h = tt
legal_take plan s (event ∷ events) (suc n) h = (h.0, legal_take plan (after plan s event) events n h.1)

pub runs_push : (plan : LabPlan) (s mid s' : State) (events : List Event) (event : Event)
    → Runs plan s events mid → IsLegal plan mid event s' → Runs plan s (events ++ event ∷ []) s'
runs_push plan s mid s' events event run step = record {
  legal = legal_push plan s events event run.legal (subst (λ x. May plan x event) run.leads step.may);
  leads = step.leads ∙ ap (λ x. after plan x event) run.leads ∙ sym (after_all_push plan s events event);
}

-- the run of a longer beginning of a list
pub runs_more : (plan : LabPlan) (s mid s' : State) (events : List Event) (n : ℕ) (event : Event) → n < length events
    → event ≡ slice_index_or events n event → Runs plan s (take n events) mid → IsLegal plan mid event s' → Runs plan s (take (n + 1) events) s'
runs_more plan s mid s' events n event inside is run step =
    let more : take (n + 1) events ≡ take n events ++ event ∷ [] =
    subst (λ x. take (n + 1) events ≡ take n events ++ x ∷ []) (sym is) (take_more events n event inside) in
    rw more (runs_push plan s mid s' (take n events) event run step)
