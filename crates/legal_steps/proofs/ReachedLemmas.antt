-- A reached state stays reached by a legal event, and what holds in each.
use Rattle.std.proofs.Common.{[], ◌∷◌, ◌++◌, refl, sym, subst}
use Rattle.lab_plan.specs.LabPlan.{LabPlan}
use Rattle.lab_plan.specs.IsPlan.{IsPlan}
use Rattle.legal_steps.specs.declared.event.Event.{Event}
use Rattle.legal_steps.specs.State.{State}
use Rattle.legal_steps.specs.Fitting.{Fits}
use Rattle.legal_steps.specs.Legal.{IsLegal}
use Rattle.legal_steps.specs.Opening.{IsOpening}
use Rattle.legal_steps.specs.Precedence.{IsAcyclic}
use Rattle.legal_steps.specs.Reached.{IsReached}
use Rattle.legal_steps.proofs.RunLemmas.{runs_push}
use Rattle.legal_steps.proofs.ReachedInvariant.{IsSound, sound_opening, sound_after_all, acyclic_after_all}

abbrev pub reached_opening : (plan : LabPlan) (s : State) → IsPlan plan → IsOpening plan s → IsAcyclic plan s → IsReached plan s
reached_opening plan s is_plan opens acyclic = record {
  is_plan = is_plan;
  opening = s;
  is_opening = opens;
  acyclic = acyclic;
  events = [];
  run = record { legal = tt; leads = refl };
}

abbrev pub reached_legal : (plan : LabPlan) (s : State) (event : Event) (s' : State) → IsReached plan s → IsLegal plan s event s' → IsReached plan s'
reached_legal plan s event s' h step = record {
  is_plan = h.is_plan;
  opening = h.opening;
  is_opening = h.is_opening;
  acyclic = h.acyclic;
  events = h.events ++ event ∷ [];
  run = runs_push plan h.opening s s' h.events event h.run step;
}

pub reached_sound : (plan : LabPlan) (s : State) → IsReached plan s → IsSound plan s
reached_sound plan s h =
    subst (IsSound plan) (sym h.run.leads) (sound_after_all plan h.opening h.events (sound_opening plan h.opening h.is_opening) h.run.legal)

pub reached_fits : (plan : LabPlan) (s : State) → IsReached plan s → Fits plan s
reached_fits plan s h = (reached_sound plan s h).fits

pub reached_acyclic : (plan : LabPlan) (s : State) → IsReached plan s → IsAcyclic plan s
reached_acyclic plan s h =
    subst (IsAcyclic plan) (sym h.run.leads) (acyclic_after_all plan h.opening h.events (sound_opening plan h.opening h.is_opening) h.acyclic h.run.legal)
