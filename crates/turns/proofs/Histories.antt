-- What holds of the state after each history.
use Rattle.std.proofs.Common.{◌≡◌, ℕ, ◌<◌, List, length, ap, ◌∙◌}
use Rattle.lab_plan.specs.LabPlan.{LabPlan, edges, bottles, command_at}
use Rattle.lab_plan.specs.IsPlan.{IsPlan}
use Rattle.legal_steps.specs.declared.phase.JobState.{JobState}
use Rattle.legal_steps.specs.declared.event.Event.{Event}
use Rattle.legal_steps.specs.State.{State, edge, phase}
use Rattle.legal_steps.specs.Legal.{May, after}
use Rattle.legal_steps.specs.Opening.{the_opening}
use Rattle.legal_steps.specs.Fitting.{Fits}
use Rattle.legal_steps.specs.Holding.{IsExclusive}
use Rattle.legal_steps.proofs.ReachedInvariant.{IsSound, sound_opening, sound_after, sound_after_all}
use Rattle.legal_steps.proofs.ReachedLaws.{the_opening_is_acyclic}
use Rattle.legal_steps.proofs.ExclusionLaw.{exclusive}
use Rattle.edge_word.specs.Words.{IsOfBottles}
use Rattle.turns.specs.History.{IsHistory, state_after}
use Rattle.turns.specs.Reaching.{IsReachingFor}

pub sound_history : (plan : LabPlan) (h : List Event) → IsHistory plan h → IsSound plan (state_after plan h)
sound_history plan h legal = sound_after_all plan (the_opening plan) h (sound_opening plan (the_opening plan) (the_opening_is_acyclic plan).0) legal

pub history_fits : (plan : LabPlan) (h : List Event) → IsHistory plan h → Fits plan (state_after plan h)
history_fits plan h legal = (sound_history plan h legal).fits

-- the state after one more event
pub fits_more : (plan : LabPlan) (h : List Event) (event : Event) → IsHistory plan h
    → May plan (state_after plan h) event → Fits plan (after plan (state_after plan h) event)
fits_more plan h event legal may = (sound_after plan (state_after plan h) event (sound_history plan h legal) may).fits

pub history_exclusive : (plan : LabPlan) (h : List Event) → IsPlan plan → IsHistory plan h → IsExclusive plan (state_after plan h)
history_exclusive plan h is_plan legal = exclusive plan (state_after plan h) is_plan (sound_history plan h legal).served

-- an edge of a state that fits has bottles of its own alone
pub edge_fits : (plan : LabPlan) (s : State) (e : ℕ) → Fits plan s → e < length (edges plan) → IsOfBottles (length (bottles plan e)) (edge s e)
edge_fits plan s e fit inside = record { bottles_fit = fit.bottles_fit e inside; tokens_fit = fit.tokens_fit e inside }

module _ (p : LabPlan) where
  pub reaching_still : (w w' : State) (j i : ℕ) → phase w' j ≡ phase w j → IsReachingFor p w j i → IsReachingFor p w' j i
  reaching_still w w' j i same r = record {
    job = r.job;
    reaching = ap (λ (x : JobState). x.drinking) same ∙ r.reaching;
    next = ap (λ (x : JobState). (command_at p j x.session x.position).0) same ∙ r.next;
  }
