-- A look changes nothing of what is due at its edge.
use Rattle.std.proofs.Common.{◌≡◌, ℕ, [], ◌∷◌, refl, sym, ◌∙◌, subst}
use Rattle.lab_plan.specs.LabPlan.{LabPlan}
use Rattle.legal_steps.specs.declared.edge_state.EdgeState.{EdgeState}
use Rattle.legal_steps.specs.declared.event.Event.TheVariants.{Look}
use Rattle.legal_steps.specs.declared.phase.JobState.{JobState}
use Rattle.legal_steps.specs.State.{State, IsOwn, edge, end_of, phase}
use Rattle.legal_steps.specs.Legal.{after}
use Rattle.legal_steps.specs.Fitting.{Fits}
use Rattle.legal_steps.specs.Run.{IsLegalFrom}
use Rattle.legal_steps.proofs.ReachedInvariant.{IsSound, sound_after_all}
use Rattle.interleaving.specs.World.{WorldView, LeadsTo, IsReachedWith}
use Rattle.settling.proofs.Worlds.{reached_sound}
use Rattle.edge_word.specs.declared.moves.EdgeMoves.{EdgeMoves}
use Rattle.edge_word.specs.Moves.{events_of}
use Rattle.turns.specs.Due.{AreDue}
use Rattle.dining_layer.specs.Turned.{turned}
use Rattle.settling.specs.Visiting.{AreDueBy}
use Rattle.settling.proofs.DueThere.{seat_there, legal_there}
use Rattle.settling.proofs.Local.{near_all}

module _ (plan : LabPlan) (s : State) (j e : ℕ) (sound : IsSound plan s) (own : IsOwn plan j e) where
  abbrev u : State
  u = after plan s (Look j e (edge s e))

  fits_still : Fits plan u
  fits_still = (sound_after_all plan s (Look j e (edge s e) ∷ []) sound ((own, refl), tt)).fits

  phase_still : phase u j ≡ phase s j
  phase_still = (near_all plan j e s (Look j e (edge s e) ∷ []) ((refl, refl), tt) (seat_there plan s j e sound.fits own)).phase

  pub due_still : (ph : JobState) (mine : EdgeState) (m : EdgeMoves) → AreDueBy plan j ph e mine m → phase s j ≡ ph →
      turned plan e (end_of plan j e) (edge s e) ≡ mine → AreDue plan u j e m
  due_still ph mine m due so seen = due u fits_still (phase_still ∙ so) seen

  pub legal_still : (m : EdgeMoves) → AreDue plan u j e m → IsLegalFrom plan u (events_of m j e)
  legal_still m due = legal_there plan u j e fits_still own m due

-- the same by what was reckoned before the look
pub due_in : (w : WorldView) (j e : ℕ) (p : LabPlan) (ph : JobState) (mine : EdgeState) (m : EdgeMoves) → IsReachedWith w.plan w.state w.counts → IsOwn w.plan j e →
    p ≡ w.plan → AreDueBy p j ph e mine m → ph ≡ phase w.state j → mine ≡ turned w.plan e (end_of w.plan j e) (edge w.state e) →
    AreDue w.plan (after w.plan w.state (Look j e (edge w.state e))) j e m
due_in w j e p ph mine m reached own same due so seen =
    due_still w.plan w.state j e (reached_sound w reached) own ph mine m (subst (λ (q : LabPlan). AreDueBy q j ph e mine m) same due) (sym so) (sym seen)

pub legal_in : (w mid : WorldView) (j e : ℕ) (m : EdgeMoves) → IsReachedWith w.plan w.state w.counts → IsOwn w.plan j e →
    LeadsTo w (Look j e (edge w.state e) ∷ []) mid → AreDue w.plan (after w.plan w.state (Look j e (edge w.state e))) j e m →
    IsLegalFrom mid.plan mid.state (events_of m j e)
legal_in w mid j e m reached own looked due = subst (λ (z : LabPlan × State). IsLegalFrom z.0 z.1 (events_of m j e))
    (λ i. (sym looked.same_plan i, sym looked.run.leads i)) (legal_still w.plan w.state j e (reached_sound w reached) own m due)
