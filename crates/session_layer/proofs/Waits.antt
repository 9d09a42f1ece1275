-- Visits leave how far the job is, and what its desk counts: so the wait may be read after them.
use Rattle.std.proofs.Common.{◌≡◌, ℕ, Bool, true, false, if◌then◌else◌, List, [], ◌∷◌, length, refl, sym, ap, ◌∙◌, inl, inr, arith}
use Rattle.std.proofs.lemmas.Bool.{cases_lt}
use Rattle.std.proofs.lemmas.List.{get_or_past}
use Rattle.lab_plan.specs.LabPlan.{LabPlan}
use Rattle.legal_steps.specs.declared.edge_state.EdgeState.{EdgeState}
use Rattle.legal_steps.specs.declared.event.Event.TheVariants.{Look}
use Rattle.legal_steps.specs.State.{Seat, State, phase, drinking, no_seat}
use Rattle.edge_word.specs.declared.moves.EdgeMoves.{EdgeMoves}
use Rattle.edge_word.specs.Moves.{events_of}
use Rattle.turns.specs.History.{learned, learned_all}
use Rattle.turns.specs.Patience.{is_waiting, waited_in}
use Rattle.turns.specs.Turn.{Visit, visit_events, visits_events}
use Rattle.turns.proofs.Frame.{learned_seat, learned_seats}
use Rattle.turns.proofs.Groups.{moved_seat}
use Rattle.turns.proofs.Runs.{learned_all-append, learned_all_seats}
use Rattle.edge_rule.specs.DeskView.{DeskView, known, waited, waits}
use Rattle.session_layer.specs.Turn.{VisitsAll, Along}
use Rattle.session_layer.proofs.EventTurns.{known_then, visits_did}
use Rattle.session_layer.proofs.Turns.{visits_frame}

module _ (plan : LabPlan) (j : ℕ) where
  look_leaves : (s : State) (e : ℕ) (x : EdgeState) → phase (learned plan s (Look j e x)) j ≡ phase s j
  look_leaves s e x = elim (cases_lt j (length s.seats)) [
    | inl here ↦ ap (λ (y : Seat). y.phase) (learned_seat plan s (Look j e x) here)
    | inr past ↦ let n = learned_seats plan s (Look j e x) in
        ap (λ (y : Seat). y.phase) (get_or_past (learned plan s (Look j e x)).seats j no_seat (omega arith) ∙ sym (get_or_past s.seats j no_seat past))
  ]

  moves_leave : (s : State) (e : ℕ) (m : EdgeMoves) → phase (learned_all plan s (events_of m j e)) j ≡ phase s j
  moves_leave s e m = elim (cases_lt j (length s.seats)) [
    | inl here ↦ ap (λ (y : Seat). y.phase) (moved_seat plan j e m s here)
    | inr past ↦ let n = learned_all_seats plan s (events_of m j e) in
        ap (λ (y : Seat). y.phase) (get_or_past (learned_all plan s (events_of m j e)).seats j no_seat (omega arith) ∙ sym (get_or_past s.seats j no_seat past))
  ]

  tried_leave : (lost : Bool) (s : State) (e : ℕ) (m : EdgeMoves) → phase (learned_all plan s (if lost then [] else events_of m j e)) j ≡ phase s j
  tried_leave true s e m = refl
  tried_leave false s e m = moves_leave s e m

  visits_leave : (s : State) (vs : List Visit) → phase (learned_all plan s (visits_events j vs)) j ≡ phase s j
  visits_leave s [] = refl
  visits_leave s (v ∷ vs) = ap (λ (t : State). phase t j) (learned_all-append plan s (visit_events j v) (visits_events j vs))
      ∙ (visits_leave (learned_all plan s (visit_events j v)) vs
      ∙ (tried_leave v.lost (learned plan s (Look j v.edge v.saw)) v.edge v.moves ∙ look_leaves s v.edge v.saw))

clock_stays : (d : DeskView) (vs : List Visit) (d' : DeskView) → VisitsAll d vs d' → d'.clock ≡ d.clock
clock_stays d [] d' is = ap (λ (z : DeskView). z.clock) is
clock_stays d (v ∷ vs) d' (m, first, later) = clock_stays m vs d' later ∙ (visits_frame d v m first).clock

-- the wait, and whether the job is thirsty, are as before the visits
pub record IsAsWaiting (d m : DeskView) : Type 0 where
  pub waited_is : waited m ≡ waited d
  pub thirsty_is : is_waiting (drinking (known m) m.job) ≡ is_waiting (drinking (known d) d.job)

pub visits_wait : (d : DeskView) (es : List ℕ) (done lost : ℕ) (m : DeskView) → Along d es done lost m → IsAsWaiting d m
visits_wait d es done lost m a =
    let did = (visits_did d a.visits m a.all).0 in
    let same : phase (known m) m.job ≡ phase (known d) d.job =
    (λ i. phase (known_then d m (visits_events d.job a.visits) did i) (a.job i)) ∙ visits_leave d.plan d.job (known d) a.visits in
    record {
      waited_is = λ i. waited_in (waits (clock_stays d a.visits m a.all i)) (same i).session;
      thirsty_is = λ i. is_waiting (same i).drinking;
    }
