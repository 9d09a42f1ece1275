-- Visits of edges by one who knows the state.
use Rattle.std.proofs.Common.{◌≡◌, ◌↔◌, ℕ, zero, suc, ◌+◌, Bool, true, false, not, ◌==◌, ◌&&◌, if◌then◌else◌, List, [], ◌∷◌, ◌++◌, map, get_or, set, refl, sym, ap, ◌∙◌, subst, append_assoc, append-nil, arith}
use Rattle.lab_plan.specs.LabPlan.{LabPlan}
use Rattle.legal_steps.specs.declared.edge_state.EdgeState.{EdgeState}
use Rattle.legal_steps.specs.declared.phase.JobState.{JobState}
use Rattle.legal_steps.specs.declared.phase.Drinking.TheVariants.{Thirsty}
use Rattle.legal_steps.specs.declared.event.Event.{Event}
use Rattle.legal_steps.specs.declared.event.Event.TheVariants.{Look, AskFork, GiveFork, Soil, AskBottles, GiveBottles}
use Rattle.legal_steps.specs.State.{State, Seat, IsOwn, edge, phase, drinking, no_seat}
use Rattle.legal_steps.specs.Legal.{May, after, MayAskBottle, MayGiveBottle}
use Rattle.interleaving.specs.World.{WorldView}
use Rattle.edge_word.specs.declared.moves.EdgeMoves.{EdgeMoves}
use Rattle.edge_word.specs.Moves.{on, events_of, is_nothing}
use Rattle.turns.specs.History.{learned_all}
use Rattle.turns.proofs.Runs.{learned_all-append}
use Rattle.turns.specs.Due.{after_if, AreDue, IsGreatest, fork_gone, bottles_gone, fork_asked_for, all_asked_for}
use Rattle.turns.specs.Turn.{Visit, count, is_lost, visit_events, visits_events, AreVisits}
use Rattle.round_trace.specs.Doing.{Tries, MovesAll, Does, VisitsEdges}
use Rattle.round_trace.proofs.Learned.{looked, learned_all_legal}
use Rattle.round_trace.proofs.Doing.{does_none, first_then, does_both}

-- the world has this plan and is in this state
record At (plan : LabPlan) (s : State) (w : WorldView) : Type 0 where
  plan_is : w.plan ≡ plan
  state_is : w.state ≡ s

at_next : (plan : LabPlan) (s : State) (w w' : WorldView) (l l' : List Event) (x : Event) (done : Bool) → At plan s w → Tries w l x done w' l' →
    At plan (after_if plan done x s) w'
at_next plan s w w' l l' x done a t = record { plan_is = t.same_plan ∙ a.plan_is; state_is = t.leads ∙ (λ i. after_if (a.plan_is i) done x (a.state_is i)) }

at_legal : (plan : LabPlan) (s : State) (w w' : WorldView) (l l' : List Event) (x : Event) (done : Bool) → At plan s w → Tries w l x done w' l' →
    (done ≡ true) ↔ May plan s x
at_legal plan s w w' l l' x done a t = subst (λ (z : LabPlan × State). (done ≡ true) ↔ May z.0 z.1 x) (λ i. (a.plan_is i, a.state_is i)) t.legal

-- moves on an edge leave the job's phase
phase_set : (l : List Seat) (k : ℕ) (y d : Seat) → y.phase ≡ (get_or l k d).phase → (get_or (set l k y) k d).phase ≡ (get_or l k d).phase
phase_set [] k y d is = refl
phase_set (x ∷ l) zero y d is = is
phase_set (x ∷ l) (suc k) y d is = phase_set l k y d is

module _ (plan : LabPlan) (j e : ℕ) where
  give_fork_stays : (b : Bool) (s : State) → phase (after_if plan b (GiveFork j e) s) j ≡ phase s j
  give_fork_stays false s = refl
  give_fork_stays true s = phase_set s.seats j _ no_seat refl

  give_bottles_stays : (b : Bool) (set : ℕ) (s : State) → phase (after_if plan b (GiveBottles j e set) s) j ≡ phase s j
  give_bottles_stays false set s = refl
  give_bottles_stays true set s = phase_set s.seats j _ no_seat refl

  ask_fork_stays : (b : Bool) (s : State) → phase (after_if plan b (AskFork j e) s) j ≡ phase s j
  ask_fork_stays false s = refl
  ask_fork_stays true s = refl

  pub drinks_still : (s : State) (m : EdgeMoves) → drinking (fork_asked_for plan s j e m) j ≡ drinking s j
  drinks_still s m = ap (λ (x : JobState). x.drinking)
      (ask_fork_stays m.ask_fork (bottles_gone plan s j e m) ∙ (give_bottles_stays (not (m.give_bottles == 0)) m.give_bottles (fork_gone plan s j e m) ∙
      give_fork_stays m.give_fork s))

-- the same set for what is said otherwise
greatest_as : (plan : LabPlan) (e n : ℕ) (P Q : ℕ → Type 0) → ((k : ℕ) → P k ↔ Q k) → IsGreatest plan e n P → IsGreatest plan e n Q
greatest_as plan e n P Q same g = record {
  of_edge = g.of_edge;
  just = λ k inside. (
    λ has. (same k).0 ((g.just k inside).0 has),
    λ q. (g.just k inside).1
        ((same k).1 q),
  );
}

none_of : (b : Bool) → (if b && false then 1 else 0) + 0 ≡ 0
none_of true = refl
none_of false = refl

module _ (j e : ℕ) where
  -- what may be asked for, and what may be given
  abbrev pub wishes : WorldView → ℕ → Type 0
  wishes w k = (drinking w.state j ≡ Thirsty) × MayAskBottle w.plan w.state j e k

  abbrev pub gifts : WorldView → ℕ → Type 0
  gifts w = MayGiveBottle w.plan w.state j e

  module _ (w0 w1 w2 w3 w4 w5 w6 : WorldView) (l0 l1 l2 l3 l4 l5 l6 : List Event) (looks gave asked soiled : Bool) (given wanted : ℕ) (own : IsOwn w0.plan j e)
      (t1 : Tries w0 l0 (Look j e (edge w0.state e)) looks w1 l1) (t2 : Tries w1 l1 (GiveFork j e) gave w2 l2) (t3 : MovesAll (gifts w2)
      (λ set. GiveBottles j e set) e w2 l2 given w3 l3)
      (t4 : Tries w3 l3 (AskFork j e) asked w4 l4) (t5 : MovesAll (wishes w4) (λ set. AskBottles j e set) e w4 l4 wanted w5 l5) (t6 : Tries w5 l5
      (Soil j e) soiled w6 l6) where
    abbrev saw : EdgeState
    saw = edge w0.state e

    abbrev moves : EdgeMoves
    moves = record { give_fork = gave; give_bottles = given; ask_fork = asked; ask_bottles = wanted; soil = soiled }

    abbrev one : Visit
    one = record { edge = e; saw = saw; moves = moves; lost = false }

    does : Does w0 l0 (on looks (Look j e saw) (events_of moves j e)) w6 l6
    does =
        let d6 = first_then w5 w6 w6 l5 l6 l6 (Soil j e) soiled [] t6 (does_none w6 l6) in
        let d5 = first_then w4 w5 w6 l4 l5 l6 (AskBottles j e wanted) (not (wanted == 0)) _ t5.tries d6 in
        let d4 = first_then w3 w4 w6 l3 l4 l6 (AskFork j e) asked _ t4 d5 in
        let d3 = first_then w2 w3 w6 l2 l3 l6 (GiveBottles j e given) (not (given == 0)) _ t3.tries d4 in
        let d2 = first_then w1 w2 w6 l1 l2 l6 (GiveFork j e) gave _ t2 d3 in
        first_then w0 w1 w6 l0 l1 l6 (Look j e saw) looks (events_of moves j e) t1 d2

    looked_is : looks ≡ true
    looked_is = t1.legal.1 (own, refl)

    due : AreDue w0.plan (after w0.plan w0.state (Look j e saw)) j e moves
    due =
        let p : LabPlan = w0.plan in
        let s : State = after p w0.state (Look j e saw) in
        let a1 : At p s w1 = record { plan_is = t1.same_plan; state_is = t1.leads ∙ ap (λ (b : Bool). after_if p b (Look j e saw) w0.state) looked_is } in
        let a2 : At p (fork_gone p s j e moves) w2 = at_next p s w1 w2 l1 l2 (GiveFork j e) gave a1 t2 in
        let a3 : At p (bottles_gone p s j e moves) w3 = at_next p _ w2 w3 l2 l3 (GiveBottles j e given) (not (given == 0)) a2 t3.tries in
        let a4 : At p (fork_asked_for p s j e moves) w4 = at_next p _ w3 w4 l3 l4 (AskFork j e) asked a3 t4 in
        let a5 : At p (all_asked_for p s j e moves) w5 = at_next p _ w4 w5 l4 l5 (AskBottles j e wanted) (not (wanted == 0)) a4 t5.tries in
        record {
          forks = record {
            give_fork = at_legal p s w1 w2 l1 l2 (GiveFork j e) gave a1 t2;
            ask_fork = at_legal p _ w3 w4 l3 l4 (AskFork j e) asked a3 t4;
            soil = at_legal p _ w5 w6 l5 l6 (Soil j e) soiled a5 t6;
          };
          bottles = record {
            give_bottles = subst (λ (z : LabPlan × State). IsGreatest z.0 e given (MayGiveBottle z.0 z.1 j e)) (λ i. (a2.plan_is i, a2.state_is i)) t3.greatest;
            ask_bottles = greatest_as p e wanted
                (λ k. (drinking (fork_asked_for p s j e moves) j ≡ Thirsty) × MayAskBottle p (fork_asked_for p s j e moves) j e k) (λ k.
                (drinking s j ≡ Thirsty) × MayAskBottle p (fork_asked_for p s j e moves) j e k)
                (λ k. (
                  λ q. (sym (drinks_still p j e s moves) ∙ q.0, q.1),
                  λ q. (
                    drinks_still p j e s moves ∙
                        q.0,
                    q.1,
                  ),
                )) (subst (λ (z : LabPlan × State). IsGreatest z.0 e wanted (λ k. (drinking z.1 j ≡ Thirsty) × MayAskBottle z.0 z.1 j e k))
                (λ i. (a4.plan_is i, a4.state_is i)) t5.greatest);
          };
        }

    pub visited : VisitsEdges w0 l0 j (e ∷ []) w6 l6
    visited = record {
      visits = one ∷ [];
      edges = refl;
      due = (subst (λ (z : State). AreDue w0.plan z j e moves) (sym (looked w0.plan w0.state j e saw refl)) due, tt);
      none_lost = none_of (not (is_nothing moves));
      does = subst (λ (l : List Event). Does w0 l0 l w6 l6) ((λ i. on (looked_is i) (Look j e saw) (events_of moves j e)) ∙
          sym (append-nil (Look j e saw ∷ events_of moves j e))) does;
    }

-- ---- one edge more

edges_append : (vs us : List Visit) → map (λ (v : Visit). v.edge) (vs ++ us) ≡ map (λ (v : Visit). v.edge) vs ++ map (λ (v : Visit). v.edge) us
edges_append [] us = refl
edges_append (v ∷ vs) us = ap (λ (l : List ℕ). v.edge ∷ l) (edges_append vs us)

lost_append : (vs us : List Visit) → count is_lost vs ≡ 0 → count is_lost us ≡ 0 → count is_lost (vs ++ us) ≡ 0
lost_append [] us a b = b
lost_append (v ∷ vs) us a b = let later = lost_append vs us (omega arith) b in omega arith

events_append : (j : ℕ) (vs us : List Visit) → visits_events j (vs ++ us) ≡ visits_events j vs ++ visits_events j us
events_append j [] us = refl
events_append j (v ∷ vs) us = ap (λ (l : List Event). visit_events j v ++ l) (events_append j vs us) ∙
    sym (append_assoc (visit_events j v) (visits_events j vs) (visits_events j us))

visits_append : (plan : LabPlan) (j : ℕ) (s : State) (vs us : List Visit) → AreVisits plan j s vs →
    AreVisits plan j (learned_all plan s (visits_events j vs)) us → AreVisits plan j s (vs ++ us)
visits_append plan j s [] us a b = b
visits_append plan j s (v ∷ vs) us a b = (
  a.0,
  visits_append plan j (learned_all plan s (visit_events j v)) vs us a.1
      (subst (λ (z : State). AreVisits plan j z us) (learned_all-append plan s (visit_events j v) (visits_events j vs)) b),
)

pub visits_both : (j : ℕ) (old mid new : WorldView) (before between later : List Event) (es fs : List ℕ) → VisitsEdges old before j es mid between →
    VisitsEdges mid between j fs new later → VisitsEdges old before j (es ++ fs) new later
visits_both j old mid new before between later es fs a b =
    let learns : mid.state ≡ learned_all old.plan old.state (visits_events j a.visits) = a.does.run.leads ∙
    sym (learned_all_legal old.plan old.state (visits_events j a.visits) a.does.run.legal) in
    record {
      visits = a.visits ++ b.visits;
      edges = edges_append a.visits b.visits ∙ (λ i. a.edges i ++ b.edges i);
      due = visits_append old.plan j old.state a.visits b.visits a.due (subst (λ (z : LabPlan × State). AreVisits z.0 j z.1 b.visits) (λ i.
          (a.does.same_plan i, learns i)) b.due);
      none_lost = lost_append a.visits b.visits a.none_lost b.none_lost;
      does = subst (λ (l : List Event). Does old before l new later) (sym (events_append j a.visits b.visits)) (does_both old mid new before between later
          (visits_events j a.visits) (visits_events j b.visits) a.does b.does);
    }
