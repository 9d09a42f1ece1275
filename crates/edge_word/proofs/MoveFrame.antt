-- What a group of moves leaves as it was.
use Rattle.std.proofs.Common.{◌≡◌, ℕ, ◌<◌, Bool, true, false, length, arith, refl, ap, ◌∙◌, subst, sym, length-set}
use Rattle.lab_plan.specs.LabPlan.{LabPlan}
use Rattle.legal_steps.specs.declared.edge_state.EdgeState.{EdgeState}
use Rattle.legal_steps.specs.declared.event.Event.TheVariants.{AskFork, GiveFork, Soil, AskBottles, GiveBottles}
use Rattle.legal_steps.specs.State.{State, Seat, seat}
use Rattle.legal_steps.specs.Legal.{with_edge, with_seat}
use Rattle.legal_steps.proofs.FitsWrites.{edge_other, seat_same, seat_other}
use Rattle.edge_word.specs.declared.moves.EdgeMoves.{EdgeMoves}
use Rattle.edge_word.specs.Moves.{ChangesOnly}
use Rattle.edge_word.specs.WordLaws.{MovesChangeOnlyTheirEdge}
use Rattle.edge_word.proofs.MoveLemmas.{after_if, after_group, fork_left, bottles_left, fork_wanted, bottles_wanted}

-- ---- one write after another

unchanged : (j e : ℕ) (s : State) → ChangesOnly j e s s
unchanged j e s = record {
  as_many_edges = refl;
  other_edges = λ i other. refl;
  as_many_seats = refl;
  other_seats = λ i other. refl;
  own_phase = refl;
  logs = refl;
}

ChangesOnly-trans : (j e : ℕ) (s t u : State) → ChangesOnly j e s t → ChangesOnly j e t u → ChangesOnly j e s u
ChangesOnly-trans j e s t u a b = record {
  as_many_edges = b.as_many_edges ∙ a.as_many_edges;
  other_edges = λ i other. b.other_edges i other ∙ a.other_edges i other;
  as_many_seats = b.as_many_seats ∙ a.as_many_seats;
  other_seats = λ i other. b.other_seats i other ∙ a.other_seats i other;
  own_phase = b.own_phase ∙ a.own_phase;
  logs = b.logs ∙ a.logs;
}

edge_written : (s : State) (j e : ℕ) (x : EdgeState) → ChangesOnly j e s (with_edge s e x)
edge_written s j e x = record {
  as_many_edges = simp length-set;
  other_edges = λ i other. edge_other s e x i other;
  as_many_seats = refl;
  other_seats = λ i other. refl;
  own_phase = refl;
  logs = refl;
}

marks_written : (s : State) (j e : ℕ) (x : Seat) → j < length s.seats → x.phase ≡ (seat s j).phase → ChangesOnly j e s (with_seat s j x)
marks_written s j e x inside same = record {
  as_many_edges = refl;
  other_edges = λ i other. refl;
  as_many_seats = simp length-set;
  other_seats = λ i other. seat_other s j x i other;
  own_phase = ap (λ (y : Seat). y.phase) (seat_same s j x inside) ∙ same;
  logs = refl;
}

both_written : (s : State) (j e : ℕ) (x : EdgeState) (y : Seat) → j < length s.seats
    → y.phase ≡ (seat s j).phase → ChangesOnly j e s (with_seat (with_edge s e x) j y)
both_written s j e x y inside same = ChangesOnly-trans j e s (with_edge s e x) _ (edge_written s j e x) (marks_written (with_edge s e x) j e y inside same)

-- ---- each event of a group, or none

give_fork_only : (plan : LabPlan) (s : State) (j e : ℕ) (b : Bool) → j < length s.seats → ChangesOnly j e s (after_if plan b (GiveFork j e) s)
give_fork_only plan s j e false h = unchanged j e s
give_fork_only plan s j e true h = both_written s j e _ _ h refl

give_bottles_only : (plan : LabPlan) (s : State) (j e set : ℕ) (b : Bool) → j < length s.seats → ChangesOnly j e s (after_if plan b (GiveBottles j e set) s)
give_bottles_only plan s j e set false h = unchanged j e s
give_bottles_only plan s j e set true h = both_written s j e _ _ h refl

pub ask_fork_only : (plan : LabPlan) (s : State) (j e : ℕ) (b : Bool) → ChangesOnly j e s (after_if plan b (AskFork j e) s)
ask_fork_only plan s j e false = unchanged j e s
ask_fork_only plan s j e true = edge_written s j e _

pub ask_bottles_only : (plan : LabPlan) (s : State) (j e set : ℕ) (b : Bool) → ChangesOnly j e s (after_if plan b (AskBottles j e set) s)
ask_bottles_only plan s j e set false = unchanged j e s
ask_bottles_only plan s j e set true = edge_written s j e _

soil_only : (plan : LabPlan) (s : State) (j e : ℕ) (b : Bool) → j < length s.seats → ChangesOnly j e s (after_if plan b (Soil j e) s)
soil_only plan s j e false h = unchanged j e s
soil_only plan s j e true h = both_written s j e _ _ h refl

-- ---- the group

all_only : (plan : LabPlan) (s : State) (j e : ℕ) (m : EdgeMoves) → j < length s.seats
    → ChangesOnly j e s (after_if plan m.soil (Soil j e) (bottles_wanted plan s j e m))
all_only plan s j e m h =
    let t1 = fork_left plan s j e m in let t2 = bottles_left plan s j e m in let t3 = fork_wanted plan s j e m in let t4 = bottles_wanted plan s j e m in
    let a = give_fork_only plan s j e m.give_fork h in
    let b = ChangesOnly-trans j e s t1 t2 a (give_bottles_only plan t1 j e m.give_bottles _ (omega (arith, h, a.as_many_seats))) in
    let c = ChangesOnly-trans j e s t2 t3 b (ask_fork_only plan t2 j e m.ask_fork) in
    let d = ChangesOnly-trans j e s t3 t4 c (ask_bottles_only plan t3 j e m.ask_bottles _) in
    ChangesOnly-trans j e s t4 _ d (soil_only plan t4 j e m.soil (omega (arith, h, d.as_many_seats)))

pub moves_change_only_their_edge : MovesChangeOnlyTheirEdge
moves_change_only_their_edge = λ plan s j e m h. subst (ChangesOnly j e s) (sym (after_group plan s j e m)) (all_only plan s j e m h)
