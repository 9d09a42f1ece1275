-- The states between the moves of a group, as far as their edge and the job's phase go.
use Rattle.std.proofs.Common.{◌≡◌, ℕ, ◌<◌, Bool, true, false, not, ◌==◌, length, arith, refl, sym, ap, ◌∙◌, inl, inr, length-set}
use Rattle.std.proofs.lemmas.Bool.{cases_eq}
use Rattle.std.proofs.lemmas.Bool.Decides.{nat_tests}
use Rattle.std.specs.Int.Bits.{xor_zero_r}
use Rattle.lab_plan.specs.LabPlan.{LabPlan}
use Rattle.legal_steps.specs.declared.event.Event.TheVariants.{AskFork, GiveFork, AskBottles, GiveBottles}
use Rattle.legal_steps.specs.declared.edge_state.EdgeState.{EdgeState}
use Rattle.legal_steps.specs.State.{State, Seat, edge, phase}
use Rattle.legal_steps.specs.Legal.{fork_asked, fork_given, bottles_asked, bottles_given}
use Rattle.legal_steps.proofs.FitsWrites.{edge_same, seat_same}
use Rattle.edge_word.specs.declared.moves.EdgeMoves.{EdgeMoves}
use Rattle.edge_word.specs.Moves.{when}
use Rattle.turns.specs.Due.{after_if, fork_gone, bottles_gone, fork_asked_for, all_asked_for}

-- t is s, but for the edge, which is y, and the job's marks
pub record Stage (s t : State) (j e : ℕ) (y : EdgeState) : Type 0 where
  pub edge_is : edge t e ≡ y
  pub phase_is : phase t j ≡ phase s j
  pub as_many_edges : length t.edges ≡ length s.edges
  pub as_many_seats : length t.seats ≡ length s.seats

module _ (plan : LabPlan) (j e : ℕ) where
  give_fork : (s : State) (b : Bool) → e < length s.edges → j < length s.seats → Stage s (after_if plan b (GiveFork j e) s) j e (when b fork_given (edge s e))
  give_fork s false he hj = record { edge_is = refl; phase_is = refl; as_many_edges = refl; as_many_seats = refl }
  give_fork s true he hj = record {
    edge_is = edge_same s e _ he;
    phase_is = ap (λ (x : Seat). x.phase) (seat_same s j _ hj);
    as_many_edges = simp length-set;
    as_many_seats = simp length-set;
  }

  ask_fork : (s : State) (b : Bool) → e < length s.edges → Stage s (after_if plan b (AskFork j e) s) j e (when b fork_asked (edge s e))
  ask_fork s false he = record { edge_is = refl; phase_is = refl; as_many_edges = refl; as_many_seats = refl }
  ask_fork s true he = record { edge_is = edge_same s e _ he; phase_is = refl; as_many_edges = simp length-set; as_many_seats = refl }

  give_set : (s : State) (b : Bool) (set : ℕ) → e < length s.edges → j < length s.seats
      → Stage s (after_if plan b (GiveBottles j e set) s) j e (when b (bottles_given set) (edge s e))
  give_set s false set he hj = record { edge_is = refl; phase_is = refl; as_many_edges = refl; as_many_seats = refl }
  give_set s true set he hj = record {
    edge_is = edge_same s e _ he;
    phase_is = ap (λ (x : Seat). x.phase) (seat_same s j _ hj);
    as_many_edges = simp length-set;
    as_many_seats = simp length-set;
  }

  ask_set : (s : State) (b : Bool) (set : ℕ) → e < length s.edges → Stage s (after_if plan b (AskBottles j e set) s) j e (when b (bottles_asked set) (edge s e))
  ask_set s false set he = record { edge_is = refl; phase_is = refl; as_many_edges = refl; as_many_seats = refl }
  ask_set s true set he = record { edge_is = edge_same s e _ he; phase_is = refl; as_many_edges = simp length-set; as_many_seats = refl }

-- no bottles are no move
given_none : (set : ℕ) (x : EdgeState) → when (not (set == 0)) (bottles_given set) x ≡ bottles_given set x
given_none set x = elim (cases_eq set 0) [
  | inl none ↦ rw none (λ i. record x { bottles = sym (xor_zero_r x.bottles) i })
  | inr some ↦ let f : (set == 0) ≡ false = grind (arith, nat_tests) in rw f refl
]

asked_none : (set : ℕ) (x : EdgeState) → when (not (set == 0)) (bottles_asked set) x ≡ bottles_asked set x
asked_none set x = elim (cases_eq set 0) [
  | inl none ↦ rw none (λ i. record x { bottle_tokens = sym (xor_zero_r x.bottle_tokens) i })
  | inr some ↦ let f : (set == 0) ≡ false = grind (arith, nat_tests) in rw f refl
]

-- the edge after the first moves of a group
abbrev pub edge_one : EdgeMoves → EdgeState → EdgeState
edge_one m x = when m.give_fork fork_given x

abbrev pub edge_two : EdgeMoves → EdgeState → EdgeState
edge_two m x = bottles_given m.give_bottles (edge_one m x)

abbrev pub edge_three : EdgeMoves → EdgeState → EdgeState
edge_three m x = when m.ask_fork fork_asked (edge_two m x)

abbrev pub edge_four : EdgeMoves → EdgeState → EdgeState
edge_four m x = bottles_asked m.ask_bottles (edge_three m x)

module _ (plan : LabPlan) (s : State) (j e : ℕ) (m : EdgeMoves) (he : e < length s.edges) (hj : j < length s.seats) where
  pub stage_one : Stage s (fork_gone plan s j e m) j e (edge_one m (edge s e))
  stage_one = give_fork plan j e s m.give_fork he hj

  pub stage_two : Stage s (bottles_gone plan s j e m) j e (edge_two m (edge s e))
  stage_two = let a = stage_one in let t : State = fork_gone plan s j e m in
      let b = give_set plan j e t (not (m.give_bottles == 0)) m.give_bottles (omega (arith, a.as_many_edges)) (omega (arith, a.as_many_seats)) in record {
        edge_is = b.edge_is ∙ (given_none m.give_bottles (edge t e) ∙ ap (bottles_given m.give_bottles) a.edge_is);
        phase_is = b.phase_is ∙ a.phase_is;
        as_many_edges = b.as_many_edges ∙ a.as_many_edges;
        as_many_seats = b.as_many_seats ∙ a.as_many_seats;
      }

  pub stage_three : Stage s (fork_asked_for plan s j e m) j e (edge_three m (edge s e))
  stage_three = let a = stage_two in let t : State = bottles_gone plan s j e m in
      let b = ask_fork plan j e t m.ask_fork (omega (arith, a.as_many_edges)) in record {
        edge_is = b.edge_is ∙ ap (when m.ask_fork fork_asked) a.edge_is;
        phase_is = b.phase_is ∙ a.phase_is;
        as_many_edges = b.as_many_edges ∙ a.as_many_edges;
        as_many_seats = b.as_many_seats ∙ a.as_many_seats;
      }

  pub stage_four : Stage s (all_asked_for plan s j e m) j e (edge_four m (edge s e))
  stage_four = let a = stage_three in let t : State = fork_asked_for plan s j e m in
      let b = ask_set plan j e t (not (m.ask_bottles == 0)) m.ask_bottles (omega (arith, a.as_many_edges)) in record {
        edge_is = b.edge_is ∙ (asked_none m.ask_bottles (edge t e) ∙ ap (bottles_asked m.ask_bottles) a.edge_is);
        phase_is = b.phase_is ∙ a.phase_is;
        as_many_edges = b.as_many_edges ∙ a.as_many_edges;
        as_many_seats = b.as_many_seats ∙ a.as_many_seats;
      }
