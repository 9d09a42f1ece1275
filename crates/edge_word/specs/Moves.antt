-- For readers: the moves of one job on one edge, as events of the core, as the change of an edge, and as the bits that change.
use Rattle.std.specs.Prelude.{◌≡◌, ◌≢◌, ℕ, ◌^◌, ◌<◌, Bool, true, false, not, ◌&&◌, ◌==◌, List, [], ◌∷◌}
use Rattle.std.specs.Prelude.{length, bit_xor, bit_and, slice_index_or, slice_set, if◌then◌else◌}
use Rattle.lab_plan.specs.LabPlan.{LabPlan}
use Rattle.legal_steps.specs.declared.end.End.{End}
use Rattle.legal_steps.specs.declared.edge_state.EdgeState.{EdgeState}
use Rattle.legal_steps.specs.declared.event.Event.{Event}
use Rattle.legal_steps.specs.declared.event.Event.TheVariants.{AskFork, GiveFork, Soil, AskBottles, GiveBottles}
use Rattle.legal_steps.specs.State.{State, Seat, edge, seat, phase, opposite}
use Rattle.legal_steps.specs.Legal.{is_at, fork_asked, fork_given, fork_soiled, bottles_asked, bottles_given}
use Rattle.legal_steps.specs.Run.{after_all}
use Rattle.edge_word.specs.Words.{state_of, word_of_fields, flag_bit}
use Rattle.edge_word.specs.declared.edge.Flips.{Flips}
use Rattle.edge_word.specs.declared.moves.EdgeMoves.{EdgeMoves}

-- ---- the events of a group of moves

-- in every state, these events of a job on an edge take the edge from x to y
abbrev pub Lead : (ℕ → ℕ → List Event) → EdgeState → EdgeState → Type 0
Lead events x y = (plan : LabPlan) (s : State) (j e : ℕ) → e < length s.edges → edge s e ≡ x → edge (after_all plan s (events j e)) e ≡ y

-- from s to s', only edge e and the marks of job j have changed
pub record ChangesOnly (j e : ℕ) (s s' : State) : Type 0 where
  pub as_many_edges : length s'.edges ≡ length s.edges
  pub other_edges : (i : ℕ) → i ≢ e → edge s' i ≡ edge s i
  pub as_many_seats : length s'.seats ≡ length s.seats
  pub other_seats : (i : ℕ) → i ≢ j → seat s' i ≡ seat s i
  pub own_phase : phase s' j ≡ phase s j
  pub logs : s'.logs ≡ s.logs

-- the event before the rest, or only the rest
abbrev pub on : Bool → Event → List Event → List Event
on false event rest = rest
on true event rest = event ∷ rest

-- the moves of job j on edge e as events, in the order in which they are done; an empty set is no event
abbrev pub events_of : EdgeMoves → ℕ → ℕ → List Event
events_of m j e =
    on m.give_fork (GiveFork j e) (on (not (m.give_bottles == 0)) (GiveBottles j e m.give_bottles)
    (on m.ask_fork (AskFork j e) (on (not (m.ask_bottles == 0)) (AskBottles j e m.ask_bottles) (on m.soil (Soil j e) []))))

-- nothing is to be done
abbrev pub is_nothing : EdgeMoves → Bool
is_nothing m = not m.give_fork && (m.give_bottles == 0) && not m.ask_fork && (m.ask_bottles == 0) && not m.soil

-- the edge after a change, or without it
abbrev pub when : Bool → (EdgeState → EdgeState) → EdgeState → EdgeState
when false f x = x
when true f x = f x

-- the edge after the moves
abbrev pub after_moves : EdgeMoves → EdgeState → EdgeState
after_moves m x =
    when m.soil fork_soiled (bottles_asked m.ask_bottles (when m.ask_fork fork_asked (bottles_given m.give_bottles (when m.give_fork fork_given x))))

-- the mark of the fork of their edge after the moves: soiling sets it, giving clears it
abbrev pub fork_mark_after : EdgeMoves → Bool → Bool
fork_mark_after m old = if m.soil then true else if m.give_fork then false else old

-- and the marks of its bottles: those of the bottles that are given are cleared
abbrev pub bottle_marks_after : EdgeMoves → ℕ → ℕ
bottle_marks_after m old = bit_xor old (bit_and old m.give_bottles)

-- the seat of the job that does the moves, on edge e
abbrev pub seat_with_moves : EdgeMoves → ℕ → Seat → Seat
seat_with_moves m e x = record {
  phase = x.phase;
  fork_marks = slice_set x.fork_marks e (fork_mark_after m (slice_index_or x.fork_marks e false));
  bottle_marks = slice_set x.bottle_marks e (bottle_marks_after m (slice_index_or x.bottle_marks e 0));
}

-- the sets name bottles of an edge that has n
pub record AreOfBottles (n : ℕ) (m : EdgeMoves) : Type 0 where
  pub give_fits : m.give_bottles < 2 ^ n
  pub ask_fits : m.ask_bottles < 2 ^ n

-- ---- the moves that lead from one edge to another

abbrev pub moves_between : EdgeState → EdgeState → EdgeMoves
moves_between x y = record {
  give_fork = not (is_at x.fork y.fork);
  give_bottles = bit_xor x.bottles y.bottles;
  ask_fork = not (is_at x.token y.token);
  ask_bottles = bit_xor x.bottle_tokens y.bottle_tokens;
  soil = y.dirty && not x.dirty;
}

-- the same from their words
abbrev pub moves_of_words : ℕ → ℕ → EdgeMoves
moves_of_words old new = moves_between (state_of old) (state_of new)

-- ---- the bits that change

-- the end after a move, or without one; the same for a flag
abbrev pub end_moved : Bool → End → End
end_moved false x = x
end_moved true x = opposite x

abbrev pub flag_turned : Bool → Bool → Bool
flag_turned false x = x
flag_turned true x = not x

-- the word of the things that change
abbrev pub mask : Flips → ℕ
mask m = word_of_fields (flag_bit m.fork) (flag_bit m.dirty) (flag_bit m.token) m.bottles m.bottle_tokens

-- the edge in which they have changed
abbrev pub flipped : Flips → EdgeState → EdgeState
flipped m x = record {
  fork = end_moved m.fork x.fork;
  dirty = flag_turned m.dirty x.dirty;
  token = end_moved m.token x.token;
  bottles = bit_xor x.bottles m.bottles;
  bottle_tokens = bit_xor x.bottle_tokens m.bottle_tokens;
}
