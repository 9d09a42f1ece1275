-- What a group of moves makes of the seat of its job and of the list of edges.
use Rattle.std.proofs.Common.{◌≡◌, ℕ, ◌<◌, ◌==◌, not, if◌then◌else◌, Bool, true, false, List, [], ◌∷◌, length, get_or, set, bit_xor, bit_and, refl, sym, ap, ◌∙◌, subst, inl, inr, arith, length-set, set-set, get_or-set_same}
use Rattle.std.proofs.lemmas.List.{set-get_or}
use Rattle.std.proofs.lemmas.Bool.{cases_eq}
use Rattle.std.proofs.lemmas.Bool.Decides.{nat_tests}
use Rattle.std.specs.Int.Bits.{xor_zero_r, and_zero_r}
use Rattle.lab_plan.specs.LabPlan.{LabPlan}
use Rattle.legal_steps.specs.declared.edge_state.EdgeState.{EdgeState}
use Rattle.legal_steps.specs.declared.event.Event.{Event}
use Rattle.legal_steps.specs.declared.event.Event.TheVariants.{AskFork, GiveFork, Soil, AskBottles, GiveBottles}
use Rattle.legal_steps.specs.State.{Seat, State, edge, seat, no_edge}
use Rattle.legal_steps.specs.Legal.{after}
use Rattle.legal_steps.specs.Run.{after_all, actor}
use Rattle.edge_word.specs.declared.moves.EdgeMoves.{EdgeMoves}
use Rattle.edge_word.specs.Moves.{on, events_of, after_moves, bottle_marks_after, seat_with_moves}
use Rattle.edge_word.proofs.MoveLaws.{moves_lead}
use Rattle.turns.specs.History.{learned, learned_all}
use Rattle.turns.specs.Changes.{seat_after}
use Rattle.turns.specs.Locality.{GroupsChangeOneSeatAndEdge}
use Rattle.turns.specs.Lists.{Each}
use Rattle.turns.proofs.Frame.{own_seat, as_many_seats}
use Rattle.turns.proofs.Local.{each_move}

-- ---- the state after moves, as lists

-- an event of j on e leaves the other edges, and is learned as it is done
pub record Moves (plan : LabPlan) (j e : ℕ) (event : Event) : Type 0 where
  pub by : actor event ≡ j
  pub edges_are : (s : State) → e < length s.edges → (after plan s event).edges ≡ set s.edges e (edge (after plan s event) e)
  pub as_many : (s : State) → length (after plan s event).edges ≡ length s.edges
  pub learns : (s : State) → learned plan s event ≡ after plan s event

one_set : (l : List EdgeState) (e : ℕ) (x : EdgeState) → e < length l → set l e x ≡ set l e (get_or (set l e x) e no_edge)
one_set l e x h = ap (set l e) (sym (get_or-set_same l e x no_edge h))

each_moves : (plan : LabPlan) (j e : ℕ) (m : EdgeMoves) → Each (Moves plan j e) (events_of m j e)
each_moves plan j e m = each_move plan j e (Moves plan j e) m
    (record { by = refl; edges_are = λ s h. one_set s.edges e _ h; as_many = λ s. length-set s.edges e _; learns = λ s. refl })
    (record { by = refl; edges_are = λ s h. one_set s.edges e _ h; as_many = λ s. length-set s.edges e _; learns = λ s. refl })
    (record { by = refl; edges_are = λ s h. one_set s.edges e _ h; as_many = λ s. length-set s.edges e _; learns = λ s. refl })
    (record { by = refl; edges_are = λ s h. one_set s.edges e _ h; as_many = λ s. length-set s.edges e _; learns = λ s. refl })
    (record { by = refl; edges_are = λ s h. one_set s.edges e _ h; as_many = λ s. length-set s.edges e _; learns = λ s. refl })

learned_moves : (plan : LabPlan) (j e : ℕ) (s : State) (g : List Event) → Each (Moves plan j e) g → learned_all plan s g ≡ after_all plan s g
learned_moves plan j e s [] m = refl
learned_moves plan j e s (x ∷ g) m = ap (λ t. learned_all plan t g) (m.0.learns s) ∙ learned_moves plan j e (after plan s x) g m.1

edges_moved : (plan : LabPlan) (j e : ℕ) (s : State) (g : List Event) → e < length s.edges
    → Each (Moves plan j e) g → (after_all plan s g).edges ≡ set s.edges e (edge (after_all plan s g) e)
edges_moved plan j e s [] h m = sym (set-get_or s.edges e no_edge)
edges_moved plan j e s (x ∷ g) h m =
    let n = m.0.as_many s in
    edges_moved plan j e (after plan s x) g (omega arith) m.1
    ∙ (ap (λ (l : List EdgeState). set l e (edge (after_all plan (after plan s x) g) e)) (m.0.edges_are s h) ∙ set-set s.edges e _ _)

abbrev pub seat_all : LabPlan → Seat → List Event → Seat
seat_all plan x [] = x
seat_all plan x (event ∷ events) = seat_all plan (seat_after plan x event) events

seat_moved : (plan : LabPlan) (j e : ℕ) (s : State) (g : List Event) → j < length s.seats
    → Each (Moves plan j e) g → seat (after_all plan s g) j ≡ seat_all plan (seat s j) g
seat_moved plan j e s [] h m = refl
seat_moved plan j e s (x ∷ g) h m =
    let n = as_many_seats plan s x in
    seat_moved plan j e (after plan s x) g (omega arith) m.1
    ∙ ap (λ (y : Seat). seat_all plan y g)
    (subst (λ i. i < length s.seats → seat (after plan s x) i ≡ seat_after plan (seat s i) x) m.0.by (own_seat plan s x) h)

-- ---- the marks after moves

module _ (plan : LabPlan) (j e : ℕ) where
  skip_ask : (x : Seat) (b : Bool) (rest : List Event) → seat_all plan x (on b (AskFork j e) rest) ≡ seat_all plan x rest
  skip_ask x false rest = refl
  skip_ask x true rest = refl

  skip_tokens : (x : Seat) (asked : ℕ) (b : Bool) (rest : List Event) → seat_all plan x (on b (AskBottles j e asked) rest) ≡ seat_all plan x rest
  skip_tokens x asked false rest = refl
  skip_tokens x asked true rest = refl

  give_bottles : (x : Seat) (given : ℕ) (rest : List Event) → seat_all plan x (on (not (given == 0)) (GiveBottles j e given) rest)
      ≡ seat_all plan (record x { bottle_marks = set x.bottle_marks e (bit_xor (get_or x.bottle_marks e 0) (bit_and (get_or x.bottle_marks e 0) given)) }) rest
  give_bottles x given rest = elim (cases_eq given 0) [
    | inl nought ↦ rw nought (ap (λ (l : List ℕ). seat_all plan (record x { bottle_marks = l }) rest)
        (sym (set-get_or x.bottle_marks e 0) ∙ ap (set x.bottle_marks e) (sym (xor_zero_r (get_or x.bottle_marks e 0))
        ∙ ap (bit_xor (get_or x.bottle_marks e 0)) (sym (and_zero_r (get_or x.bottle_marks e 0))))))
    | inr some ↦ let f : (given == 0) ≡ false = grind (arith, nat_tests) in rw f refl
  ]

  forks : (x : Seat) (soil given : Bool) (l : List Event) → seat_all plan x (on given (GiveFork j e) (on soil (Soil j e) [])) ≡ record x {
    fork_marks = set x.fork_marks e (if soil then true else if given then false else get_or x.fork_marks e false);
  }
  forks x false false l = λ i. record x { fork_marks = sym (set-get_or x.fork_marks e false) i }
  forks x false true l = refl
  forks x true false l = refl
  forks x true true l = λ i. record x { fork_marks = set-set x.fork_marks e false true i }

  -- the group on the seat
  marks_moved : (m : EdgeMoves) (x : Seat) → seat_all plan x (events_of m j e) ≡ seat_with_moves m e x
  marks_moved m x = given_first m.give_fork where
    later : (y : Seat) → seat_all plan y (on (not (m.give_bottles == 0)) (GiveBottles j e m.give_bottles)
        (on m.ask_fork (AskFork j e) (on (not (m.ask_bottles == 0)) (AskBottles j e m.ask_bottles) (on m.soil (Soil j e) []))))
        ≡ seat_all plan (record y { bottle_marks = set y.bottle_marks e (bottle_marks_after m (get_or y.bottle_marks e 0)) }) (on m.soil (Soil j e) [])
    later y = give_bottles y m.give_bottles _ ∙ (skip_ask _ m.ask_fork _ ∙ skip_tokens _ m.ask_bottles (not (m.ask_bottles == 0)) _)

    given_first : (b : Bool)
        → seat_all plan x (on b (GiveFork j e) (on (not (m.give_bottles == 0)) (GiveBottles j e m.give_bottles)
        (on m.ask_fork (AskFork j e) (on (not (m.ask_bottles == 0)) (AskBottles j e m.ask_bottles) (on m.soil (Soil j e) [])))))
        ≡ record {
          phase = x.phase;
          fork_marks = set x.fork_marks e (if m.soil then true else if b then false else get_or x.fork_marks e false);
          bottle_marks = set x.bottle_marks e (bottle_marks_after m (get_or x.bottle_marks e 0));
        }
    given_first false = later x ∙ forks (record x { bottle_marks = set x.bottle_marks e (bottle_marks_after m (get_or x.bottle_marks e 0)) }) m.soil false []
    given_first true = later (record x { fork_marks = set x.fork_marks e false })
        ∙ forks (record x { bottle_marks = set x.bottle_marks e (bottle_marks_after m (get_or x.bottle_marks e 0)) }) m.soil true []

-- after moves, and what their job knows after them, as it learns of its own
seat_after_moves : (plan : LabPlan) (j e : ℕ) (m : EdgeMoves) (s : State) → j < length s.seats
    → seat (after_all plan s (events_of m j e)) j ≡ seat_with_moves m e (seat s j)
seat_after_moves plan j e m s h = seat_moved plan j e s (events_of m j e) h (each_moves plan j e m) ∙ marks_moved plan j e m (seat s j)

edges_after_moves : (plan : LabPlan) (j e : ℕ) (m : EdgeMoves) (s : State) → e < length s.edges
    → (after_all plan s (events_of m j e)).edges ≡ set s.edges e (after_moves m (edge s e))
edges_after_moves plan j e m s h =
    edges_moved plan j e s (events_of m j e) h (each_moves plan j e m) ∙ ap (set s.edges e) (moves_lead m (edge s e) plan s j e h refl)

pub groups_change_one_seat_and_edge : GroupsChangeOneSeatAndEdge
groups_change_one_seat_and_edge = λ plan s j e m. ((λ h. seat_after_moves plan j e m s h), (λ h. edges_after_moves plan j e m s h))

pub moved_seat : (plan : LabPlan) (j e : ℕ) (m : EdgeMoves) (s : State) → j < length s.seats
    → seat (learned_all plan s (events_of m j e)) j ≡ seat_with_moves m e (seat s j)
moved_seat plan j e m s h = ap (λ t. seat t j) (learned_moves plan j e s (events_of m j e) (each_moves plan j e m)) ∙ seat_after_moves plan j e m s h

pub moved_edges : (plan : LabPlan) (j e : ℕ) (m : EdgeMoves) (s : State) → e < length s.edges
    → (learned_all plan s (events_of m j e)).edges ≡ set s.edges e (after_moves m (edge s e))
moved_edges plan j e m s h =
    ap (λ (t : State). t.edges) (learned_moves plan j e s (events_of m j e) (each_moves plan j e m)) ∙ edges_after_moves plan j e m s h
