-- What events of a job leave as it is.
use Rattle.std.proofs.Common.{◌≡◌, ◌≢◌, ℕ, ◌<◌, Bool, true, false, not, ◌==◌, List, [], ◌∷◌, length, slice_index_or, get_or-set_same, get_or-set_other, refl, sym, ap, ◌∙◌, subst}
use Rattle.lab_plan.specs.LabPlan.{LabPlan}
use Rattle.legal_steps.specs.declared.event.Event.{Event}
use Rattle.legal_steps.specs.declared.event.Event.TheVariants.{Look, AskFork, GiveFork, Soil, AskBottles, GiveBottles, Thirst, Hunger, Sit, Leave, Drink, Reach, Act, Quit, Retire, Glance, Withdraw}
use Rattle.legal_steps.specs.declared.edge_state.EdgeState.{EdgeState}
use Rattle.legal_steps.specs.State.{State, Seat, IsOwn, edge, seat, phase, dining, fork_mark, bottle_marks, end_of, bottles_at}
use Rattle.legal_steps.specs.Legal.{May, after, fork_given, fork_soiled, bottles_given, fork_mark_seen}
use Rattle.legal_steps.specs.Run.{IsLegalFrom, after_all, actor}
use Rattle.legal_steps.proofs.FitsWrites.{edge_other}
use Rattle.edge_word.specs.declared.moves.EdgeMoves.{EdgeMoves}
use Rattle.edge_word.specs.Moves.{on, events_of}
use Rattle.turns.specs.Lists.{Each}
use Rattle.turns.specs.Changes.{seat_after}
use Rattle.turns.proofs.Frame.{other_seat, own_seat, as_many_seats}
use Rattle.settling.specs.Left.{IsBy, LeavesEdges, IsBySelf}

-- only the job's own seat and edges change
pub record IsLocal (plan : LabPlan) (j : ℕ) (s t : State) : Type 0 where
  pub seats : (k : ℕ) → k ≢ j → seat t k ≡ seat s k
  pub edges : (e : ℕ) → ¬ IsOwn plan j e → edge t e ≡ edge s e

-- only its seat does
pub record IsAlone (j : ℕ) (s t : State) : Type 0 where
  pub seats : (k : ℕ) → k ≢ j → seat t k ≡ seat s k
  pub edges : t.edges ≡ s.edges

-- only its edge e does, and its marks for it
pub record IsNear (j e : ℕ) (s t : State) : Type 0 where
  pub seats : (k : ℕ) → k ≢ j → seat t k ≡ seat s k
  pub edges : (f : ℕ) → f ≢ e → edge t f ≡ edge s f
  pub phase : phase t j ≡ phase s j
  pub forks : (f : ℕ) → f ≢ e → fork_mark t j f ≡ fork_mark s j f
  pub marks : (f : ℕ) → f ≢ e → bottle_marks t j f ≡ bottle_marks s j f

-- a look or a move of the job at its edge e
abbrev pub IsAt : ℕ → ℕ → Event → Type 0
IsAt j e (Look k f seen) = (k ≡ j) × (f ≡ e)
IsAt j e (AskFork k f) = (k ≡ j) × (f ≡ e)
IsAt j e (GiveFork k f) = (k ≡ j) × (f ≡ e)
IsAt j e (Soil k f) = (k ≡ j) × (f ≡ e)
IsAt j e (AskBottles k f set) = (k ≡ j) × (f ≡ e)
IsAt j e (GiveBottles k f set) = (k ≡ j) × (f ≡ e)
IsAt j e _ = ⊥

module _ (plan : LabPlan) where
  not_it : (j e k : ℕ) → IsOwn plan j e → ¬ IsOwn plan j k → k ≢ e
  not_it j e k own other is = other (subst (IsOwn plan j) (sym is) own)

  other_edge : (s : State) (x : Event) → May plan s x → (e : ℕ) → ¬ IsOwn plan (actor x) e → edge (after plan s x) e ≡ edge s e
  other_edge s (Look j f seen) may e other = refl
  other_edge s (AskFork j f) may e other = edge_other s f _ e (not_it j f e may.0 other)
  other_edge s (GiveFork j f) may e other = edge_other s f (fork_given (edge s f)) e (not_it j f e may.0 other)
  other_edge s (Soil j f) may e other = edge_other s f (fork_soiled (edge s f)) e (not_it j f e may.0 other)
  other_edge s (AskBottles j f set) may e other = edge_other s f _ e (not_it j f e may.0 other)
  other_edge s (GiveBottles j f set) may e other = edge_other s f (bottles_given set (edge s f)) e (not_it j f e may.0 other)
  other_edge s (Thirst j) may e other = refl
  other_edge s (Hunger j) may e other = refl
  other_edge s (Sit j) may e other = refl
  other_edge s (Leave j) may e other = refl
  other_edge s (Drink j) may e other = refl
  other_edge s (Reach j) may e other = refl
  other_edge s (Act j) may e other = refl
  other_edge s (Quit j) may e other = refl
  other_edge s (Retire j) may e other = refl
  other_edge s (Glance j k seen) may e other = refl
  other_edge s (Withdraw j) may e other = refl

  not_actor : (j : ℕ) (x : Event) (k : ℕ) → IsBy j x → k ≢ j → k ≢ actor x
  not_actor j x k by other is = other (is ∙ by)

  pub local_all : (j : ℕ) (s : State) (events : List Event) → IsLegalFrom plan s events → Each (IsBy j) events → IsLocal plan j s (after_all plan s events)
  local_all j s [] legal by = record { seats = λ k other. refl; edges = λ e other. refl }
  local_all j s (x ∷ events) legal by =
      let more = local_all j (after plan s x) events legal.1 by.1 in
      record {
        seats = λ k other. more.seats k other ∙ other_seat plan s x k (not_actor j x k by.0 other);
        edges = λ e other. more.edges e other ∙ other_edge s x legal.0 e (subst (λ n. ¬ IsOwn plan n e) (sym by.0) other);
      }

  all_edges : (s : State) (x : Event) → LeavesEdges x → (after plan s x).edges ≡ s.edges
  all_edges s (Look j f seen) h = refl
  all_edges s (AskFork j f) h = absurd h
  all_edges s (GiveFork j f) h = absurd h
  all_edges s (Soil j f) h = absurd h
  all_edges s (AskBottles j f set) h = absurd h
  all_edges s (GiveBottles j f set) h = absurd h
  all_edges s (Thirst j) h = refl
  all_edges s (Hunger j) h = refl
  all_edges s (Sit j) h = refl
  all_edges s (Leave j) h = refl
  all_edges s (Drink j) h = refl
  all_edges s (Reach j) h = refl
  all_edges s (Act j) h = refl
  all_edges s (Quit j) h = refl
  all_edges s (Retire j) h = refl
  all_edges s (Glance j k seen) h = refl
  all_edges s (Withdraw j) h = refl

  pub alone_all : (j : ℕ) (s : State) (events : List Event) → Each (IsBySelf j) events → IsAlone j s (after_all plan s events)
  alone_all j s [] self = record { seats = λ k other. refl; edges = refl }
  alone_all j s (x ∷ events) self =
      let more = alone_all j (after plan s x) events self.1 in
      record {
        seats = λ k other. more.seats k other ∙ other_seat plan s x k (not_actor j x k self.0.0 other);
        edges = more.edges ∙ all_edges s x self.0.1;
      }

  -- ---- at one edge

  abbrev marks_of : ℕ → Seat → ℕ
  marks_of f x = slice_index_or x.bottle_marks f 0

  abbrev fork_of : ℕ → Seat → Bool
  fork_of f x = slice_index_or x.fork_marks f false

  near_of : (s : State) (x : Event) (e : ℕ) → actor x < length s.seats → ((f : ℕ) → f ≢ e → edge (after plan s x) f ≡ edge s f) →
      (seat_after plan (seat s (actor x)) x).phase ≡ phase s (actor x) →
      ((f : ℕ) → f ≢ e → fork_of f (seat_after plan (seat s (actor x)) x) ≡ fork_mark s (actor x) f) →
      ((f : ℕ) → f ≢ e → marks_of f (seat_after plan (seat s (actor x)) x) ≡ bottle_marks s (actor x) f) → IsNear (actor x) e s (after plan s x)
  near_of s x e inside edges same forks marks = record {
    seats = λ k other. other_seat plan s x k other;
    edges = edges;
    phase = ap (λ (y : Seat). y.phase) (own_seat plan s x inside) ∙ same;
    forks = λ f other. ap (fork_of f) (own_seat plan s x inside) ∙ forks f other;
    marks = λ f other. ap (marks_of f) (own_seat plan s x inside) ∙ marks f other;
  }

  near_here : (s : State) (j e : ℕ) (x : Event) → IsAt j e x → j < length s.seats → IsNear j e s (after plan s x)
  near_here s j e (Look k f seen) at inside =
      subst (λ (z : ℕ × ℕ). IsNear z.0 z.1 s (after plan s (Look k f seen))) (λ i. (at.0 i, at.1 i))
      (near_of s (Look k f seen) f (subst (λ n. n < length s.seats) (sym at.0) inside) (λ g other. refl) refl (λ g other. get_or-set_other (seat s k).fork_marks f g _ false other)
      (λ g other. get_or-set_other (seat s k).bottle_marks f g _ 0 other))
  near_here s j e (AskFork k f) at inside =
      subst (λ (z : ℕ × ℕ). IsNear z.0 z.1 s (after plan s (AskFork k f))) (λ i. (at.0 i, at.1 i))
      (near_of s (AskFork k f) f (subst (λ n. n < length s.seats) (sym at.0) inside) (λ g other. edge_other s f _ g other) refl (λ g other. refl) (λ g other. refl))
  near_here s j e (GiveFork k f) at inside =
      subst (λ (z : ℕ × ℕ). IsNear z.0 z.1 s (after plan s (GiveFork k f))) (λ i. (at.0 i, at.1 i))
      (near_of s (GiveFork k f) f (subst (λ n. n < length s.seats) (sym at.0) inside) (λ g other. edge_other s f (fork_given (edge s f)) g other) refl
      (λ g other. get_or-set_other (seat s k).fork_marks f g false false other) (λ g other. refl))
  near_here s j e (Soil k f) at inside =
      subst (λ (z : ℕ × ℕ). IsNear z.0 z.1 s (after plan s (Soil k f))) (λ i. (at.0 i, at.1 i))
      (near_of s (Soil k f) f (subst (λ n. n < length s.seats) (sym at.0) inside) (λ g other. edge_other s f (fork_soiled (edge s f)) g other) refl
      (λ g other. get_or-set_other (seat s k).fork_marks f g true false other) (λ g other. refl))
  near_here s j e (AskBottles k f set) at inside =
      subst (λ (z : ℕ × ℕ). IsNear z.0 z.1 s (after plan s (AskBottles k f set))) (λ i. (at.0 i, at.1 i))
      (near_of s (AskBottles k f set) f (subst (λ n. n < length s.seats) (sym at.0) inside) (λ g other. edge_other s f _ g other) refl (λ g other. refl) (λ g other. refl))
  near_here s j e (GiveBottles k f set) at inside =
      subst (λ (z : ℕ × ℕ). IsNear z.0 z.1 s (after plan s (GiveBottles k f set))) (λ i. (at.0 i, at.1 i))
      (near_of s (GiveBottles k f set) f (subst (λ n. n < length s.seats) (sym at.0) inside) (λ g other. edge_other s f (bottles_given set (edge s f)) g other) refl (λ g other. refl)
      (λ g other. get_or-set_other (seat s k).bottle_marks f g _ 0 other))
  near_here s j e (Thirst k) at inside = absurd at
  near_here s j e (Hunger k) at inside = absurd at
  near_here s j e (Sit k) at inside = absurd at
  near_here s j e (Leave k) at inside = absurd at
  near_here s j e (Drink k) at inside = absurd at
  near_here s j e (Reach k) at inside = absurd at
  near_here s j e (Act k) at inside = absurd at
  near_here s j e (Quit k) at inside = absurd at
  near_here s j e (Retire k) at inside = absurd at
  near_here s j e (Glance k other seen) at inside = absurd at
  near_here s j e (Withdraw k) at inside = absurd at

  pub near_all : (j e : ℕ) (s : State) (events : List Event) → Each (IsAt j e) events → j < length s.seats → IsNear j e s (after_all plan s events)
  near_all j e s [] at inside = record { seats = λ k other. refl; edges = λ f other. refl; phase = refl; forks = λ f other. refl; marks = λ f other. refl }
  near_all j e s (x ∷ events) at inside =
      let one = near_here s j e x at.0 inside in
      let more = near_all j e (after plan s x) events at.1 (subst (λ n. j < n) (sym (as_many_seats plan s x)) inside) in
      record {
        seats = λ k other. more.seats k other ∙ one.seats k other;
        edges = λ f other. more.edges f other ∙ one.edges f other;
        phase = more.phase ∙ one.phase;
        forks = λ f other. more.forks f other ∙ one.forks f other;
        marks = λ f other. more.marks f other ∙ one.marks f other;
      }

  -- after a look the marks are what was seen
  pub marked_by_look : (s : State) (j e : ℕ) (seen : EdgeState) → j < length s.seats → e < length (seat s j).bottle_marks →
      bottle_marks (after plan s (Look j e seen)) j e ≡ bottles_at plan e (end_of plan j e) seen
  marked_by_look s j e seen inside there =
      ap (marks_of e) (own_seat plan s (Look j e seen) inside) ∙ get_or-set_same (seat s j).bottle_marks e (bottles_at plan e (end_of plan j e) seen) 0 there

  pub looked_by_look : (s : State) (j e : ℕ) → j < length s.seats → e < length (seat s j).fork_marks →
      fork_mark (after plan s (Look j e (edge s e))) j e
      ≡ fork_mark_seen (dining (after plan s (Look j e (edge s e))) j) (end_of plan j e) (edge s e)
  looked_by_look s j e inside there =
      let own = own_seat plan s (Look j e (edge s e)) inside in
      ap (fork_of e) own ∙ (get_or-set_same (seat s j).fork_marks e (fork_mark_seen (dining s j) (end_of plan j e) (edge s e)) false there
      ∙ ap (λ (y : Seat). fork_mark_seen y.phase.dining (end_of plan j e) (edge s e)) (sym own))

-- ---- the events of a visit

each_on : (P : Event → Type 0) (b : Bool) (x : Event) (rest : List Event) → P x → Each P rest → Each P (on b x rest)
each_on P false x rest p all = all
each_on P true x rest p all = (p, all)

pub each_move : (P : Event → Type 0) (m : EdgeMoves) (j e : ℕ) → P (GiveFork j e) → P (GiveBottles j e m.give_bottles) → P (AskFork j e) →
    P (AskBottles j e m.ask_bottles) → P (Soil j e) → Each P (events_of m j e)
each_move P m j e a b c d f =
    each_on P m.give_fork (GiveFork j e) _ a (each_on P (not (m.give_bottles == 0)) (GiveBottles j e m.give_bottles) _ b
    (each_on P m.ask_fork (AskFork j e) _ c (each_on P (not (m.ask_bottles == 0)) (AskBottles j e m.ask_bottles) _ d (each_on P m.soil (Soil j e) [] f tt))))

pub visit_at : (m : EdgeMoves) (j e : ℕ) (seen : EdgeState) → Each (IsAt j e) (Look j e seen ∷ events_of m j e)
visit_at m j e seen = ((refl, refl), each_move (IsAt j e) m j e (refl, refl) (refl, refl) (refl, refl) (refl, refl) (refl, refl))
