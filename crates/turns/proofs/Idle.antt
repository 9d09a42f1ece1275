-- A turn in which nothing is done.
use Rattle.std.proofs.Common.{◌≡◌, ℕ, ◌+◌, Bool, true, false, not, ◌&&◌, ◌==◌, if◌then◌else◌, List, [], ◌∷◌, ◌++◌, length, map, refl, sym, ap, ◌∙◌, subst, inl, inr, arith, append-nil}
use Rattle.std.proofs.lemmas.Bool.{false≢true, cases_lt}
use Rattle.std.proofs.lemmas.List.{set_past}
use Rattle.lab_plan.specs.LabPlan.{LabPlan}
use Rattle.legal_steps.specs.declared.edge_state.EdgeState.{EdgeState}
use Rattle.legal_steps.specs.declared.event.Event.{Event}
use Rattle.legal_steps.specs.declared.event.Event.TheVariants.{Look, AskFork, GiveFork, Soil, AskBottles, GiveBottles}
use Rattle.legal_steps.specs.State.{State, Seat, edge, seat, phase, end_of, bottles_at}
use Rattle.legal_steps.specs.Legal.{with_edge, with_fork_mark, with_bottle_marks, fork_mark_seen}
use Rattle.legal_steps.proofs.FitsWrites.{edge_other, seat_same}
use Rattle.edge_word.specs.declared.moves.EdgeMoves.{EdgeMoves}
use Rattle.edge_word.specs.Moves.{events_of, on, is_nothing}
use Rattle.turns.specs.History.{learned, learned_all}
use Rattle.turns.specs.Due.{IsCalm, but_position}
use Rattle.turns.specs.Acts.{AreActs}
use Rattle.turns.specs.Turn.{Visit, is_done, is_lost, count, once, visit_events, visits_events, AreVisits, IsTurnBy}
use Rattle.turns.specs.Laws.{NothingDoneIsIdle, IdleTurnIsCalm}
use Rattle.legal_steps.proofs.OwnEdges.{In, Distinct, own_edge_in, own_edges_once}
use Rattle.turns.proofs.Calm.{nothing_due_is_calm, stays_calm}

-- ---- nothing was done

none_at_all : (acts : List Event) → once acts ≡ 0 → acts ≡ []
none_at_all [] h = refl
none_at_all (x ∷ acts) h = absurd (omega (arith, h))

pub nothing_done_is_idle : NothingDoneIsIdle
nothing_done_is_idle = λ plan j waited s visits acts events turn quiet unlost. (
  visits,
  subst (λ z. IsTurnBy plan j waited s visits z events) (none_at_all acts (omega (arith, quiet))) turn,
  omega (arith, quiet),
  unlost,
)

-- ---- then no visit had anything to do

-- in each visit nothing was due
abbrev AllNothing : List Visit → Type 0
AllNothing [] = Unit {0}
AllNothing (v ∷ vs) = (is_nothing v.moves ≡ true) × AllNothing vs

not_both : (b c : Bool) (n m : ℕ) → (if not b && not c then 1 else 0) + n ≡ 0 → (if not b && c then 1 else 0) + m ≡ 0 → b ≡ true
not_both true c n m h k = refl
not_both false true n m h k = absurd (omega (arith, k))
not_both false false n m h k = absurd (omega (arith, h))

all_nothing : (vs : List Visit) → count is_done vs ≡ 0 → count is_lost vs ≡ 0 → AllNothing vs
all_nothing [] h k = tt
all_nothing (v ∷ vs) h k =
    (not_both (is_nothing v.moves) v.lost (count is_done vs) (count is_lost vs) h k, all_nothing vs (omega (arith, h)) (omega (arith, k)))

empty_on : (a b c d f : Bool) (u v w x y : Event) → (not a && b && not c && d && not f) ≡ true → on a u (on (not b) v (on c w (on (not d) x (on f y [])))) ≡ []
empty_on true b c d f u v w x y h = absurd (false≢true h)
empty_on false false c d f u v w x y h = absurd (false≢true h)
empty_on false true true d f u v w x y h = absurd (false≢true h)
empty_on false true false false f u v w x y h = absurd (false≢true h)
empty_on false true false true true u v w x y h = absurd (false≢true h)
empty_on false true false true false u v w x y h = refl

-- no moves are no events
pub no_events : (m : EdgeMoves) (j e : ℕ) → is_nothing m ≡ true → events_of m j e ≡ []
no_events m j e h = empty_on m.give_fork (m.give_bottles == 0) m.ask_fork (m.ask_bottles == 0) m.soil
    (GiveFork j e) (GiveBottles j e m.give_bottles) (AskFork j e) (AskBottles j e m.ask_bottles) (Soil j e) h

abbrev look_of : ℕ → Visit → Event
look_of j v = Look j v.edge v.saw

none_either : (lost : Bool) (events : List Event) → events ≡ [] → (if lost then [] else events) ≡ []
none_either true events is = refl
none_either false events is = is

one_look : (j : ℕ) (v : Visit) → is_nothing v.moves ≡ true → visit_events j v ≡ look_of j v ∷ []
one_look j v h = ap (λ l. look_of j v ∷ l) (none_either v.lost (events_of v.moves j v.edge) (no_events v.moves j v.edge h))

looks_alone : (j : ℕ) (vs : List Visit) → AllNothing vs → visits_events j vs ≡ map (λ (v : Visit). Look j v.edge v.saw) vs
looks_alone j [] h = refl
looks_alone j (v ∷ vs) h = λ i. one_look j v h.0 i ++ looks_alone j vs h.1 i

-- ---- what looks leave

module _ (plan : LabPlan) (j : ℕ) where
  look_phase : (s : State) (e : ℕ) (x : EdgeState) → phase (learned plan s (Look j e x)) j ≡ phase s j
  look_phase s e x =
      let y : Seat =
      with_bottle_marks (with_fork_mark (seat s j) e (fork_mark_seen (seat s j).phase.dining (end_of plan j e) x)) e
      (bottles_at plan e (end_of plan j e) x) in
      elim (cases_lt j (length s.seats)) [
        | inl inside ↦ ap (λ (z : Seat). z.phase) (seat_same (with_edge s e x) j y inside)
        | inr past ↦ ap (λ (z : List Seat). (seat (record s { seats = z }) j).phase) (set_past s.seats j y past)
      ]

  looks_phase : (s : State) (vs : List Visit) → phase (learned_all plan s (map (λ (v : Visit). Look j v.edge v.saw) vs)) j ≡ phase s j
  looks_phase s [] = refl
  looks_phase s (v ∷ vs) = looks_phase (learned plan s (look_of j v)) vs ∙ look_phase s v.edge v.saw

  looks_edge : (s : State) (vs : List Visit) (e : ℕ) → ¬ In e (map (λ (v : Visit). v.edge) vs)
      → edge (learned_all plan s (map (λ (v : Visit). Look j v.edge v.saw) vs)) e ≡ edge s e
  looks_edge s [] e other = refl
  looks_edge s (v ∷ vs) e other = looks_edge (learned plan s (look_of j v)) vs e (λ h. other (inr h)) ∙ edge_other s v.edge v.saw e (λ is. other (inl (sym is)))

  calm_all : (s : State) (vs : List Visit) → AllNothing vs → AreVisits plan j s vs → Distinct (map (λ (v : Visit). v.edge) vs) → (e : ℕ)
      → In e (map (λ (v : Visit). v.edge) vs) → IsCalm plan (learned_all plan s (map (λ (v : Visit). Look j v.edge v.saw) vs)) j e
  calm_all s [] none due distinct e h = absurd h
  calm_all s (v ∷ vs) none due distinct e h = let t : State = learned plan s (look_of j v) in elim h [
    | inl is ↦ subst (λ n. IsCalm plan (learned_all plan t (map (λ (v : Visit). Look j v.edge v.saw) vs)) j n) is
        (stays_calm plan t (learned_all plan t (map (λ (v : Visit). Look j v.edge v.saw) vs)) j v.edge (looks_edge t vs v.edge distinct.0)
        (ap but_position (looks_phase t vs)) (nothing_due_is_calm plan t j v.edge v.moves due.0 none.0))
    | inr later ↦ calm_all t vs none.1 (subst (λ l. AreVisits plan j (learned_all plan s l) vs) (one_look j v none.0) due.1) distinct.1 e later
  ]

pub idle_turn_is_calm : IdleTurnIsCalm
idle_turn_is_calm = λ plan j waited s events idle. let visits = idle.0 in let turn = idle.1 in
    let none = all_nothing visits idle.2 idle.3 in
    let alone : events ≡ map (λ (v : Visit). Look j v.edge v.saw) visits =
    turn.events_are ∙ (append-nil (visits_events j visits) ∙ looks_alone j visits none) in
    record {
      visits = visits;
      edges = turn.edges;
      looks = alone;
      calm = λ e own. subst (λ l. IsCalm plan (learned_all plan s l) j e) (sym alone)
          (calm_all plan j s visits none turn.due (subst Distinct (sym turn.edges) (own_edges_once plan j)) e
          (subst (In e) (sym turn.edges) (own_edge_in plan j e own)));
      phase_stays = ap (λ l. phase (learned_all plan s l) j) alone ∙ looks_phase plan j s visits;
      no_act = subst (λ l. AreActs plan (learned_all plan s l) j waited []) (sym (turn.events_are ∙ append-nil (visits_events j visits))) turn.acts_due;
    }
