-- A turn depends on the job's seat before it, and on what it sees: so it is the same by the state and by what its job knows.
use Rattle.std.proofs.Common.{◌≡◌, ◌↔◌, ℕ, suc, ◌<◌, ◌≤◌, Bool, true, false, not, ◌==◌, if◌then◌else◌, List, [], ◌∷◌, length, map, refl, sym, ap, ◌∙◌, subst, inl, inr, arith}
use Rattle.std.specs.List.{All}
use Rattle.std.specs.Option.{ForSome}
use Rattle.lab_plan.specs.LabPlan.{LabPlan, edges, bottles, patience}
use Rattle.legal_steps.specs.declared.event.Event.{Event}
use Rattle.legal_steps.specs.declared.event.Event.TheVariants.{Look, AskFork, GiveFork, Soil, AskBottles, GiveBottles, Thirst, Hunger, Sit, Leave, Drink, Reach, Quit, Retire, Withdraw}
use Rattle.legal_steps.specs.declared.phase.Drinking.TheVariants.{Thirsty}
use Rattle.legal_steps.specs.State.{State, Seat, IsOwn, seat, drinking}
use Rattle.legal_steps.specs.Legal.{May, MayAskBottle, MayGiveBottle}
use Rattle.legal_steps.proofs.FitsWrites.{edge_same}
use Rattle.edge_word.specs.declared.moves.EdgeMoves.{EdgeMoves}
use Rattle.edge_word.specs.Moves.{events_of}
use Rattle.legal_steps.specs.Run.{actor}
use Rattle.turns.specs.History.{learned, learned_all}
use Rattle.turns.specs.Lists.{Each}
use Rattle.turns.specs.Changes.{seat_after}
use Rattle.turns.proofs.Frame.{learned_seats, learned_edges, learned_seat}
use Rattle.turns.proofs.Runs.{each-append}
use Rattle.turns.proofs.Reading.{reads_alike}
use Rattle.turns.proofs.Local.{Alike, IsLocal, give_fork_local, ask_fork_local, soil_local, give_bottles_local, ask_bottles_local, each_move}
use Rattle.turns.specs.Due.{after_if, AreDue, fork_gone, bottles_gone, fork_asked_for, all_asked_for}
use Rattle.turns.specs.Acts.{AreFirst, Counts, order}
use Rattle.turns.specs.Turn.{Visit, visit_events, visits_events, AreVisits, IsTurnBy}
use Rattle.legal_steps.proofs.OwnEdges.{own_edges}
use Rattle.round_trace.proofs.Sets.{give_one, one_given, ask_one, one_asked}
use Rattle.round_trace.proofs.Visiting.{drinks_still}

turned_round : (j e : ℕ) (s t : State) → Alike j e s t → Alike j e t s
turned_round j e s t a = record { job_s = a.job_t; job_t = a.job_s; edge_s = a.edge_t; edge_t = a.edge_s; own = sym a.own; here = sym a.here }

-- ---- what is due on an edge

module _ (plan : LabPlan) (j e : ℕ) where
  alike_if : (b : Bool) (x : Event) → IsLocal plan j e x → (s t : State) → Alike j e s t → Alike j e (after_if plan b x s) (after_if plan b x t)
  alike_if false x local s t a = a
  alike_if true x local s t a = (local s t a).1

  may_alike : (x : Event) → IsLocal plan j e x → (s t : State) → Alike j e s t → May plan s x ↔ May plan t x
  may_alike x local s t a = ((local s t a).0, (local t s (turned_round j e s t a)).0)

  test_alike : (b : Bool) (x : Event) → IsLocal plan j e x → (s t : State) → Alike j e s t → (b ≡ true) ↔ May plan s x → (b ≡ true) ↔ May plan t x
  test_alike b x local s t a test = let m = may_alike x local s t a in (λ yes. m.0 (test.0 yes), λ may. test.1 (m.1 may))

  module _ (own : IsOwn plan j e) (s t : State) (m : EdgeMoves) (a : Alike j e s t) where
    a_one : Alike j e (fork_gone plan s j e m) (fork_gone plan t j e m)
    a_one = alike_if m.give_fork (GiveFork j e) (give_fork_local plan j e) s t a

    a_two : Alike j e (bottles_gone plan s j e m) (bottles_gone plan t j e m)
    a_two = alike_if (not (m.give_bottles == 0)) (GiveBottles j e m.give_bottles) (give_bottles_local plan j e m.give_bottles) _ _ a_one

    a_three : Alike j e (fork_asked_for plan s j e m) (fork_asked_for plan t j e m)
    a_three = alike_if m.ask_fork (AskFork j e) (ask_fork_local plan j e) _ _ a_two

    a_four : Alike j e (all_asked_for plan s j e m) (all_asked_for plan t j e m)
    a_four = alike_if (not (m.ask_bottles == 0)) (AskBottles j e m.ask_bottles) (ask_bottles_local plan j e m.ask_bottles) _ _ a_three

    may_give_alike : (p q : State) → Alike j e p q → (k : ℕ) → k < length (bottles plan e) → MayGiveBottle plan p j e k → MayGiveBottle plan q j e k
    may_give_alike p q b k inside may = give_one plan q j e k own inside ((give_bottles_local plan j e _ p q b).0 (one_given plan p j e k own inside may))

    -- one bottle may be asked for by a thirsty job
    may_ask_alike : (p q : State) → Alike j e p q → (k : ℕ) → k < length (bottles plan e) → (drinking p j ≡ Thirsty) × MayAskBottle plan p j e k →
        (drinking q j ≡ Thirsty) × MayAskBottle plan q j e k
    may_ask_alike p q b k inside may = ask_one plan q j e k own inside ((ask_bottles_local plan j e _ p q b).0 (one_asked plan p j e k own inside may))

    pub due_alike : AreDue plan s j e m → AreDue plan t j e m
    due_alike d = record {
      forks = record {
        give_fork = test_alike m.give_fork (GiveFork j e) (give_fork_local plan j e) s t a d.forks.give_fork;
        ask_fork = test_alike m.ask_fork (AskFork j e) (ask_fork_local plan j e) _ _ a_two d.forks.ask_fork;
        soil = test_alike m.soil (Soil j e) (soil_local plan j e) _ _ a_four d.forks.soil;
      };
      bottles = record {
        give_bottles = let g = d.bottles.give_bottles in record {
          of_edge = g.of_edge;
          just = λ k inside. (
            λ has. may_give_alike (fork_gone plan s j e m) (fork_gone plan t j e m) a_one k inside ((g.just k inside).0 has),
            λ may. (g.just k inside).1 (may_give_alike (fork_gone plan t j e m) (fork_gone plan s j e m) (turned_round j e _ _ a_one) k inside may),
          );
        };
        ask_bottles = let g = d.bottles.ask_bottles in record {
          of_edge = g.of_edge;
          just = λ k inside. (
            λ has. asks s t a (a_three) k inside ((g.just k inside).0 has),
            λ may. (g.just k inside).1 (asks t s (turned_round j e s t a)
                (turned_round j e _ _ a_three) k inside may),
          );
        };
      };
    } where
      asks : (p q : State) → Alike j e p q → Alike j e (fork_asked_for plan p j e m) (fork_asked_for plan q j e m) → (k : ℕ) → k < length (bottles plan e)
          → (drinking p j ≡ Thirsty) × MayAskBottle plan (fork_asked_for plan p j e m) j e k →
          (drinking q j ≡ Thirsty) × MayAskBottle plan (fork_asked_for plan q j e m) j e k
      asks p q b c k inside both =
          let r = may_ask_alike _ _ c k inside (drinks_still plan j e p m ∙ both.0, both.1) in (sym (drinks_still plan j e q m) ∙ r.0, r.1)

-- ---- the job's seat over its events

module _ (plan : LabPlan) (j : ℕ) where
  abbrev IsBy : Event → Type 0
  IsBy x = actor x ≡ j

  -- two states in which the job's seat is the same, and which have as many seats and edges as the plan
  pub record SameSeat (s t : State) : Type 0 where
    pub job_s : j < length s.seats
    pub job_t : j < length t.seats
    pub edges_s : length s.edges ≡ length (edges plan)
    pub edges_t : length t.edges ≡ length (edges plan)
    pub own : seat s j ≡ seat t j

  seat_learned : (s : State) (x : Event) → IsBy x → j < length s.seats → seat (learned plan s x) j ≡ seat_after plan (seat s j) x
  seat_learned s x by inside = subst (λ k. k < length s.seats → seat (learned plan s x) k ≡ seat_after plan (seat s k) x) by (learned_seat plan s x) inside

  same_learned : (s t : State) (x : Event) → IsBy x → SameSeat s t → SameSeat (learned plan s x) (learned plan t x)
  same_learned s t x by a = record {
    job_s = subst (λ n. j < n) (sym (learned_seats plan s x)) a.job_s;
    job_t = subst (λ n. j < n) (sym (learned_seats plan t x)) a.job_t;
    edges_s = learned_edges plan s x ∙ a.edges_s;
    edges_t = learned_edges plan t x ∙ a.edges_t;
    own = seat_learned s x by a.job_s ∙ (ap (λ (y : Seat). seat_after plan y x) a.own ∙ sym (seat_learned t x by a.job_t));
  }

  pub same_all : (s t : State) (events : List Event) → Each IsBy events → SameSeat s t → SameSeat (learned_all plan s events) (learned_all plan t events)
  same_all s t [] each a = a
  same_all s t (x ∷ events) each a = same_all (learned plan s x) (learned plan t x) events each.1 (same_learned s t x each.0 a)

  by_if : (b : Bool) (events : List Event) → Each IsBy events → Each IsBy (if b then [] else events)
  by_if true events each = tt
  by_if false events each = each

  by_visit : (v : Visit) → Each IsBy (visit_events j v)
  by_visit v = (refl, by_if v.lost (events_of v.moves j v.edge) (each_move plan j v.edge IsBy v.moves refl refl refl refl refl))

  by_visits : (visits : List Visit) → Each IsBy (visits_events j visits)
  by_visits [] = tt
  by_visits (v ∷ visits) = each-append IsBy (visit_events j v) (visits_events j visits) (by_visit v) (by_visits visits)

  -- after a look both know the same of its edge
  seen_alike : (s t : State) (v : Visit) → IsOwn plan j v.edge → SameSeat s t → Alike j v.edge (learned plan s (Look j v.edge v.saw)) (learned plan t
      (Look j v.edge v.saw))
  seen_alike s t v own a =
      let look : Event = Look j v.edge v.saw in
      let b = same_learned s t look refl a in
      let inside_s : v.edge < length s.edges = subst (λ n. v.edge < n) (sym a.edges_s) own.is_edge in
      let inside_t : v.edge < length t.edges = subst (λ n. v.edge < n) (sym a.edges_t) own.is_edge in
      record {
        job_s = b.job_s;
        job_t = b.job_t;
        edge_s = subst (λ n. v.edge < n) (sym b.edges_s) own.is_edge;
        edge_t = subst (λ n. v.edge < n) (sym b.edges_t) own.is_edge;
        own = b.own;
        here = edge_same s v.edge v.saw inside_s ∙ sym (edge_same t v.edge v.saw inside_t);
      }

  abbrev AreOwn : List Visit → Type 0
  AreOwn visits = Each (λ (v : Visit). IsOwn plan j v.edge) visits

  visits_alike : (s t : State) (visits : List Visit) → AreOwn visits → SameSeat s t → AreVisits plan j s visits → AreVisits plan j t visits
  visits_alike s t [] own a due = tt
  visits_alike s t (v ∷ visits) own a due = (
    due_alike plan j v.edge own.0 (learned plan s (Look j v.edge v.saw)) (learned plan t (Look j v.edge v.saw)) v.moves (seen_alike s t v own.0 a) due.0,
    visits_alike (learned_all plan s (visit_events j v)) (learned_all plan t (visit_events j v)) visits own.1 (same_all s t (visit_events j v)
        (by_visit v) a) due.1,
  )

  each_all : (visits : List Visit) → All (IsOwn plan j) (map (λ (v : Visit). v.edge) visits) → AreOwn visits
  each_all [] all = tt
  each_all (v ∷ visits) all = (all 0 0 (omega arith), each_all visits (λ k d inside. all (suc k) d (omega (arith, inside))))

  -- ---- the phase act

  abbrev Leads : State → State → ℕ → List Event → Type 0
  Leads s t waited list = Each (λ (x : Event). Counts plan s j waited x → Counts plan t j waited x) list

  order_leads : (s t : State) (waited : ℕ) → seat s j ≡ seat t j → Leads s t waited (order j)
  order_leads s t waited own = (
    λ c. ((reads_alike plan s t (Quit j) own).0 c.0, tt),
    (
      λ c. ((reads_alike plan s t (Reach j) own).0 c.0, tt),
      (
        λ c. ((reads_alike plan s t (Drink j) own).0 c.0, tt),
        (
          λ c. ((reads_alike plan s t (Withdraw j) own).0 c.0, subst (λ (y : Seat). ForSome (patience plan j y.phase.session) (λ n. n ≤ waited)) own c.1),
          (
            λ c. ((reads_alike plan s t (Leave j) own).0 c.0, tt),
            (
              λ c. ((reads_alike plan s t (Sit j) own).0 c.0, tt),
              (
                λ c. ((reads_alike plan s t (Thirst j) own).0 c.0, tt),
                (
                  λ c. ((reads_alike plan s t (Hunger j) own).0 c.0, tt),
                  (λ c. ((reads_alike plan s t (Retire j) own).0 c.0, tt), tt),
                ),
              ),
            ),
          ),
        ),
      ),
    ),
  )

  first_alike : (s t : State) (waited : ℕ) (list acts : List Event) → Leads s t waited list → Leads t s waited list → AreFirst plan s j waited list acts →
      AreFirst plan t j waited list acts
  first_alike s t waited [] acts on back first = first
  first_alike s t waited (x ∷ list) acts on back (inl here) = inl (on.0 here.0, here.1)
  first_alike s t waited (x ∷ list) acts on back (inr other) = inr ((λ c. other.0 (back.0 c)), first_alike s t waited list acts on.1 back.1 other.1)

  -- ---- the turn

  pub turn_alike : (s t : State) (waited : ℕ) (visits : List Visit) (acts events : List Event) → SameSeat s t →
      IsTurnBy plan j waited s visits acts events → IsTurnBy plan j waited t visits acts events
  turn_alike s t waited visits acts events a turn =
      let own : AreOwn visits = each_all visits (subst (All (IsOwn plan j)) (sym turn.edges) (own_edges plan j)) in
      let b = same_all s t (visits_events j visits) (by_visits visits) a in
      record {
        edges = turn.edges;
        due = visits_alike s t visits own a turn.due;
        acts_due = first_alike _ _ waited (order j) acts (order_leads _ _ waited b.own) (order_leads _ _ waited (sym b.own)) turn.acts_due;
        events_are = turn.events_are;
      }
