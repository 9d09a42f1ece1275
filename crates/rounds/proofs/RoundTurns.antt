-- What rounds are to one job: its events are turns one after another, and the groups of each stand unbroken.
use Rattle.std.proofs.Common.{◌≡◌, ◌≢◌, ℕ, zero, suc, ◌+◌, Bool, true, false, cond, List, [], ◌∷◌, ◌++◌, arith, refl, sym, ap, ◌∙◌, subst, inl, inr, append-nil, append_assoc, add-one}
use Rattle.std.proofs.lemmas.List.Elements.{filter-append}
use Rattle.lab_plan.specs.LabPlan.{LabPlan}
use Rattle.legal_steps.specs.declared.event.Event.{Event}
use Rattle.legal_steps.specs.declared.edge_state.EdgeState.{EdgeState}
use Rattle.legal_steps.specs.State.{State, session}
use Rattle.legal_steps.specs.Run.{after_all}
use Rattle.legal_steps.specs.Opening.{the_opening}
use Rattle.turns.specs.History.{is_by, events_by, known_by, learned_all, state_after}
use Rattle.turns.specs.Lists.{Each}
use Rattle.turns.specs.Patience.{Waited, waited_in, no_wait}
use Rattle.turns.proofs.Runs.{after_all-append, only_mine, none_theirs}
use Rattle.turns.specs.Turn.{Visit, is_lost, count, IsTurnBy}
use Rattle.turns.specs.Turns.{Group, Did, Lost, AreGrouped, Stands, flat, but_glances, turn_groups, waited_next}
use Rattle.session_layer.specs.declared.turning.Turned.{Turned}
use Rattle.session_layer.proofs.Grows.{stands-append, stands_later, stands_more, flat-append, flat_turn, but_turn, but-append, learned_but, grouped-append}
use Rattle.edge_rule.specs.Ending.{Any}
use Rattle.edge_rule.specs.Company.{Distinct}
use Rattle.rounds.specs.Rounds.{Player, known_in, Plays, Round, Rounds}
use Rattle.rounds.specs.QuietEnd.{jobs_in}
use Rattle.rounds.proofs.InRounds.{rounds_jobs}
use Rattle.rounds.proofs.OneTurn.{turn_by}

-- groups of which none is a lost exchange stand in what they are together
abbrev IsDid : Group → Type 0
IsDid (Did events) = Unit {0}
IsDid (Lost e saw) = ⊥

stands_flat : (plan : LabPlan) (s : State) (gs : List Group) → Each IsDid gs → Stands plan s gs (flat gs)
stands_flat plan s [] all = tt
stands_flat plan s (Did g ∷ gs) all = ([], flat gs, refl, stands_flat plan (after_all plan s g) gs all.1)
stands_flat plan s (Lost e saw ∷ gs) all = absurd all.0

-- where no exchange was lost, none of a turn's groups is
visit_did : (lost : Bool) (n e : ℕ) (saw : EdgeState) (events : List Event) → cond lost 1 0 + n ≡ 0 → IsDid (cond lost (Lost e saw) (Did events))
visit_did true n e saw events none = absurd (omega (arith, none))
visit_did false n e saw events none = tt

turn_did : (j : ℕ) (vs : List Visit) (acts : List Event) → count is_lost vs ≡ 0 → Each IsDid (turn_groups j vs acts)
turn_did j [] [] none = tt
turn_did j [] (x ∷ acts) none = (tt, turn_did j [] acts none)
turn_did j (v ∷ vs) acts none = (tt, (visit_did (is_lost v) (count is_lost vs) v.edge v.saw _ none, turn_did j vs acts (omega (arith, none))))

module _ (plan : LabPlan) (j : ℕ) where
  -- the player is of job j, and has this count
  abbrev IsOf : Waited → Player → Type 0
  IsOf w x = (x.job ≡ j) × (x.waited ≡ w)

  abbrev job_of_player : List Player → Type 0
  job_of_player players = Any (λ (i : ℕ). i ≡ j) (jobs_in players)

  is_among : (w : Waited) (players : List Player) → Any (IsOf w) players → job_of_player players
  is_among w [] any = absurd any
  is_among w (x ∷ players) (inl h) = inl h.0
  is_among w (x ∷ players) (inr h) = inr (is_among w players h)

  -- the history grew by more, in which job j did nothing
  record IsNoneIn (h g : List Event) : Type 0 where
    more : List Event
    grows : g ≡ h ++ more
    still : events_by j g ≡ events_by j h

  -- the history grew by more, in which job j, with this count, took one turn; then it is one of the players, with its next count
  record IsTurnIn (w : Waited) (h g : List Event) (players' : List Player) : Type 0 where
    more : List Event
    grows : g ≡ h ++ more
    visits : List Visit
    acts : List Event
    events : List Event
    own : events_by j g ≡ events_by j h ++ events
    turn : IsTurnBy plan j (waited_in w (session (known_in plan h j) j)) (known_in plan h j) visits acts events
    stands : Stands plan (state_after plan h) (turn_groups j visits acts) more
    then : Any (IsOf (waited_next plan j w (known_in plan h j) events)) players'

  -- ---- one player

  plays_none : (x x' : Player) (h g : List Event) (r : Turned) → x.job ≢ j → Plays plan x h r g x' → IsNoneIn h g
  plays_none x x' h g r apart t =
      let none : events_by j t.events ≡ [] = none_theirs x.job j t.events (λ is. apart (sym is)) (turn_by plan x.job _ _ t.visits t.acts t.events t.turn) in
      record {
        more = t.events;
        grows = t.after;
        still = ap (events_by j) t.after ∙ (filter-append (is_by j) h t.events ∙ (ap (λ l. events_by j h ++ l) none ∙ append-nil (events_by j h)));
      }

  plays_one : (w : Waited) (x x' : Player) (h g : List Event) (r : Turned) → IsOf w x → Plays plan x h r g x' → IsTurnIn w h g (x' ∷ [])
  plays_one w x x' h g r is t =
      let s : State = known_in plan h j in
      let turn : IsTurnBy plan j (waited_in w (session s j)) s t.visits t.acts t.events =
      subst (λ (z : ℕ × Waited). IsTurnBy plan z.0 (waited_in z.1 (session (known_in plan h z.0) z.0)) (known_in plan h z.0) t.visits t.acts t.events)
      (λ i. (is.0 i, is.1 i)) t.turn in
      let mine : events_by j t.events ≡ t.events = only_mine j t.events (turn_by plan j _ _ t.visits t.acts t.events turn) in
      let together : t.events ≡ flat (turn_groups j t.visits t.acts) = turn.events_are ∙ sym (flat_turn j t.visits t.acts) in
      let after : x' ≡ record { job = j; waited = waited_next plan j w s t.events } =
      t.counted ∙ (λ i. record { job = is.0 i; waited = waited_next plan (is.0 i) (is.1 i) (known_in plan h (is.0 i)) t.events }) in
      record {
        more = t.events;
        grows = t.after;
        visits = t.visits;
        acts = t.acts;
        events = t.events;
        own = ap (events_by j) t.after ∙ (filter-append (is_by j) h t.events ∙ ap (λ l. events_by j h ++ l) mine);
        turn = turn;
        stands = subst (Stands plan (state_after plan h) (turn_groups j t.visits t.acts)) (sym together)
            (stands_flat plan (state_after plan h) (turn_groups j t.visits t.acts) (turn_did j t.visits t.acts t.none_lost));
        then = inl (ap (λ (y : Player). y.job) after, ap (λ (y : Player). y.waited) after);
      }

  -- ---- one round

  round_none : (players players' : List Player) (idle : Bool) (h g : List Event)
      → Each (λ (i : ℕ). i ≢ j) (jobs_in players) → Round plan players idle h g players' → IsNoneIn h g
  round_none [] players' idle h g apart is = record { more = []; grows = is.0 ∙ sym (append-nil h); still = ap (events_by j) is.0 }
  round_none (x ∷ players) players' idle h g apart (r, m, x', later, rest, t, more, idle_is, players_are) =
      let a = plays_none x x' h m r apart.0 t in
      let b = round_none players rest later m g apart.1 more in
      record { more = a.more ++ b.more; grows = b.grows ∙ (ap (λ l. l ++ b.more) a.grows ∙ append_assoc h a.more b.more); still = b.still ∙ a.still }

  apart_from : (i : ℕ) (js : List ℕ) → Any (λ (k : ℕ). k ≡ j) js → Each (λ (k : ℕ). k ≢ i) js → i ≢ j
  apart_from i [] any e = absurd any
  apart_from i (k ∷ js) (inl h) e = λ q. e.0 (h ∙ sym q)
  apart_from i (k ∷ js) (inr h) e = apart_from i js h e.1

  round_turn : (w : Waited) (players players' : List Player) (idle : Bool) (h g : List Event)
      → Distinct (jobs_in players) → Any (IsOf w) players → Round plan players idle h g players' → IsTurnIn w h g players'
  round_turn w [] players' idle h g apart any is = absurd any
  round_turn w (x ∷ players) players' idle h g apart (inl same) (r, m, x', later, rest, t, more, idle_is, players_are) =
      let a = plays_one w x x' h m r same t in
      let b = round_none players rest later m g (subst (λ z. Each (λ (k : ℕ). k ≢ z) (jobs_in players)) same.0 apart.0) more in
      record {
        more = a.more ++ b.more;
        grows = b.grows ∙ (ap (λ l. l ++ b.more) a.grows ∙ append_assoc h a.more b.more);
        visits = a.visits;
        acts = a.acts;
        events = a.events;
        own = b.still ∙ a.own;
        turn = a.turn;
        stands = stands_more plan (state_after plan h) (turn_groups j a.visits a.acts) a.more b.more a.stands;
        then = subst (Any (IsOf (waited_next plan j w (known_in plan h j) a.events)))
            (sym players_are) (elim a.then [ inl here ↦ inl here | inr none ↦ absurd none ]);
      }
  round_turn w (x ∷ players) players' idle h g apart (inr any) (r, m, x', later, rest, t, more, idle_is, players_are) =
      let a = plays_none x x' h m r (apart_from x.job (jobs_in players) (is_among w players any) apart.0) t in
      let b = round_turn w players rest later m g apart.1 any more in
      let known : known_in plan m j ≡ known_in plan h j = ap (known_by plan) a.still in
      record {
        more = a.more ++ b.more;
        grows = b.grows ∙ (ap (λ l. l ++ b.more) a.grows ∙ append_assoc h a.more b.more);
        visits = b.visits;
        acts = b.acts;
        events = b.events;
        own = b.own ∙ ap (λ l. l ++ b.events) a.still;
        turn = subst (λ (s : State). IsTurnBy plan j (waited_in w (session s j)) s b.visits b.acts b.events) known b.turn;
        stands = stands_later plan (state_after plan h) (turn_groups j b.visits b.acts) a.more b.more
            (subst (λ (s : State). Stands plan s (turn_groups j b.visits b.acts) b.more)
            (ap (state_after plan) a.grows ∙ after_all-append plan (the_opening plan) h a.more) b.stands);
        then = subst (Any (IsOf (waited_next plan j w (known_in plan h j) b.events))) (sym players_are)
            (inr (subst (λ (s : State). Any (IsOf (waited_next plan j w s b.events)) rest) known b.then));
      }

  -- ---- rounds from the initial state

  -- job j took n turns in the history
  pub record TurnsIn (n : ℕ) (h : List Event) (players' : List Player) : Type 0 where
    pub waited : Waited
    pub groups : List Group
    pub grouped : AreGrouped plan j n no_wait (the_opening plan) groups waited
    pub together : but_glances (events_by j h) ≡ flat groups
    pub unbroken : Stands plan (the_opening plan) groups h
    pub then : Any (IsOf waited) players'

  one_more_turn : (n : ℕ) (m h : List Event) (middle players' : List Player) (a : TurnsIn n m middle)
      → IsTurnIn a.waited m h players' → TurnsIn (suc n) h players'
  one_more_turn n m h middle players' a b =
      let s : State = the_opening plan in
      let k : State = known_in plan m j in
      let known : k ≡ learned_all plan s (flat a.groups) = sym (learned_but plan s (events_by j m)) ∙ ap (learned_all plan s) a.together in
      let gs : List Group = turn_groups j b.visits b.acts in
      let next : Waited = waited_next plan j a.waited k b.events in
      let one : AreGrouped plan j 1 a.waited k gs next = (b.visits, b.acts, b.events, [], sym (append-nil gs), b.turn, (refl, refl)) in
      record {
        waited = next;
        groups = a.groups ++ gs;
        grouped = subst (λ (z : ℕ). AreGrouped plan j z no_wait s (a.groups ++ gs) next) (add-one n)
            (grouped-append plan j n 1 no_wait a.waited next s a.groups gs a.grouped (subst (λ (z : State). AreGrouped plan j 1 a.waited z gs next) known one));
        together = ap but_glances b.own ∙ (but-append (events_by j m) b.events
            ∙ ((λ i. a.together i ++ but_turn plan j _ k b.visits b.acts b.events b.turn i) ∙ sym (flat-append a.groups gs)));
        unbroken = subst (Stands plan s (a.groups ++ gs)) (sym b.grows) (stands-append plan s a.groups gs m b.more a.unbroken b.stands);
        then = b.then;
      }

  pub turns_in_rounds : (players players' : List Player) (n : ℕ) (idle : Bool) (h : List Event) → Distinct (jobs_in players)
      → Any (IsOf no_wait) players → Rounds plan players n idle [] h players' → TurnsIn n h players'
  turns_in_rounds players players' zero idle h apart any is = record {
    waited = no_wait;
    groups = [];
    grouped = (refl, refl);
    together = ap (λ l. but_glances (events_by j l)) is.0;
    unbroken = tt;
    then = subst (Any (IsOf no_wait)) (sym is.2) any;
  }
  turns_in_rounds players players' (suc n) idle h apart any (m, before, middle, rounds, going, last) =
      let a = turns_in_rounds players middle n before m apart any rounds in
      one_more_turn n m h middle players' a
      (round_turn a.waited middle players' idle m h (subst Distinct (sym (rounds_jobs plan players middle n before [] m rounds)) apart) a.then last)
