-- What rounds are to one job.
use Rattle.std.proofs.Common.{◌≡◌, ◌≢◌, ℕ, zero, suc, ◌+◌, ◌<◌, Bool, true, false, ◌&&◌, List, [], ◌∷◌, ◌++◌, length, refl, sym, ap, ◌∙◌, subst, inl, inr, append-nil}
use Rattle.std.proofs.lemmas.List.Elements.{filter-append}
use Rattle.lab_plan.specs.LabPlan.{LabPlan}
use Rattle.legal_steps.specs.declared.event.Event.{Event}
use Rattle.legal_steps.specs.declared.phase.Drinking.TheVariants.{Reaching}
use Rattle.legal_steps.specs.State.{State, drinking}
use Rattle.legal_steps.specs.Opening.{the_opening}
use Rattle.turns.specs.History.{is_by, events_by, known_by, learned_all}
use Rattle.turns.specs.Lists.{Each}
use Rattle.turns.proofs.Runs.{learned_all-append, learned_all_seats, opening_seats, only_mine, none_theirs}
use Rattle.turns.specs.Turn.{Visit, IsTurnBy, is_done, is_lost, count, once}
use Rattle.session_layer.specs.declared.turning.Turned.{Turned}
use Rattle.session_layer.specs.Turn.{Says}
use Rattle.session_layer.specs.declared.turning.Turned.TheVariants as answers
use Rattle.edge_rule.specs.Ending.{Any}
use Rattle.edge_rule.specs.Company.{Distinct}
use Rattle.rounds.specs.Rounds.{Player, known_in, waited_so_far, Plays, is_idle, Round, Rounds}
use Rattle.rounds.specs.QuietEnd.{jobs_in}
use Rattle.rounds.proofs.OneTurn.{turn_by, turn_rests}

pub away : (i j : ℕ) (js : List ℕ) → Any (λ (k : ℕ). k ≡ j) js → Each (λ (k : ℕ). k ≢ i) js → i ≢ j
away i j [] any e = absurd any
away i j (k ∷ js) (inl h) e = λ q. e.0 (h ∙ sym q)
away i j (k ∷ js) (inr h) e = away i j js h e.1

pub both_true : (a b : Bool) → (a && b) ≡ true → (a ≡ true) × (b ≡ true)
both_true true b e = (refl, e)
both_true false b e = absurd (cc)

nothing_done : (r : Turned) (done : ℕ) → is_idle r ≡ true → Says r done 0 → done ≡ 0
nothing_done (answers.Acted n) done is says = absurd (cc)
nothing_done answers.Moved done is says = absurd (cc)
nothing_done answers.Idle done is says = says.0

module _ (plan : LabPlan) (j : ℕ) where
  -- from h to g job j did one turn; where idle says so, nothing was done in it
  pub record OneTurn (idle : Bool) (h g : List Event) : Type 0 where
    pub waited : ℕ
    pub visits : List Visit
    pub acts : List Event
    pub events : List Event
    pub own : events_by j g ≡ events_by j h ++ events
    pub turn : IsTurnBy plan j waited (known_in plan h j) visits acts events
    pub none_lost : count is_lost visits ≡ 0
    pub none_done : idle ≡ true → count is_done visits + once acts ≡ 0

  plays_none : (x x' : Player) (h g : List Event) (r : Turned) → x.job ≢ j → Plays plan x h r g x' → events_by j g ≡ events_by j h
  plays_none x x' h g r apart t =
      let none : events_by j t.events ≡ [] = none_theirs x.job j t.events (λ is. apart (sym is)) (turn_by plan x.job _ _ t.visits t.acts t.events t.turn) in
      ap (events_by j) t.after ∙ (filter-append (is_by j) h t.events ∙ (ap (λ l. events_by j h ++ l) none ∙ append-nil (events_by j h)))

  plays_one : (x x' : Player) (h g : List Event) (r : Turned) → x.job ≡ j → Plays plan x h r g x' → OneTurn (is_idle r) h g
  plays_one x x' h g r is t =
      let turn : IsTurnBy plan j (waited_so_far plan x h) (known_in plan h j) t.visits t.acts t.events =
      subst (λ k. IsTurnBy plan k (waited_so_far plan x h) (known_in plan h k) t.visits t.acts t.events) is t.turn in
      let mine : events_by j t.events ≡ t.events = only_mine j t.events (turn_by plan j _ _ t.visits t.acts t.events turn) in
      record {
        waited = waited_so_far plan x h;
        visits = t.visits;
        acts = t.acts;
        events = t.events;
        own = ap (events_by j) t.after ∙ (filter-append (is_by j) h t.events ∙ ap (λ l. events_by j h ++ l) mine);
        turn = turn;
        none_lost = t.none_lost;
        none_done = λ idle. nothing_done r (count is_done t.visits + once t.acts) idle t.says;
      }

  round_none : (players players' : List Player) (idle : Bool) (h g : List Event)
      → Each (λ (i : ℕ). i ≢ j) (jobs_in players) → Round plan players idle h g players' → events_by j g ≡ events_by j h
  round_none [] players' idle h g apart is = ap (events_by j) is.0
  round_none (x ∷ players) players' idle h g apart (r, m, x', later, rest, t, more, idle_is, players_are) =
      round_none players rest later m g apart.1 more ∙ plays_none x x' h m r apart.0 t

  then_idle : (a b c : Bool) (n : ℕ) → c ≡ (a && b) → (a ≡ true → n ≡ 0) → c ≡ true → n ≡ 0
  then_idle a b c n is f idle = f (both_true a b (sym is ∙ idle)).0

  pub round_one : (players players' : List Player) (idle : Bool) (h g : List Event) → Distinct (jobs_in players)
      → Any (λ (i : ℕ). i ≡ j) (jobs_in players) → Round plan players idle h g players' → OneTurn idle h g
  round_one [] players' idle h g apart any is = absurd any
  round_one (x ∷ players) players' idle h g apart (inl same) (r, m, x', later, rest, t, more, idle_is, players_are) =
      let q : OneTurn (is_idle r) h m = plays_one x x' h m r same t in
      let still : events_by j g ≡ events_by j m =
      round_none players rest later m g (subst (λ z. Each (λ (k : ℕ). k ≢ z) (jobs_in players)) same apart.0) more in
      record {
        waited = q.waited;
        visits = q.visits;
        acts = q.acts;
        events = q.events;
        own = still ∙ q.own;
        turn = q.turn;
        none_lost = q.none_lost;
        none_done = then_idle (is_idle r) later idle (count is_done q.visits + once q.acts) idle_is q.none_done;
      }
  round_one (x ∷ players) players' idle h g apart (inr any) (r, m, x', later, rest, t, more, idle_is, players_are) =
      let still : events_by j m ≡ events_by j h = plays_none x x' h m r (away x.job j (jobs_in players) any apart.0) t in
      let q : OneTurn later m g = round_one players rest later m g apart.1 any more in
      record {
        waited = q.waited;
        visits = q.visits;
        acts = q.acts;
        events = q.events;
        own = q.own ∙ ap (λ l. l ++ q.events) still;
        turn = subst (λ l. IsTurnBy plan j q.waited (known_by plan l) q.visits q.acts q.events) still q.turn;
        none_lost = q.none_lost;
        none_done = λ is. q.none_done (both_true (is_idle r) later (sym idle_is ∙ is)).1;
      }

-- a round has the same players after it
pub round_jobs : (plan : LabPlan) (players players' : List Player) (idle : Bool) (h g : List Event)
    → Round plan players idle h g players' → jobs_in players' ≡ jobs_in players
round_jobs plan [] players' idle h g is = ap jobs_in is.2
round_jobs plan (x ∷ players) players' idle h g (r, m, x', later, rest, t, more, idle_is, players_are) =
    ap jobs_in players_are ∙ (λ i. (ap (λ (y : Player). y.job) t.counted i) ∷ round_jobs plan players rest later m g more i)

pub rounds_jobs : (plan : LabPlan) (players players' : List Player) (n : ℕ) (idle : Bool) (h g : List Event)
    → Rounds plan players n idle h g players' → jobs_in players' ≡ jobs_in players
rounds_jobs plan players players' zero idle h g is = ap jobs_in is.2
rounds_jobs plan players players' (suc n) idle h g (m, before, middle, rounds, going, last) =
    round_jobs plan middle players' idle m g last ∙ rounds_jobs plan players middle n before h m rounds

module _ (plan : LabPlan) (j : ℕ) (job : j < length plan.jobs) where
  abbrev RestsIn : List Event → Type 0
  RestsIn h = drinking (known_in plan h j) j ≢ Reaching

  one_rests : (idle : Bool) (h g : List Event) → OneTurn plan j idle h g → RestsIn h → RestsIn g
  one_rests idle h g q rests =
      let inside : j < length (known_in plan h j).seats =
      subst (λ n. j < n) (sym (learned_all_seats plan (the_opening plan) (events_by j h) ∙ opening_seats plan)) job in
      let known : known_in plan g j ≡ learned_all plan (known_in plan h j) q.events =
      ap (known_by plan) q.own ∙ learned_all-append plan (the_opening plan) (events_by j h) q.events in
      subst (λ (s : State). drinking s j ≢ Reaching) (sym known) (turn_rests plan j q.waited (known_in plan h j) q.visits q.acts q.events q.turn inside rests)

  -- after rounds no job reaches that didn't before
  pub rounds_rest : (players players' : List Player) (n : ℕ) (idle : Bool) (h g : List Event) → Distinct (jobs_in players)
      → Any (λ (i : ℕ). i ≡ j) (jobs_in players) → Rounds plan players n idle h g players' → RestsIn h → RestsIn g
  rounds_rest players players' zero idle h g apart any is rests = subst RestsIn (sym is.0) rests
  rounds_rest players players' (suc n) idle h g apart any (m, before, middle, rounds, going, last) rests =
      let same : jobs_in middle ≡ jobs_in players = rounds_jobs plan players middle n before h m rounds in
      one_rests idle m g (round_one plan j middle players' idle m g (subst Distinct (sym same) apart) (subst (Any (λ (i : ℕ). i ≡ j)) (sym same) any) last)
      (rounds_rest players middle n before h m apart any rounds rests)
