-- What a turn does to a history that all records are whole in later: it was whole before, and goes on with this turn alone.
use Rattle.std.proofs.Common.{◌≡◌, ◌≢◌, ℕ, zero, suc, ◌+◌, ◌<◌, Bool, true, false, if◌then◌else◌, ◌==◌, inl, inr, eq-eqb, List, [], ◌∷◌, ◌++◌, length, get_or, set, refl, sym, ap, ◌∙◌, subst, append_assoc, append-nil}
use Rattle.std.proofs.lemmas.List.Elements.{filter-append}
use mathlib.Core.Logic.{dite}
use native.Mathlib.Decide.{ℕ_discrete}
use Rattle.lab_plan.specs.LabPlan.{LabPlan}
use Rattle.legal_steps.specs.declared.event.Event.{Event}
use Rattle.legal_steps.specs.declared.event.Event.TheVariants.{Look, AskFork, GiveFork, Soil, AskBottles, GiveBottles, Thirst, Hunger, Sit, Leave, Drink, Reach, Act, Quit, Retire, Glance, Withdraw}
use Rattle.legal_steps.specs.State.{State, session, drinking}
use Rattle.legal_steps.specs.Legal.{May, after}
use Rattle.legal_steps.specs.Run.{IsLegalFrom, actor}
use Rattle.legal_steps.specs.Opening.{the_opening}
use Rattle.legal_steps.proofs.FitsLaw.{own_is_job}
use Rattle.turns.specs.History.{is_by, events_by, known_by, learned_all, state_after, IsHistory}
use Rattle.turns.specs.Lists.{StartsWith, Each}
use Rattle.turns.specs.Patience.{waited_in, waited_after, is_waiting}
use Rattle.turns.proofs.Runs.{legal-goes_on, append_self, each_map, only_mine}
use Rattle.edge_rule.specs.declared.clock.Clock.{Clock}
use Rattle.edge_rule.specs.DeskView.{DeskView, BenchView, Owns, IsAtRest, known, waits, noted}
use Rattle.edge_rule.specs.Company.{jobs_of}
use Rattle.edge_rule.specs.Telling.{Heard}
use Rattle.edge_rule.specs.Ending.{Any}
use Rattle.edge_rule.proofs.ManyHands.{each_begin, each_end}
use Rattle.turns.specs.Turn.{IsTurnBy, visits_events, is_lost, count, is_done, once}
use Rattle.turns.specs.Turns.{turn_groups, flat}
use Rattle.session_layer.specs.declared.turning.Turned.{Turned}
use Rattle.session_layer.specs.Turn.{Took, Says}
use Rattle.session_layer.specs.Grown.{Grew}
use Rattle.session_layer.proofs.Grows.{Goes, took_goes, took_by, visits_go, acts_go, flat_turn, grew_as, known_grown}
use Rattle.rounds.specs.Company.{AllOf, IsWhole, Spread, Company}
use Rattle.rounds.specs.Rounds.{known_in, player_of, Plays}
use Rattle.rounds.proofs.Lists.{append_cancel, nil_left, starts_then, each_at, each_set, each_but}
use Rattle.rounds.proofs.Alone.{AreBy, parts, visits_alone}

-- who acts is one of the plan's jobs
pub acts_inside : (plan : LabPlan) (s : State) (event : Event) → May plan s event → actor event < length plan.jobs
acts_inside plan s (Look j e seen) may = own_is_job plan j e may.0
acts_inside plan s (AskFork j e) may = own_is_job plan j e may.0
acts_inside plan s (GiveFork j e) may = own_is_job plan j e may.0
acts_inside plan s (Soil j e) may = own_is_job plan j e may.0
acts_inside plan s (AskBottles j e set) may = own_is_job plan j e may.0
acts_inside plan s (GiveBottles j e set) may = own_is_job plan j e may.0
acts_inside plan s (Thirst j) may = may.0
acts_inside plan s (Hunger j) may = may.0
acts_inside plan s (Sit j) may = may.0
acts_inside plan s (Leave j) may = may.0
acts_inside plan s (Drink j) may = may.0
acts_inside plan s (Reach j) may = may.0
acts_inside plan s (Act j) may = may.0
acts_inside plan s (Quit j) may = may.0
acts_inside plan s (Retire j) may = may.0
acts_inside plan s (Glance j other seen) may = may.0
acts_inside plan s (Withdraw j) may = may.0

module _ (plan : LabPlan) where
  -- a part in which the others did nothing has the job's events alone
  all_by : (j : ℕ) (s : State) (l : List Event) → IsLegalFrom plan s l → ((m : ℕ) → m < length plan.jobs → m ≢ j → events_by m l ≡ []) → AreBy j l
  all_by j s [] legal none = tt
  all_by j s (x ∷ l) legal none = dite (ℕ_discrete (actor x) j)
      (λ is. (is, all_by j (after plan s x) l legal.1 (λ m inside apart. less m (none m inside apart))))
      (λ other. let q : x ∷ events_by (actor x) l
      ≡ [] = sym (ap (λ (c : Bool). if c then x ∷ events_by (actor x) l else events_by (actor x) l) (eq-eqb (actor x) (actor x) refl))
      ∙ none (actor x) (acts_inside plan s x legal.0) other in
      absurd (cc))
    where
      less : (m : ℕ) → events_by m (x ∷ l) ≡ [] → events_by m l ≡ []
      less m e = at (actor x == m) e where
        at : (c : Bool) → (if c then x ∷ events_by m l else events_by m l) ≡ [] → events_by m l ≡ []
        at true q = absurd (cc)
        at false q = q

  -- a legal part in which none of the jobs does anything
  pub none_left : (s : State) (l : List Event) → IsLegalFrom plan s l → ((m : ℕ) → m < length plan.jobs → events_by m l ≡ []) → l ≡ []
  none_left s [] legal none = refl
  none_left s (x ∷ l) legal none =
      let q : x ∷ events_by (actor x) l ≡ [] =
      sym (ap (λ (c : Bool). if c then x ∷ events_by (actor x) l else events_by (actor x) l) (eq-eqb (actor x) (actor x) refl))
      ∙ none (actor x) (acts_inside plan s x legal.0) in
      absurd (cc)

  -- a history that has of each job as much as its beginning is no longer
  pub no_more : (h g : List Event) → StartsWith g h → IsHistory plan g → ((m : ℕ) → m < length plan.jobs → events_by m g ≡ events_by m h) → g ≡ h
  no_more h g s legal same =
      s.1 ∙ (ap (λ l. h ++ l) (none_left (state_after plan h) s.0 (legal-goes_on plan (the_opening plan) h s.0 (subst (IsHistory plan) s.1 legal))
      (λ m l. append_self (events_by m h) (events_by m s.0) (sym (filter-append (is_by m) h s.0) ∙ (ap (events_by m) (sym s.1) ∙ same m l)))) ∙ append-nil h)

-- a job whose desk stayed did nothing
others : (l : List DeskView) (k : ℕ) (x y : DeskView) (m : ℕ) (f g : List Event) → x ≡ get_or l k x → m ≢ x.job
    → Any (λ (j : ℕ). j ≡ m) (jobs_of l) → IsWhole f l → IsWhole g (set l k y) → events_by m g ≡ events_by m f
others [] k x y m f g is apart any a b = absurd any
others (d ∷ l) zero x y m f g is apart (inl h) a b = absurd (apart (sym h ∙ ap (λ (z : DeskView). z.job) (sym is)))
others (d ∷ l) zero x y m f g is apart (inr h) a b = same l h a.1 b.1 where
  same : (l : List DeskView) → Any (λ (j : ℕ). j ≡ m) (jobs_of l) → IsWhole f l → IsWhole g l → events_by m g ≡ events_by m f
  same [] any a b = absurd any
  same (d ∷ l) (inl h) a b = subst (λ (z : ℕ). events_by z g ≡ events_by z f) h (b.0 ∙ sym a.0)
  same (d ∷ l) (inr h) a b = same l h a.1 b.1
others (d ∷ l) (suc k) x y m f g is apart (inl h) a b = subst (λ (z : ℕ). events_by z g ≡ events_by z f) h (b.0 ∙ sym a.0)
others (d ∷ l) (suc k) x y m f g is apart (inr h) a b = others l k x y m f g is apart h a.1 b.1

-- a job that has as much in the whole as in a part has as much in between
pub squeeze : (m : ℕ) (f h g : List Event) → StartsWith h f → StartsWith g h → events_by m f ≡ events_by m g → events_by m h ≡ events_by m f
squeeze m f h g s t same = let a : List Event = events_by m s.0 in let b : List Event = events_by m t.0 in
    let h_is : events_by m h ≡ events_by m f ++ a = ap (events_by m) s.1 ∙ filter-append (is_by m) f s.0 in
    let g_is : events_by m g ≡ events_by m f ++ (a ++ b) =
    ap (events_by m) t.1 ∙ (filter-append (is_by m) h t.0 ∙ (ap (λ z. z ++ b) h_is ∙ append_assoc (events_by m f) a b)) in
    h_is ∙ (ap (λ z. events_by m f ++ z) (nil_left a b (append_self (events_by m f) (a ++ b) (sym g_is ∙ sym same))) ∙ append-nil (events_by m f))

-- what is whole later was whole before
pub whole_before : (l : List DeskView) (h g : List Event) → StartsWith g h
    → Each (λ (d : DeskView). StartsWith h d.front) l → Each IsAtRest l → IsWhole g l → IsWhole h l
whole_before [] h g t s f w = tt
whole_before (d ∷ l) h g t s f w = (squeeze d.job d.front h g s.0 t (f.0.whole ∙ sym w.0) ∙ f.0.whole, whole_before l h g t s.1 f.1 w.1)

was_whole : (l : List DeskView) (k : ℕ) (x y : DeskView) (h g : List Event) → x ≡ get_or l k x → StartsWith g h
    → Each (λ (d : DeskView). StartsWith h d.front) l → Each IsAtRest l → events_by x.job h ≡ x.deeds → IsWhole g (set l k y) → IsWhole h l
was_whole [] k x y h g is t s f here w = tt
was_whole (d ∷ l) zero x y h g is t s f here w = (subst (λ (z : DeskView). events_by z.job h ≡ z.deeds) is here, whole_before l h g t s.1 f.1 w.1)
was_whole (d ∷ l) (suc k) x y h g is t s f here w =
    (squeeze d.job d.front h g s.0 t (f.0.whole ∙ sym w.0) ∙ f.0.whole, was_whole l k x y h g is t s.1 f.1 here w.1)

pub company_of : (b : BenchView) (h : List Event) (l : List DeskView) → Spread b h l → IsWhole h l → Company b h l
company_of b h l s w = record { own = s.own; rest = s.rest; legal = s.legal; starts = s.starts; whole = w }

-- a desk that hears is at rest
pub heard_rests : (x : DeskView) (news : List Event) (y : DeskView) → IsAtRest x → Heard x news y → IsAtRest y
heard_rests x news y r h = record {
  inside = subst (λ (z : LabPlan × ℕ). z.1 < length z.0.jobs) (λ i. (sym h.plan i, sym h.job i)) r.inside;
  legal = h.legal;
  whole = h.whole;
}

-- ---- one turn of a desk

module _ (y : DeskView) (r : Turned) (d' : DeskView) (t : Took y r d') where
  abbrev pub did : List Event
  did = visits_events y.job t.visits ++ t.acts

  went : Goes y (turn_groups y.job t.visits t.acts) t.acted
  went = took_goes y r d' t

  pub acted_grew : Grew y did t.acted
  acted_grew = grew_as y (flat (turn_groups y.job t.visits t.acts)) did t.acted (flat_turn y.job t.visits t.acts) went.grew

  -- a noted turn changes the clock alone
  rested : (e : DeskView) → IsAtRest e → IsAtRest (noted e (is_waiting (drinking (known y) y.job)))
  rested e x = record { inside = x.inside; legal = x.legal; whole = x.whole }

  pub took_grew : Grew y did d'
  took_grew = record {
    table = ap (λ (z : DeskView). z.table) t.noted_is ∙ acted_grew.table;
    plan = ap (λ (z : DeskView). z.plan) t.noted_is ∙ acted_grew.plan;
    job = ap (λ (z : DeskView). z.job) t.noted_is ∙ acted_grew.job;
    deeds = ap (λ (z : DeskView). z.deeds) t.noted_is ∙ acted_grew.deeds;
    more = acted_grew.more;
    front = ap (λ (z : DeskView). z.front) t.noted_is ∙ acted_grew.front;
    rests = λ x. subst IsAtRest (sym t.noted_is) (rested t.acted (acted_grew.rests x));
  }

  -- where nobody else did anything, no exchange was lost
  pub took_alone : IsAtRest y → AreBy y.job took_grew.more → count is_lost t.visits ≡ 0
  unfolding acted_grew took_grew
  took_alone rest alone = let a = visits_go y t.visits t.visited t.all in let b = acts_go t.visited t.acts t.acted t.does in
      visits_alone y t.visits t.visited a.grew.more rest t.all a.grew.front
      (each_begin (λ (x : Event). actor x ≡ y.job) a.grew.more b.grew.more (subst (AreBy y.job)
      (parts y.front t.visited.front t.acted.front a.grew.more b.grew.more acted_grew.more a.grew.front b.grew.front acted_grew.front) alone))

  -- the clock after it
  pub took_clock : (plan : LabPlan) (j : ℕ) (k : Clock) (s : State) → y.plan ≡ plan → y.job ≡ j → y.clock ≡ k → known y ≡ s
      → player_of d' ≡ record { job = j; waited = waited_after j (waits k) (is_waiting (drinking s j)) (learned_all plan s did) }
  took_clock plan j k s is_plan is_job is_clock is_known = ap player_of t.noted_is
      ∙ (λ i. record {
        job = (acted_grew.job ∙ is_job) i;
        waited = waited_after ((acted_grew.job ∙ is_job) i) (waits ((went.clock ∙ is_clock) i)) (is_waiting (drinking (is_known i) (is_job i)))
            ((known_grown y t.acted did acted_grew ∙ (λ l. learned_all (is_plan l) (is_known l) did)) i);
      })

-- ---- a desk hears what was seen, and takes a turn

pub owns_on : (b : BenchView) (x y d' : DeskView) (r : Turned) (F : List Event) → Owns b x → Heard x F y → Took y r d' → Owns b d'
owns_on b x y d' r F own heard t = let g = took_grew y r d' t in (g.table ∙ (heard.table ∙ own.0), g.plan ∙ (heard.plan ∙ own.1))

pub job_on : (x y d' : DeskView) (r : Turned) (F : List Event) → Heard x F y → Took y r d' → d'.job ≡ x.job
job_on x y d' r F heard t = (took_grew y r d' t).job ∙ heard.job

module _ (b : BenchView) (l : List DeskView) (k : ℕ) (x y d' : DeskView) (r : Turned) (F G : List Event) (joint : Spread b F l) (all : AllOf b.plan (jobs_of l))
    (inside : k < length l) (is : x ≡ get_or l k x) (heard : Heard x F y) (t : Took y r d') (end : G ≡ d'.front) (legal : IsHistory b.plan G) where
  g : Grew y (did y r d' t) d'
  g = took_grew y r d' t

  abbrev delta : List Event
  delta = heard.starts.0 ++ g.more

  goes_is : G ≡ F ++ delta
  goes_is = end ∙ (g.front ∙ (ap (λ z. z ++ g.more) heard.starts.1 ∙ append_assoc F heard.starts.0 g.more))

  own_x : Owns b x
  own_x = each_at (Owns b) l k x inside is joint.own

  rest_x : IsAtRest x
  rest_x = each_at IsAtRest l k x inside is joint.rest

  rest_y : IsAtRest y
  rest_y = heard_rests x F y rest_x heard

  here : events_by x.job F ≡ x.deeds
  here = squeeze x.job x.front F y.front (each_at (λ (d : DeskView). StartsWith F d.front) l k x inside is joint.starts) heard.starts
      (rest_x.whole ∙ sym ((λ i. events_by (sym heard.job i) y.front) ∙ (heard.whole ∙ heard.deeds))) ∙ rest_x.whole

  pub spread_on : Spread b G (set l k d')
  spread_on = record {
    own = each_but (Owns b) l k d' joint.own (owns_on b x y d' r F own_x heard t);
    rest = each_but IsAtRest l k d' joint.rest (g.rests rest_y);
    legal = legal;
    starts = each_but (λ (d : DeskView). StartsWith G d.front) l k d'
        (each_map (λ (d : DeskView). StartsWith F d.front) (λ (d : DeskView). StartsWith G d.front)
        (λ d s. starts_then G F d.front (delta, goes_is) s) l joint.starts) ([], end ∙ sym (append-nil d'.front));
  }

  module _ (w : IsWhole G (set l k d')) where
    pub whole_then : IsWhole F l
    whole_then = was_whole l k x d' F G is (delta, goes_is) joint.starts joint.rest here w

    none : (m : ℕ) → m < length b.plan.jobs → m ≢ x.job → events_by m delta ≡ []
    none m small apart = append_self (events_by m F) (events_by m delta) (sym (filter-append (is_by m) F delta)
        ∙ (ap (events_by m) (sym goes_is) ∙ others l k x d' m F G is apart (all m small) whole_then w))

    mine : AreBy x.job delta
    mine = all_by b.plan x.job (state_after b.plan F) delta (legal-goes_on b.plan (the_opening b.plan) F delta (subst (IsHistory b.plan) goes_is legal)) none

    is_plan : y.plan ≡ b.plan
    is_plan = heard.plan ∙ own_x.1

    knew : known y ≡ known_in b.plan F x.job
    knew = λ i. known_by (is_plan i) ((heard.deeds ∙ sym here) i)

    whole_after : events_by x.job G ≡ d'.deeds
    whole_after = (λ i. events_by (sym (job_on x y d' r F heard t) i) G) ∙ each_set (λ (d : DeskView). events_by d.job G ≡ d.deeds) l k d' inside w

    same : delta ≡ did y r d' t
    same = sym (only_mine x.job delta mine) ∙ append_cancel x.deeds (events_by x.job delta) (did y r d' t)
        (ap (λ z. z ++ events_by x.job delta) (sym here) ∙ (sym (filter-append (is_by x.job) F delta)
        ∙ (ap (events_by x.job) (sym goes_is) ∙ (whole_after ∙ (g.deeds ∙ ap (λ z. z ++ did y r d' t) heard.deeds)))))

    none_lost : count is_lost t.visits ≡ 0
    unfolding took_grew g
    none_lost =
        took_alone y r d' t rest_y (subst (λ j. AreBy j g.more) (sym heard.job) (each_end (λ (x' : Event). actor x' ≡ x.job) heard.starts.0 g.more mine))

    pub played : Plays b.plan (player_of x) F r G (player_of d')
    played = record {
      visits = t.visits;
      acts = t.acts;
      events = did y r d' t;
      after = goes_is ∙ ap (λ z. F ++ z) same;
      turn = subst (λ (z : LabPlan × ℕ × Clock × State). IsTurnBy z.0 z.1 (waited_in (waits z.2) (session z.3 z.1)) z.3 t.visits t.acts (did y r d' t))
          (λ i. (is_plan i, heard.job i, heard.clock i, knew i)) (took_by y r d' t);
      none_lost = none_lost;
      says = subst (Says r (count is_done t.visits + once t.acts)) none_lost t.says;
      counted = took_clock y r d' t b.plan x.job x.clock (known_in b.plan F x.job) is_plan heard.job heard.clock knew;
    }
