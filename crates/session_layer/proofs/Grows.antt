-- How a desk grows over turns: the groups of a turn stand unbroken in what the desk saw, and what was lost, was lost to another word.
use Rattle.std.proofs.Common.{◌≡◌, ◌≢◌, ℕ, zero, suc, ◌+◌, ◌<◌, Bool, true, false, not, ◌&&◌, if◌then◌else◌, List, [], ◌∷◌, ◌++◌, length, map, refl, sym, ap, ◌∙◌, subst, arith, inl, inr, append_assoc, append-nil}
use Rattle.lab_plan.specs.LabPlan.{LabPlan, edges}
use Rattle.legal_steps.specs.declared.edge_state.EdgeState.{EdgeState}
use Rattle.legal_steps.specs.declared.event.Event.{Event}
use Rattle.legal_steps.specs.declared.event.Event.TheVariants.{Look, AskFork, GiveFork, Soil, AskBottles, GiveBottles, Thirst, Hunger, Sit, Leave, Drink, Reach, Act, Quit, Retire, Glance, Withdraw}
use Rattle.legal_steps.specs.State.{State, edge, drinking}
use Rattle.legal_steps.specs.Run.{after_all}
use Rattle.legal_steps.specs.Opening.{the_opening}
use Rattle.legal_steps.proofs.FitsWrites.{edge_same}
use Rattle.edge_word.specs.Moves.{events_of, is_nothing}
use Rattle.turns.specs.History.{IsHistory, state_after, known_by, learned, learned_all}
use Rattle.turns.specs.Lists.{Each}
use Rattle.turns.specs.Patience.{Waited, one_more, waited_after, is_waiting}
use Rattle.turns.proofs.Runs.{after_all-append, legal-goes_on, learned_all-append, learned_all_edges, opening_edges, each-append}
use Rattle.turns.proofs.Local.{each_move}
use Rattle.edge_rule.specs.declared.clock.Clock.{Clock}
use Rattle.edge_rule.specs.DeskView.{DeskView, Adds, IsAtRest, known, shown, waited, waits, noted}
use Rattle.turns.specs.Acts.{whole_act, AreFirst, order}
use Rattle.turns.specs.Turn.{Visit, is_lost, visit_events, visits_events, IsTurnBy}
use Rattle.turns.specs.Turns.{Group, Did, Lost, AreGrouped, Stands, flat, but_glances, is_glance, visit_groups, visits_groups, turn_groups, waited_next}
use Rattle.session_layer.specs.declared.turning.Turned.{Turned}
use Rattle.session_layer.specs.Turn.{Visits, VisitsAll, DoesAll, Chosen, Took}
use Rattle.session_layer.specs.Grown.{Grew, TookTurns, turns_after, OneTurn, GlancesAlone, HearingAlone, TurnsGoOn}
use Rattle.turns.proofs.Idle.{no_events}
use Rattle.session_layer.proofs.EventTurns.{known_then, visits_did}

-- ---- groups that stand

module _ (plan : LabPlan) where
  -- the state after both parts
  pub after_both : (s : State) (h a b : List Event) → h ≡ a ++ b → after_all plan s h ≡ after_all plan (after_all plan s a) b
  after_both s h a b is = ap (after_all plan s) is ∙ after_all-append plan s a b

  pub stands_later : (s : State) (gs : List Group) (a b : List Event) → Stands plan (after_all plan s a) gs b → Stands plan s gs (a ++ b)
  stands_later s [] a b t = tt
  stands_later s (Did g ∷ gs) a b (before, after, is, rest) = (
    a ++ before,
    after,
    ap (λ z. a ++ z) is ∙ sym (append_assoc a before (g ++ after)),
    subst (λ (z : State). Stands plan z gs after) (sym (after_both s ((a ++ before) ++ g) a (before ++ g) (append_assoc a before g))) rest,
  )
  stands_later s (Lost e saw ∷ gs) a b (before, after, is, other, rest) = (
    a ++ before,
    after,
    ap (λ z. a ++ z) is ∙ sym (append_assoc a before after),
    subst (λ (z : State). edge z e ≢ saw) (sym (after_all-append plan s a before)) other,
    subst (λ (z : State). Stands plan z gs after) (sym (after_all-append plan s a before)) rest,
  )

  pub stands-append : (s : State) (gs hs : List Group) (a b : List Event)
      → Stands plan s gs a → Stands plan (after_all plan s a) hs b → Stands plan s (gs ++ hs) (a ++ b)
  stands-append s [] hs a b t u = stands_later s hs a b u
  stands-append s (Did g ∷ gs) hs a b (before, after, is, rest) u = (
    before,
    after ++ b,
    ap (λ z. z ++ b) is ∙ (append_assoc before (g ++ after) b ∙ ap (λ z. before ++ z) (append_assoc g after b)),
    stands-append (after_all plan s (before ++ g)) gs hs after b rest
        (subst (λ (z : State). Stands plan z hs b) (after_both s a (before ++ g) after (is ∙ sym (append_assoc before g after))) u),
  )
  stands-append s (Lost e saw ∷ gs) hs a b (before, after, is, other, rest) u = (
    before,
    after ++ b,
    ap (λ z. z ++ b) is ∙ append_assoc before after b,
    other,
    stands-append (after_all plan s before) gs hs after b rest (subst (λ (z : State). Stands plan z hs b) (after_both s a before after is) u),
  )

  pub stands_more : (s : State) (gs : List Group) (a b : List Event) → Stands plan s gs a → Stands plan s gs (a ++ b)
  stands_more s gs a b t = subst (λ z. Stands plan s z (a ++ b)) (append-nil gs) (stands-append s gs [] a b t tt)

pub flat-append : (a b : List Group) → flat (a ++ b) ≡ flat a ++ flat b
flat-append [] b = refl
flat-append (Did g ∷ a) b = ap (λ z. g ++ z) (flat-append a b) ∙ sym (append_assoc g (flat a) (flat b))
flat-append (Lost e saw ∷ a) b = flat-append a b

-- ---- how a desk grows

pub adds_rests : (d : DeskView) (g : List Event) (e : DeskView) → Adds d g e → IsAtRest d → IsAtRest e
adds_rests d g e a r = record {
  inside = subst (λ (z : LabPlan × ℕ). z.1 < length z.0.jobs) (λ i. (sym a.plan i, sym a.job i)) r.inside;
  legal = a.legal;
  whole = a.whole;
}

abbrev pub adds_grew : (d : DeskView) (g : List Event) (e : DeskView) → Adds d g e → Grew d g e
adds_grew d g e a = record {
  table = a.table;
  plan = a.plan;
  job = a.job;
  deeds = a.deeds;
  more = a.between ++ g;
  front = a.front ∙ append_assoc d.front a.between g;
  rests = adds_rests d g e a;
}

abbrev pub grew_none : (d : DeskView) → Grew d [] d
grew_none d = record { table = refl; plan = refl; job = refl; deeds = sym (append-nil d.deeds); more = []; front = sym (append-nil d.front); rests = λ r. r }

abbrev pub grew_then : (d m e : DeskView) (a b : List Event) → Grew d a m → Grew m b e → Grew d (a ++ b) e
grew_then d m e a b s t = record {
  table = t.table ∙ s.table;
  plan = t.plan ∙ s.plan;
  job = t.job ∙ s.job;
  deeds = t.deeds ∙ (ap (λ l. l ++ b) s.deeds ∙ append_assoc d.deeds a b);
  more = s.more ++ t.more;
  front = t.front ∙ (ap (λ l. l ++ t.more) s.front ∙ append_assoc d.front s.more t.more);
  rests = λ r. t.rests (s.rests r);
}

-- the same events under another name
abbrev pub grew_as : (d : DeskView) (a b : List Event) (e : DeskView) → a ≡ b → Grew d a e → Grew d b e
grew_as d a b e is g = record {
  table = g.table;
  plan = g.plan;
  job = g.job;
  deeds = g.deeds ∙ ap (λ z. d.deeds ++ z) is;
  more = g.more;
  front = g.front;
  rests = g.rests;
}

-- a noted turn changes the clock alone
abbrev grew_noted : (d : DeskView) (events : List Event) (e : DeskView) (thirsty : Bool) → Grew d events e → Grew d events (noted e thirsty)
grew_noted d events e thirsty g = record {
  table = g.table;
  plan = g.plan;
  job = g.job;
  deeds = g.deeds;
  more = g.more;
  front = g.front;
  rests = λ r. let x : IsAtRest e = g.rests r in record { inside = x.inside; legal = x.legal; whole = x.whole };
}

-- what the job knows after the desk grew
pub known_grown : (d e : DeskView) (events : List Event) → Grew d events e → known e ≡ learned_all d.plan (known d) events
known_grown d e events g = known_then d e events (record { plan = g.plan; job = g.job; deeds = g.deeds })

-- and what was seen of the history
pub shown_grown : (d e : DeskView) (events : List Event) (g : Grew d events e) → shown e ≡ after_all d.plan (shown d) g.more
shown_grown d e events g = (λ i. state_after (g.plan i) (g.front i)) ∙ after_all-append d.plan (the_opening d.plan) d.front g.more

-- the desk did these groups, in the middle of a turn
pub record Goes (d : DeskView) (groups : List Group) (e : DeskView) : Type 0 where
  pub grew : Grew d (flat groups) e
  pub clock : e.clock ≡ d.clock
  pub stands : Stands d.plan (shown d) groups grew.more

pub adds_goes : (d : DeskView) (g : List Event) (e : DeskView) → Adds d g e → Goes d (Did g ∷ []) e
adds_goes d g e a = record {
  grew = grew_as d g (g ++ []) e (sym (append-nil g)) (adds_grew d g e a);
  clock = a.clock;
  stands = (a.between, [], ap (λ z. a.between ++ z) (sym (append-nil g)), tt);
}

-- an exchange found another word than the one that its look saw
lost_goes : (d : DeskView) (n : ℕ) (saw : EdgeState) (e : DeskView) → Adds d [] e
    → edge (shown e) n ≢ edge (known d) n → edge (known d) n ≡ saw → Goes d (Lost n saw ∷ []) e
lost_goes d n saw e a other is = record {
  grew = adds_grew d [] e a;
  clock = a.clock;
  stands = (a.between, [], refl, (λ same. other (there ∙ (same ∙ sym is))), tt);
} where
  there : edge (shown e) n ≡ edge (after_all d.plan (shown d) a.between) n
  there = ap (λ (s : State). edge s n) (shown_grown d e [] (adds_grew d [] e a) ∙ ap (after_all d.plan (shown d)) (append-nil a.between))

goes_none : (d e : DeskView) → e ≡ d → Goes d [] e
goes_none d e is = subst (Goes d []) (sym is) (record { grew = grew_none d; clock = refl; stands = tt })

-- a group with nothing in it
goes_empty : (d e : DeskView) → e ≡ d → Goes d (Did [] ∷ []) e
goes_empty d e is = subst (Goes d (Did [] ∷ [])) (sym is) (record { grew = grew_none d; clock = refl; stands = ([], [], refl, tt) })

goes_then : (d m e : DeskView) (a b : List Group) → Goes d a m → Goes m b e → Goes d (a ++ b) e
goes_then d m e a b s t = record {
  grew = grew_as d (flat a ++ flat b) (flat (a ++ b)) e (sym (flat-append a b)) (grew_then d m e (flat a) (flat b) s.grew t.grew);
  clock = t.clock ∙ s.clock;
  stands = stands-append d.plan (shown d) a b s.grew.more t.grew.more s.stands
      (subst (λ (z : LabPlan × State). Stands z.0 z.1 b t.grew.more) (λ i. (s.grew.plan i, shown_grown d m (flat a) s.grew i)) t.stands);
}

-- ---- one turn

-- after a look, the edge is as it was seen, by the record
pub look_known : (d m : DeskView) (e : ℕ) (x : EdgeState) → Adds d (Look d.job e x ∷ []) m → edge (known m) e ≡ x
look_known d m e x a =
    let before : List Event = d.front ++ a.between in
    let last = legal-goes_on m.plan (the_opening m.plan) before (Look d.job e x ∷ []) (subst (IsHistory m.plan) a.front a.legal) in
    let s : State = known_by m.plan d.deeds in
    let long : length s.edges ≡ length (edges m.plan) = learned_all_edges m.plan (the_opening m.plan) d.deeds ∙ opening_edges m.plan in
    let inside = last.0.0.is_edge in
    ap (λ (h : List Event). edge (known_by m.plan h) e) a.deeds
    ∙ (ap (λ (s : State). edge s e) (learned_all-append m.plan (the_opening m.plan) d.deeds (Look d.job e x ∷ [])) ∙ edge_same s e x (omega arith))

tried : (d : DeskView) (v : Visit) (e : DeskView) (b c : Bool) → is_nothing v.moves ≡ b → edge (known d) v.edge ≡ v.saw
    → Chosen b (e ≡ d) (Chosen c (Adds d [] e × (edge (shown e) v.edge ≢ edge (known d) v.edge)) (Adds d (events_of v.moves d.job v.edge) e))
    → Goes d ((if not b && c then Lost v.edge v.saw else Did (events_of v.moves d.job v.edge)) ∷ []) e
tried d v e true c is saw t = subst (λ g. Goes d (Did g ∷ []) e) (sym (no_events v.moves d.job v.edge is)) (goes_empty d e t)
tried d v e false true is saw t = lost_goes d v.edge v.saw e t.0 t.1 saw
tried d v e false false is saw t = adds_goes d (events_of v.moves d.job v.edge) e t

pub visit_goes : (d : DeskView) (v : Visit) (e : DeskView) → Visits d v e → Goes d (visit_groups d.job v) e
visit_goes d v e t = subst (λ j. Goes d (Did (Look d.job v.edge v.saw ∷ []) ∷ (if is_lost v then Lost v.edge v.saw else Did (events_of v.moves j v.edge)) ∷ []) e)
    t.look.job (goes_then d t.looked e (Did (Look d.job v.edge v.saw ∷ []) ∷ []) _ (adds_goes d _ t.looked t.look)
    (tried t.looked v e (is_nothing v.moves) v.lost refl (look_known d t.looked v.edge v.saw t.look) t.tries))

pub visits_go : (d : DeskView) (vs : List Visit) (e : DeskView) → VisitsAll d vs e → Goes d (visits_groups d.job vs) e
visits_go d [] e is = goes_none d e is
visits_go d (v ∷ vs) e (m, first, later) = let a = visit_goes d v m first in
    subst (λ j. Goes d (visit_groups d.job v ++ visits_groups j vs) e) a.grew.job
    (goes_then d m e (visit_groups d.job v) (visits_groups m.job vs) a (visits_go m vs e later))

pub acts_go : (d : DeskView) (acts : List Event) (e : DeskView) → DoesAll d acts e → Goes d (map (λ (event : Event). Did (event ∷ [])) acts) e
acts_go d [] e is = goes_none d e is
acts_go d (x ∷ xs) e (m, first, later) =
    goes_then d m e (Did (x ∷ []) ∷ []) (map (λ (event : Event). Did (event ∷ [])) xs) (adds_goes d (x ∷ []) m first) (acts_go m xs e later)

module _ (j : ℕ) where
  flat_visit : (v : Visit) → flat (visit_groups j v) ≡ visit_events j v
  flat_visit v = ap (λ z. Look j v.edge v.saw ∷ z) (at (is_nothing v.moves) v.lost refl) where
    at : (b c : Bool) → is_nothing v.moves ≡ b
        → flat ((if not b && c then Lost v.edge v.saw else Did (events_of v.moves j v.edge)) ∷ []) ≡ (if c then [] else events_of v.moves j v.edge)
    at true true is = append-nil (events_of v.moves j v.edge) ∙ no_events v.moves j v.edge is
    at false true is = refl
    at true false is = append-nil (events_of v.moves j v.edge)
    at false false is = append-nil (events_of v.moves j v.edge)

  flat_visits : (vs : List Visit) → flat (visits_groups j vs) ≡ visits_events j vs
  flat_visits [] = refl
  flat_visits (v ∷ vs) = flat-append (visit_groups j v) (visits_groups j vs) ∙ (λ i. flat_visit v i ++ flat_visits vs i)

  flat_acts : (acts : List Event) → flat (map (λ (event : Event). Did (event ∷ [])) acts) ≡ acts
  flat_acts [] = refl
  flat_acts (x ∷ xs) = ap (λ z. x ∷ z) (flat_acts xs)

  -- the groups of a turn are its events
  pub flat_turn : (vs : List Visit) (acts : List Event) → flat (turn_groups j vs acts) ≡ visits_events j vs ++ acts
  flat_turn vs acts = flat-append (visits_groups j vs) (map (λ (event : Event). Did (event ∷ [])) acts) ∙ (λ i. flat_visits vs i ++ flat_acts acts i)

-- ---- a turn has no glance in it

abbrev IsPlain : Event → Type 0
IsPlain event = is_glance event ≡ false

but_plain : (events : List Event) → Each IsPlain events → but_glances events ≡ events
but_plain [] all = refl
but_plain (x ∷ xs) all = ap (λ (b : Bool). if b then but_glances xs else x ∷ but_glances xs) all.0 ∙ ap (λ l. x ∷ l) (but_plain xs all.1)

module _ (plan : LabPlan) (j : ℕ) where
  plain_if : (lost : Bool) (events : List Event) → Each IsPlain events → Each IsPlain (if lost then [] else events)
  plain_if true events all = tt
  plain_if false events all = all

  visits_plain : (vs : List Visit) → Each IsPlain (visits_events j vs)
  visits_plain [] = tt
  visits_plain (v ∷ vs) = each-append IsPlain (visit_events j v) (visits_events j vs) (
    refl,
    plain_if v.lost (events_of v.moves j v.edge) (each_move plan j v.edge IsPlain v.moves refl refl refl refl refl),
  ) (visits_plain vs)

  first_plain : (s : State) (w : ℕ) (list acts : List Event) → Each (λ x. Each IsPlain (whole_act x)) list → AreFirst plan s j w list acts → Each IsPlain acts
  first_plain s w [] acts all is = subst (Each IsPlain) (sym is) tt
  first_plain s w (x ∷ later) acts all (inl (counts, is)) = subst (Each IsPlain) (sym is) all.0
  first_plain s w (x ∷ later) acts all (inr (not_first, more)) = first_plain s w later acts all.1 more

  acts_plain : (s : State) (w : ℕ) (acts : List Event) → AreFirst plan s j w (order j) acts → Each IsPlain acts
  acts_plain s w acts due =
      first_plain s w (order j) acts (
        (refl, tt),
        ((refl, (refl, tt)), ((refl, tt), ((refl, tt), ((refl, tt), ((refl, tt), ((refl, tt), ((refl, tt), ((refl, tt), tt)))))))),
      ) due

pub but_turn : (plan : LabPlan) (j w : ℕ) (s : State) (vs : List Visit) (acts events : List Event)
    → IsTurnBy plan j w s vs acts events → but_glances events ≡ flat (turn_groups j vs acts)
but_turn plan j w s vs acts events t =
    ap but_glances t.events_are
    ∙ (but_plain (visits_events j vs ++ acts)
    (each-append IsPlain (visits_events j vs) acts (visits_plain plan j vs) (acts_plain plan j _ w acts t.acts_due)) ∙ sym (flat_turn j vs acts))

-- ---- turns

-- by which turn
pub took_by : (d : DeskView) (r : Turned) (e : DeskView) (t : Took d r e)
    → IsTurnBy d.plan d.job (waited d) (known d) t.visits t.acts (visits_events d.job t.visits ++ t.acts)
took_by d r e t = let a = visits_did d t.visits t.visited t.all in record {
  edges = t.edges;
  due = a.1;
  acts_due = subst (λ (z : LabPlan × State × ℕ). AreFirst z.0 z.1 z.2 (waited d) (order z.2) t.acts)
      (λ i. (a.0.plan i, known_then d t.visited (visits_events d.job t.visits) a.0 i, a.0.job i)) t.due;
  events_are = refl;
}

pub took_goes : (d : DeskView) (r : Turned) (e : DeskView) (t : Took d r e) → Goes d (turn_groups d.job t.visits t.acts) t.acted
took_goes d r e t = goes_then d t.visited t.acted (visits_groups d.job t.visits) (map (λ (event : Event). Did (event ∷ [])) t.acts)
    (visits_go d t.visits t.visited t.all) (acts_go t.visited t.acts t.acted t.does)

pub one_turn : OneTurn
one_turn = λ d r e t.
    let g = took_goes d r e t in
    let events : List Event = visits_events d.job t.visits ++ t.acts in
    let thirsty : Bool = is_waiting (drinking (known d) d.job) in
    let same : flat (turn_groups d.job t.visits t.acts) ≡ events = flat_turn d.job t.visits t.acts in
    let grown : Grew d events t.acted = grew_as d (flat (turn_groups d.job t.visits t.acts)) events t.acted same g.grew in
    let after : waited_after t.acted.job (waits t.acted.clock) thirsty (known t.acted) ≡ waited_next d.plan d.job (waits d.clock) (known d) events =
    λ i. waited_after (g.grew.job i) (waits (g.clock i)) thirsty (known_grown d t.acted events grown i) in
    subst (TookTurns 1 d) (sym t.noted_is) (record {
      events = events;
      grew = grew_noted d events t.acted thirsty grown;
      groups = turn_groups d.job t.visits t.acts;
      grouped = (t.visits, t.acts, events, [], sym (append-nil (turn_groups d.job t.visits t.acts)), took_by d r e t, (refl, after));
      all = but_turn d.plan d.job (waited d) (known d) t.visits t.acts events (took_by d r e t);
      stands = g.stands;
      counted = ap (λ (k : Clock). one_more 18446744073709551615 k.turns) g.clock;
    })

pub glances_alone : GlancesAlone
glances_alone = λ d e events g none clock. record {
  events = events;
  grew = g;
  groups = [];
  grouped = (refl, ap waits clock);
  all = none;
  stands = tt;
  counted = ap (λ (k : Clock). k.turns) clock;
}

pub hearing_alone : HearingAlone
hearing_alone = λ d e others h. glances_alone d e [] (record {
  table = h.table;
  plan = h.plan;
  job = h.job;
  deeds = h.deeds ∙ sym (append-nil d.deeds);
  more = h.more;
  front = h.front;
  rests = λ r. record {
    inside = subst (λ (z : LabPlan × ℕ). z.1 < length z.0.jobs) (λ i. (sym h.plan i, sym h.job i)) r.inside;
    legal = h.legal;
    whole = h.whole;
  };
}) refl h.clock

-- ---- turns after turns

pub but-append : (a b : List Event) → but_glances (a ++ b) ≡ but_glances a ++ but_glances b
but-append [] b = refl
but-append (x ∷ a) b = at (is_glance x) (but-append a b) where
  at : (c : Bool) → but_glances (a ++ b) ≡ but_glances a ++ but_glances b
      → (if c then but_glances (a ++ b) else x ∷ but_glances (a ++ b)) ≡ (if c then but_glances a else x ∷ but_glances a) ++ but_glances b
  at true e = e
  at false e = ap (λ l. x ∷ l) e

-- a Glance tells a job nothing
learned_glance : (plan : LabPlan) (s : State) (event : Event) → is_glance event ≡ true → learned plan s event ≡ s
learned_glance plan s (Glance j other seen) is = refl
learned_glance plan s (Look j e seen) is = absurd (cc)
learned_glance plan s (AskFork j e) is = absurd (cc)
learned_glance plan s (GiveFork j e) is = absurd (cc)
learned_glance plan s (Soil j e) is = absurd (cc)
learned_glance plan s (AskBottles j e set) is = absurd (cc)
learned_glance plan s (GiveBottles j e set) is = absurd (cc)
learned_glance plan s (Thirst j) is = absurd (cc)
learned_glance plan s (Hunger j) is = absurd (cc)
learned_glance plan s (Sit j) is = absurd (cc)
learned_glance plan s (Leave j) is = absurd (cc)
learned_glance plan s (Drink j) is = absurd (cc)
learned_glance plan s (Reach j) is = absurd (cc)
learned_glance plan s (Act j) is = absurd (cc)
learned_glance plan s (Quit j) is = absurd (cc)
learned_glance plan s (Retire j) is = absurd (cc)
learned_glance plan s (Withdraw j) is = absurd (cc)

pub learned_but : (plan : LabPlan) (s : State) (events : List Event) → learned_all plan s (but_glances events) ≡ learned_all plan s events
learned_but plan s [] = refl
learned_but plan s (x ∷ xs) = at (is_glance x) refl (λ t. learned_but plan t xs) where
  at : (c : Bool) → is_glance x ≡ c → ((t : State) → learned_all plan t (but_glances xs) ≡ learned_all plan t xs)
      → learned_all plan s (if c then but_glances xs else x ∷ but_glances xs) ≡ learned_all plan (learned plan s x) xs
  at true is rest = rest s ∙ ap (λ (z : State). learned_all plan z xs) (sym (learned_glance plan s x is))
  at false is rest = rest (learned plan s x)

pub grouped-append : (plan : LabPlan) (j n k : ℕ) (w v u : Waited) (s : State) (a b : List Group)
    → AreGrouped plan j n w s a v → AreGrouped plan j k v (learned_all plan s (flat a)) b u → AreGrouped plan j (n + k) w s (a ++ b) u
grouped-append plan j zero k w v u s a b (none, is) t =
    subst (λ (z : ℕ × Waited × List Group). AreGrouped plan j z.0 z.1 s (z.2 ++ b) u) (λ i. (zero_more i, is i, sym none i))
    (subst (λ (z : List Group). AreGrouped plan j k v (learned_all plan s (flat z)) b u) none t) where
      zero_more : k ≡ zero + k
      zero_more = omega arith
grouped-append plan j (suc n) k w v u s a b (visits, acts, first, later, is, turn, rest) t =
    subst (λ (z : ℕ). AreGrouped plan j z w s (a ++ b) u) one_more_there (
      visits,
      acts,
      first,
      later ++ b,
      ap (λ z. z ++ b) is ∙ append_assoc (turn_groups j visits acts) later b,
      turn,
      grouped-append plan j n k (waited_next plan j w s first) v u
          (learned_all plan s first) later b rest (subst (λ (z : State). AreGrouped plan j k v z b u) now t),
    ) where
      one_more_there : suc (n + k) ≡ suc n + k
      one_more_there = omega arith

      now : learned_all plan s (flat a) ≡ learned_all plan (learned_all plan s first) (flat later)
      now =
          ap (λ z. learned_all plan s (flat z)) is
          ∙ (ap (learned_all plan s) (flat-append (turn_groups j visits acts) later ∙ ap (λ z. z ++ flat later) (flat_turn j visits acts ∙ sym turn.events_are))
          ∙ learned_all-append plan s first (flat later))

turns_after-add : (n k turns : ℕ) → turns_after (n + k) turns ≡ turns_after k (turns_after n turns)
turns_after-add zero k turns = ap (λ (z : ℕ). turns_after z turns) none where
  none : zero + k ≡ k
  none = omega arith
turns_after-add (suc n) k turns = ap (λ (z : ℕ). turns_after z turns) one ∙ turns_after-add n k (one_more 18446744073709551615 turns) where
  one : suc n + k ≡ suc (n + k)
  one = omega arith

pub turns_go_on : TurnsGoOn
turns_go_on = λ n k d m e a t.
    let now : known m ≡ learned_all d.plan (known d) (flat a.groups) =
    known_grown d m a.events a.grew ∙ (sym (learned_but d.plan (known d) a.events) ∙ ap (learned_all d.plan (known d)) a.all) in
    record {
      events = a.events ++ t.events;
      grew = grew_then d m e a.events t.events a.grew t.grew;
      groups = a.groups ++ t.groups;
      grouped = grouped-append d.plan d.job n k (waits d.clock) (waits m.clock) (waits e.clock) (known d) a.groups t.groups a.grouped
          (subst (λ (z : LabPlan × ℕ × State). AreGrouped z.0 z.1 k (waits m.clock) z.2 t.groups (waits e.clock))
          (λ i. (a.grew.plan i, a.grew.job i, now i)) t.grouped);
      all = but-append a.events t.events ∙ ((λ i. a.all i ++ t.all i) ∙ sym (flat-append a.groups t.groups));
      stands = stands-append d.plan (shown d) a.groups t.groups a.grew.more t.grew.more a.stands
          (subst (λ (z : LabPlan × State). Stands z.0 z.1 t.groups t.grew.more) (λ i. (a.grew.plan i, shown_grown d m a.events a.grew i)) t.stands);
      counted = t.counted ∙ (ap (turns_after k) a.counted ∙ sym (turns_after-add n k d.clock.turns));
    }
