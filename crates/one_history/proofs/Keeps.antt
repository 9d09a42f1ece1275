-- A step that adds a group of events of one job keeps the rule: what each kind of step owes is that the group is legal, by its own seat and the one word.
use Rattle.std.proofs.Common.{◌≡◌, ◌≢◌, ℕ, ◌<◌, List, [], ◌∷◌, ◌++◌, length, get_or, set, refl, sym, ap, ◌∙◌, subst, inl, inr, arith, append-nil, length-set, get_or-set_other, get_or-set_same}
use Rattle.std.proofs.lemmas.Bool.{cases_eq}
use Rattle.std.proofs.lemmas.List.Elements.{filter-append}
use mathlib.Core.Option.{Option, some}
use lib.ListN.{get_elem?}
use Rattle.atomic_table.specs.Table.{State as TableState}
use Rattle.atomic_table.proofs.Lists.{at_set}
use Rattle.lab_plan.specs.LabPlan.{LabPlan, edges}
use Rattle.instrument_log.specs.declared.entry.Entry.{Entry}
use Rattle.instrument_log.specs.InstrumentLog.{LogView}
use Rattle.legal_steps.specs.declared.edge_state.EdgeState.{EdgeState}
use Rattle.legal_steps.specs.declared.phase.JobState.{JobState}
use Rattle.legal_steps.specs.declared.event.Event.{Event}
use Rattle.legal_steps.specs.State.{State, edge, seat, phase, log}
use Rattle.legal_steps.specs.Run.{IsLegalFrom, after_all, actor}
use Rattle.legal_steps.specs.Opening.{the_opening}
use Rattle.legal_steps.specs.WholeLogs.{room_of}
use Rattle.edge_word.specs.Words.{word_of}
use Rattle.edge_word.specs.Phases.{phase_word_of}
use Rattle.one_history.specs.declared.board.Hand.{Hand}
use Rattle.one_history.specs.declared.board.View.{View}
use Rattle.turns.specs.History.{is_by, events_by, known_by, IsHistory, state_after}
use Rattle.one_history.specs.Rule.{edge_place, phase_place, Homed, Spelled, Held, Sees, HasOneHistory}
use Rattle.turns.specs.Reaching.{IsReachingFor}
use Rattle.turns.specs.Lists.{StartsWith, Each}
use Rattle.one_history.specs.Grow.{hand_in, rest_hands, adding, IsLed, mine, Grows}
use Rattle.turns.proofs.Runs.{after_all-append, legal-append, own_known, only_mine, none_theirs, each_map, starts_longer}

module _ (p : LabPlan) where
  -- the view after the group g was added to the history h
  abbrev pub grown : View → List Event → List Event → View
  grown v h g = record { hands = adding (hand_in v) g ∷ rest_hands v.hands; front = h ++ g; told = [] }

  sees_else : (h g : List Event) (owner : ℕ → ℕ) (id j other : ℕ) (v : View) → Each (λ (x : Event). actor x ≡ j) g
      → owner j ≡ id → other ≢ id → Sees p h owner other v → Sees p (h ++ g) owner other v
  sees_else h g owner id j other v by own apart f = record {
    front = starts_longer h g v.front f.front;
    told = each_map (StartsWith h) (StartsWith (h ++ g)) (λ l s. starts_longer h g l s) v.told f.told;
    hands = each_map (Held p h owner other) (Held p (h ++ g) owner other)
        (λ x t. (
          t.0,
          filter-append (is_by x.job) h g ∙ (ap (λ l. events_by x.job h ++ l) (none_theirs j x.job g (λ e. apart (sym t.2 ∙ (ap owner e ∙ own))) by)
              ∙ (append-nil (events_by x.job h) ∙ t.1)),
          t.2,
        )) v.hands f.hands;
  }

  pub held_in : (h : List Event) (owner : ℕ → ℕ) (id : ℕ) (v : View) → IsLed v → Sees p h owner id v → Held p h owner id (hand_in v)
  held_in h owner id v led f = (subst (Each (Held p h owner id)) led.0 f.hands).0

  held_more : (h g : List Event) (owner : ℕ → ℕ) (id : ℕ) (x : Hand)
      → Each (λ (y : Event). actor y ≡ x.job) g → Held p h owner id x → Held p (h ++ g) owner id (adding x g)
  held_more h g owner id x by t = (t.0, filter-append (is_by x.job) h g ∙ (λ i. t.1 i ++ only_mine x.job g by i), t.2)

  -- hands of other jobs stay true
  held_else : (h g : List Event) (owner : ℕ → ℕ) (id j : ℕ) (l : List Hand) → Each (λ (x : Event). actor x ≡ j) g
      → Each (λ (y : Hand). y.job ≢ j) l → Each (Held p h owner id) l → Each (Held p (h ++ g) owner id) l
  held_else h g owner id j [] by apart e = tt
  held_else h g owner id j (y ∷ l) by apart e = (
    (
      e.0.0,
      filter-append (is_by y.job) h g ∙ (ap (λ r. events_by y.job h ++ r) (none_theirs j y.job g apart.0 by) ∙ (append-nil (events_by y.job h) ∙ e.0.1)),
      e.0.2,
    ),
    held_else h g owner id j l by apart.1 e.1,
  )

  rest_held : (h g : List Event) (owner : ℕ → ℕ) (id : ℕ) (v : View) → IsLed v → Each (λ (x : Event). actor x ≡ (hand_in v).job) g
      → Sees p h owner id v → Each (Held p (h ++ g) owner id) (rest_hands v.hands)
  rest_held h g owner id v led by f = held_else h g owner id (hand_in v).job (rest_hands v.hands) by led.1 (subst (Each (Held p h owner id)) led.0 f.hands).1

  -- The general step: a group of legal events of one job is added
  pub appends : (s : TableState LogView View) (k : HasOneHistory p s) (id : ℕ) (v : View) → get_elem? s.views id ≡ some v → IsLed v
      → (g : List Event) → Each (λ (x : Event). actor x ≡ (hand_in v).job) g → IsLegalFrom p (state_after p k.history) g
      → (ws : List ℕ) → Spelled p (after_all p (state_after p k.history) g) ws
      → (hs : List (Option LogView)) → Homed p (after_all p (state_after p k.history) g) hs
      → HasOneHistory p record { words = ws; homes = hs; views = set s.views id (grown v k.history g) }
  appends s k id v at led g by legal ws spelled hs homed =
      let h : List Event = k.history in
      let t = held_in h k.owner id v led (k.seats id v at) in
      let same = after_all-append p (the_opening p) h g in
      record {
        is_plan = k.is_plan;
        history = h ++ g;
        owner = k.owner;
        legal = legal-append p (the_opening p) h g k.legal legal;
        words = subst (λ z. Spelled p z ws) (sym same) spelled;
        homes = subst (λ z. Homed p z hs) (sym same) homed;
        seats = λ other u e. elim (at_set s.views id other (grown v h g) u e) [
          | inl q ↦ subst (λ (z : ℕ × View). Sees p (h ++ g) k.owner z.0 z.1) (λ i. (sym q.0 i, q.1 i))
              (record {
                front = ([], sym (append-nil (h ++ g)));
                told = tt;
                hands = (held_more h g k.owner id (hand_in v) by t, rest_held h g k.owner id v led by (k.seats id v at));
              })
          | inr q ↦ sees_else h g k.owner id (hand_in v).job other u by t.2 q.0 (k.seats other u q.1)
        ];
      }

  pub tells : (s : TableState LogView View) (k : HasOneHistory p s) (id : ℕ) (v : View) → get_elem? s.views id ≡ some v → IsLed v
      → (g : List Event) → Each (λ (x : Event). actor x ≡ (hand_in v).job) g → IsLegalFrom p (state_after p k.history) g → Grows v g (grown v k.history g)
  tells s k id v at led g by legal = let h : List Event = k.history in let f = k.seats id v at in let t = held_in h k.owner id v led f in record {
    hands = refl;
    between = f.front.0;
    front = ap (λ l. l ++ g) f.front.1;
    told = each_map (StartsWith h) (StartsWith (h ++ g)) (λ l s. starts_longer h g l s) v.told f.told;
    none_told = refl;
    legal = subst (λ (q : LabPlan). IsHistory q (h ++ g)) (sym t.0) (legal-append p (the_opening p) h g k.legal legal);
    whole = (held_more h g k.owner id (hand_in v) by t).1;
    beside = each_map (Held p (h ++ g) k.owner id) (λ (y : Hand). events_by y.job (h ++ g) ≡ y.deeds)
        (λ y q. q.1) (rest_hands v.hands) (rest_held h g k.owner id v led by f);
  }

  -- what a job is in the state is what it knows by its record
  pub known : (s : TableState LogView View) (k : HasOneHistory p s) (id : ℕ) (v : View) → get_elem? s.views id ≡ some v → IsLed v
      → (hand_in v).job < length p.jobs → seat (state_after p k.history) (hand_in v).job ≡ seat (mine v) (hand_in v).job
  known s k id v at led job = let t = held_in k.history k.owner id v led (k.seats id v at) in
      own_known p (hand_in v).job k.history job ∙ (λ i. seat (known_by (sym t.0 i) (t.1 i)) (hand_in v).job)

  -- ---- the words after a step

  pub spelled_still : (w w' : State) (ws : List ℕ) → ((e : ℕ) → edge w' e ≡ edge w e) → ((j : ℕ) → phase w' j ≡ phase w j) → Spelled p w ws → Spelled p w' ws
  spelled_still w w' ws same_edges same_phases t = record {
    wide = t.wide;
    edge_words = λ e l. t.edge_words e l ∙ ap word_of (sym (same_edges e));
    phase_words = λ j l. t.phase_words j l ∙ ap phase_word_of (sym (same_phases j));
  }

  pub spelled_edge : (w w' : State) (ws : List ℕ) (e : ℕ) (x : EdgeState) → e < length (edges p) → edge w' e ≡ x
      → ((f : ℕ) → f ≢ e → edge w' f ≡ edge w f) → ((j : ℕ) → phase w' j ≡ phase w j) → Spelled p w ws
      → Spelled p w' (set ws (edge_place e) (word_of x))
  spelled_edge w w' ws e x inside here others phases t = let wide = t.wide in record {
    wide = length-set ws (edge_place e) (word_of x) ∙ wide;
    edge_words = λ f l. elim (cases_eq f e) [
      | inl is ↦ ap (λ (z : ℕ). get_or (set ws (edge_place e) (word_of x)) (edge_place z) 0) is
          ∙ (get_or-set_same ws (edge_place e) (word_of x) 0 (omega arith) ∙ ap word_of (sym here ∙ ap (edge w') (sym is)))
      | inr ne ↦ get_or-set_other ws (edge_place e) (edge_place f) (word_of x) 0 (λ is. ne (omega arith)) ∙ (t.edge_words f l ∙ ap word_of (sym (others f ne)))
    ];
    phase_words = λ j l. get_or-set_other ws (edge_place e) (phase_place p j) (word_of x) 0 (λ is. omega arith)
        ∙ (t.phase_words j l ∙ ap phase_word_of (sym (phases j)));
  }

  pub spelled_phase : (w w' : State) (ws : List ℕ) (j : ℕ) (x : JobState) → j < length p.jobs → phase w' j ≡ x
      → ((e : ℕ) → edge w' e ≡ edge w e) → ((k : ℕ) → k ≢ j → phase w' k ≡ phase w k) → Spelled p w ws
      → Spelled p w' (set ws (phase_place p j) (phase_word_of x))
  spelled_phase w w' ws j x inside here same_edges others t = let wide = t.wide in record {
    wide = length-set ws (phase_place p j) (phase_word_of x) ∙ wide;
    edge_words = λ e l. get_or-set_other ws (phase_place p j) (edge_place e) (phase_word_of x) 0 (λ is. omega arith)
        ∙ (t.edge_words e l ∙ ap word_of (sym (same_edges e)));
    phase_words = λ k l. elim (cases_eq k j) [
      | inl is ↦ ap (λ (z : ℕ). get_or (set ws (phase_place p j) (phase_word_of x)) (phase_place p z) 0) is
          ∙ (get_or-set_same ws (phase_place p j) (phase_word_of x) 0 (omega arith) ∙ ap phase_word_of (sym here ∙ ap (phase w') (sym is)))
      | inr ne ↦ get_or-set_other ws (phase_place p j) (phase_place p k) (phase_word_of x) 0 (λ is. ne (omega arith))
          ∙ (t.phase_words k l ∙ ap phase_word_of (sym (others k ne)))
    ];
  }

  -- ---- the homes after a step that changes no log

  pub homed_still : (w w' : State) (hs : List (Option LogView)) → ((i : ℕ) → log w' i ≡ log w i)
      → ((j i : ℕ) → IsReachingFor p w j i → IsReachingFor p w' j i) → Homed p w hs → Homed p w' hs
  homed_still w w' hs logs out t = record {
    deep = t.deep;
    slots = λ i l. elim (t.slots i l) [
      | inl q ↦ inl (q ∙ ap (λ (y : List Entry). some (some (record { entries = y; room = room_of p i }))) (sym (logs i)))
      | inr q ↦ inr (q.0, (q.1.0, out q.1.0 i q.1.1))
    ];
  }
