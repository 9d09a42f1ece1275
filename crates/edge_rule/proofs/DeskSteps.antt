-- What a call on a desk owes and gives, by what the step told.
use Rattle.std.proofs.Common.{◌≡◌, ◌≢◌, ℕ, zero, suc, ◌<◌, ◌≤◌, Bool, true, false, List, [], ◌∷◌, ◌++◌, length, get_or, set, refl, sym, ap, ◌∙◌, subst, inl, inr, arith, get_or-set_same, get_or-set_other}
use Rattle.std.proofs.lemmas.List.{set-get_or}
use Rattle.std.proofs.lemmas.Bool.{cases_eq}
use mathlib.Core.Option.{none}
use Rattle.atomic_table.specs.Table.{Me, Allows}
use Rattle.atomic_table.specs.declared.shared.Seat.{Seat as TableSeat}
use Rattle.lab_plan.specs.LabPlan.{LabPlan, edges, bottles}
use Rattle.instrument_log.specs.InstrumentLog.{LogView}
use Rattle.legal_steps.specs.declared.edge_state.EdgeState.{EdgeState}
use Rattle.legal_steps.specs.declared.phase.JobState.{JobState}
use Rattle.legal_steps.specs.declared.event.Event.{Event}
use Rattle.legal_steps.specs.declared.event.Event.TheVariants.{Look}
use Rattle.legal_steps.specs.declared.phase.Drinking.TheVariants.{Reaching}
use Rattle.legal_steps.specs.State.{Seat, State, IsOwn, seat, edge, no_edge, end_of, bottles_at}
use Rattle.legal_steps.specs.Legal.{fork_mark_seen}
use Rattle.legal_steps.specs.Opening.{the_opening}
use Rattle.legal_steps.specs.Fitting.{IsSeatOf}
use Rattle.edge_word.specs.Words.{word_of, IsOfBottles}
use Rattle.edge_word.proofs.WordBits.{no_two_edges}
use Rattle.edge_word.proofs.WordLemmas.{IsOfBottles-28, IsEdgeWord-word_of}
use Rattle.one_history.specs.declared.board.Hand.{Hand}
use Rattle.one_history.specs.declared.board.View.{View}
use Rattle.edge_rule.specs.declared.desk.Desk.TheInside.{Inside}
use Rattle.edge_rule.specs.declared.clock.Clock.{Clock}
use Rattle.legal_steps.specs.declared.counts.Counts.{Counts}
use Rattle.legal_steps.specs.Counting.{counts_of}
use Rattle.edge_rule.proofs.CountsKept.{IsUncounted, counts_stay}
use Rattle.edge_rule.specs.declared.bench.Bench.TheInside as bench_fields
use Rattle.turns.specs.History.{events_by, learned_all, known_by, IsHistory}
use Rattle.one_history.specs.Rule.{word_count, HasOneHistory}
use Rattle.turns.specs.Lists.{Each}
use Rattle.one_history.specs.Grow.{hand_or, hand_in, rest_hands, adding, IsLed, IsMine, mine, Grows, Does}
use Rattle.one_history.specs.Groups.{with_group, all_of, StandUnbroken}
use Rattle.one_history.proofs.Groups.{stand_in_more, with_group_stands, all_with_group}
use Rattle.edge_rule.specs.DeskView.{DeskView, BenchView, Owns, Adds, known}
use Rattle.edge_rule.specs.NeededBottles.{AreNeeded}
use Rattle.edge_rule.specs.DeskInside.{seat_view, view_of, kept, fixed, AreOfPlan, AtRest, IsDesk}
use Rattle.edge_rule.specs.BenchInside.{bench_of, IsBench}
use Rattle.edge_rule.specs.CalmEdges.{no_word, IsStill, AreStill}
use Rattle.edge_rule.proofs.StillEdges.{same_at, stay_still, but_one, stays_settled}
use Rattle.turns.specs.Acts.{IsSettled}
use Rattle.std.proofs.lemmas.Bool.{false≢true}
use Rattle.turns.specs.Due.{but_position, IsCalm}
use Rattle.turns.proofs.Calm.{stays_calm}
use Rattle.turns.specs.Changes.{seat_after}
use Rattle.turns.proofs.Frame.{learned_seat}
use Rattle.turns.proofs.Runs.{learned_all-append, learned_all_seats, learned_all_edges, opening_seats, opening_edges, own_known}
use Rattle.turns.proofs.Histories.{history_fits}

pub got : {A : Type 0} (l : List A) (i : ℕ) (a dflt : A) → i < length l → a ≡ get_or l i a → a ≡ get_or l i dflt
got [] i a dflt h e = absurd (omega arith)
got (x ∷ l) zero a dflt h e = e
got (x ∷ l) (suc i) a dflt h e = got l i a dflt (omega arith) e

-- ---- a view at rest

pub hand_grown : (v w : View) (g : List Event) → w.hands ≡ adding (hand_in v) g ∷ rest_hands v.hands → hand_in w ≡ adding (hand_in v) g
hand_grown v w g e = ap hand_or e

pub led : (v : View) → IsMine v → IsLed v
led v mine = let alone : rest_hands v.hands ≡ [] = ap rest_hands mine in
    (mine ∙ ap (λ (z : List Hand). hand_in v ∷ z) (sym alone), subst (λ (z : List Hand). Each (λ (y : Hand). y.job ≢ (hand_in v).job) z) (sym alone) tt)

pub mine_seats : (v : View) → length (mine v).seats ≡ length (hand_in v).plan.jobs
mine_seats v = learned_all_seats (hand_in v).plan (the_opening (hand_in v).plan) (hand_in v).deeds ∙ opening_seats (hand_in v).plan

pub mine_edges : (v : View) → length (mine v).edges ≡ length (edges (hand_in v).plan)
mine_edges v = learned_all_edges (hand_in v).plan (the_opening (hand_in v).plan) (hand_in v).deeds ∙ opening_edges (hand_in v).plan

-- what a job knows after a group of its events
pub mine_grown : (v w : View) (g : List Event) → Grows v g w → mine w ≡ learned_all (hand_in v).plan (mine v) g
mine_grown v w g t = ap (λ (x : Hand). known_by x.plan x.deeds) (hand_grown v w g t.hands)
    ∙ learned_all-append (hand_in v).plan (the_opening (hand_in v).plan) (hand_in v).deeds g

-- its groups after one more
groups_grown : (v w : View) (g : List Event) → AtRest v → Grows v g w
    → (all_of (with_group (hand_in v).groups g) ≡ (hand_in v).deeds ++ g) × StandUnbroken (with_group (hand_in v).groups g) w.front
groups_grown v w g ok t = let gs : List (List Event) = (hand_in v).groups in (
  all_with_group gs g ∙ ap (λ (z : List Event). z ++ g) ok.groups.0,
  subst (StandUnbroken (with_group gs g)) (sym t.front)
      (with_group_stands gs g (v.front ++ t.between) (stand_in_more gs v.front t.between ok.groups.1)),
)

pub rest_grown : (v w : View) (g : List Event) → AtRest v → Grows v g w → AtRest w
rest_grown v w g ok t = let x = hand_grown v w g t.hands in record {
  mine = t.hands ∙ (λ i. sym x i ∷ ap rest_hands ok.mine i);
  inside = subst (λ (z : Hand). z.job < length z.plan.jobs) (sym x) ok.inside;
  none_told = t.none_told;
  legal = subst (λ (z : Hand). IsHistory z.plan w.front) (sym x) t.legal;
  whole = subst (λ (z : Hand). events_by z.job w.front ≡ z.deeds) (sym x) t.whole;
  groups = subst (λ (z : Hand). (all_of z.groups ≡ z.deeds) × StandUnbroken z.groups w.front) (sym x) (groups_grown v w g ok t);
}

-- its seat fits the plan
pub mine_fits : (v : View) → AtRest v → IsSeatOf (hand_in v).plan (hand_in v).job (seat (mine v) (hand_in v).job)
mine_fits v ok =
    let p : LabPlan = (hand_in v).plan in
    let j : ℕ = (hand_in v).job in
    subst (IsSeatOf p j) (own_known p j v.front ok.inside ∙ ap (λ (l : List Event). seat (known_by p l) j) ok.whole)
    ((history_fits p v.front ok.legal).seats_fit j ok.inside)

-- ---- a desk

module _ {A : Type 0} (d : Inside A) (ok : IsDesk d) where
  abbrev v : View
  v = d.seat.me.0

  abbrev p : LabPlan
  p = (hand_in v).plan

  abbrev j : ℕ
  j = (hand_in v).job

  pub desk_seat : IsSeatOf p j (kept d)
  desk_seat = subst (IsSeatOf p j) ok.own (mine_fits v ok.at_rest)

  pub desk_edges : length d.seen.items ≡ length (edges p)
  desk_edges = ap length (sym ok.seen) ∙ mine_edges v

  pub inside_forks : (e n : ℕ) → n ≡ e → e < length (edges p) → n < length d.fork_marks.items
  inside_forks e n is inside = let h = desk_seat.fork_marks_there in omega arith

  pub inside_bottles : (e n : ℕ) → n ≡ e → e < length (edges p) → n < length d.bottle_marks.items
  inside_bottles e n is inside = let h = desk_seat.bottle_marks_there in omega arith

  pub inside_seen : (e n : ℕ) → n ≡ e → e < length (edges p) → n < length d.seen.items
  inside_seen e n is inside = let h = desk_edges in omega arith

  pub inside_calm : (e n : ℕ) → n ≡ e → e < length (edges p) → n < length d.calm.items
  inside_calm e n is inside = let h = ok.calm.wide in omega arith

  -- the word last seen on an edge, and the one noted there, as they are read from the fields
  pub last_seen : (e n : ℕ) (x : EdgeState) → n ≡ e → e < length (edges p) → x ≡ get_or d.seen.items n x → x ≡ edge (mine v) e
  last_seen e n x at inside is = got d.seen.items e x no_edge (let l = desk_edges in omega arith) (is ∙ ap (λ k. get_or d.seen.items k x) at)
      ∙ ap (λ (l : List EdgeState). get_or l e no_edge) (sym ok.seen)

  pub noted_still : (e n noted : ℕ) → n ≡ e → e < length (edges p) → noted ≡ get_or d.calm.items n noted → noted ≢ no_word
      → (noted ≡ word_of (edge (mine v) e)) × IsStill p (mine v) j e
  noted_still e n noted at inside is some =
      let read = got d.calm.items e noted no_word (let l = ok.calm.wide in omega arith) (is ∙ ap (λ k. get_or d.calm.items k noted) at) in
      subst (λ w. (w ≡ word_of (edge (mine v) e)) × IsStill p (mine v) j e) (sym read) (ok.calm.each e (λ none. some (read ∙ none)))

  -- only own edges have a note or a fork mark
  pub unnoted : (e : ℕ) → ¬ IsOwn p j e → get_or d.calm.items e no_word ≡ no_word
  unnoted e others = ok.calm.unnoted e others

  pub fork_unmarked : (e : ℕ) → ¬ IsOwn p j e → get_or d.fork_marks.items e false ≡ false
  fork_unmarked e others = ap (λ (x : Seat). get_or x.fork_marks e false) (sym ok.own) ∙ ok.calm.unmarked e others

  -- a desk after a group of events, where its fields follow
  pub desk_grows : (d' : Inside A) (g : List Event) → Grows v g d'.seat.me.0 → d'.seat.me.1 ≡ [] → d'.job ≡ d.job
      → seat (learned_all p (mine v) g) j ≡ kept d' → (learned_all p (mine v) g).edges ≡ d'.seen.items → AreOfPlan p d'.seen.items
      → AreStill p (learned_all p (mine v) g) j d'.calm.items → (d'.settled ≡ true → IsSettled p (learned_all p (mine v) g) j)
      → d'.phase.drinking ≢ Reaching → counts_of j ((hand_in v).deeds ++ g) ≡ d'.counts → AreNeeded p j d'.phase d'.needed.items → IsDesk d'
  desk_grows d' g t empty job own seen of_plan calm settled rests counts needed =
      let x = hand_grown v d'.seat.me.0 g t.hands in
      let m = mine_grown v d'.seat.me.0 g t in
      record {
        at_rest = rest_grown v d'.seat.me.0 g ok.at_rest t;
        empty = empty;
        job = ap (λ (z : Hand). z.job) x ∙ (ok.job ∙ sym job);
        counts = ap (λ (z : Hand). counts_of z.job z.deeds) x ∙ counts;
        own = (λ i. seat (m i) (x i).job) ∙ own;
        seen = ap (λ (z : State). z.edges) m ∙ seen;
        of_plan = subst (λ (z : Hand). AreOfPlan z.plan d'.seen.items) (sym x) of_plan;
        calm = subst (λ (z : Hand × State). AreStill z.0.plan z.1 z.0.job d'.calm.items) (λ i. (sym x i, sym m i)) calm;
        settled = λ is. subst (λ (z : Hand × State). IsSettled z.0.plan z.1 z.0.job) (λ i. (sym x i, sym m i)) (settled is);
        needed = subst (λ (z : Hand). AreNeeded z.plan z.job d'.phase d'.needed.items) (sym x) needed;
        rests = rests;
      }

  -- a desk after events that aren't counted
  pub desk_keeps : (d' : Inside A) (g : List Event) → Each (IsUncounted j) g → Grows v g d'.seat.me.0 → d'.seat.me.1 ≡ [] → fixed d' ≡ fixed d
      → seat (learned_all p (mine v) g) j ≡ kept d' → (learned_all p (mine v) g).edges ≡ d'.seen.items → AreOfPlan p d'.seen.items
      → AreStill p (learned_all p (mine v) g) j d'.calm.items
      → (d'.settled ≡ true → IsSettled p (learned_all p (mine v) g) j) → d'.phase.drinking ≢ Reaching → IsDesk d'
  desk_keeps d' g uncounted t empty same own seen of_plan calm settled rests =
      desk_grows d' g t empty (ap (λ (z : ℕ × Counts × JobState × List ℕ). z.0) same) own seen of_plan calm settled rests
      (counts_stay j (hand_in v).deeds g uncounted ∙ (ok.counts ∙ sym (ap (λ (z : ℕ × Counts × JobState × List ℕ). z.1) same)))
      (subst (λ (z : ℕ × Counts × JobState × List ℕ). AreNeeded p j z.2 z.3) (sym same) ok.needed)

  -- where the desk isn't noted as settled, nothing is claimed
  pub not_settled : (d' : Inside A) → d'.settled ≡ false → {s : State} → d'.settled ≡ true → IsSettled p s j
  not_settled d' unsettled is = absurd (false≢true (sym unsettled ∙ is))

  -- the notes but that of one edge, where the desk else is as before
  pub noted_but : (t : State) (d' : Inside A) (e : ℕ) → IsOwn p j e → seat t j ≡ kept d'
      → t.edges ≡ d'.seen.items → d'.phase ≡ d.phase → (fork : Bool) → d'.fork_marks.items ≡ set d.fork_marks.items e fork
      → (marks : ℕ) → d'.bottle_marks.items ≡ set d.bottle_marks.items e marks → (x : EdgeState)
      → d'.seen.items ≡ set d.seen.items e x → d'.calm.items ≡ set d.calm.items e no_word → AreStill p t j d'.calm.items
  noted_but t d' e is_own own edges phase fork forks marks bottles x seen calm = subst (AreStill p t j) (sym calm)
      (but_one p (mine v) t j e d.calm.items is_own (λ f other. same_at (mine v) t j f (kept d) (kept d') d.seen.items d'.seen.items ok.own own ok.seen edges
      (ap (λ l. get_or l f no_edge) seen ∙ get_or-set_other d.seen.items e f x no_edge other)
      (ap but_position phase)
      (ap (λ l. get_or l f false) forks ∙ get_or-set_other d.fork_marks.items e f fork false other)
      (ap (λ l. get_or l f 0) bottles ∙ get_or-set_other d.bottle_marks.items e f marks 0 other)) ok.calm)

  -- one edge is seen
  pub of_plan_set : (e : ℕ) (x : EdgeState) → e < length (edges p) → IsOfBottles (length (bottles p e)) x → AreOfPlan p (set d.seen.items e x)
  of_plan_set e x inside fit f l = let n = desk_edges in elim (cases_eq f e) [
    | inl is ↦ subst (λ (z : ℕ). IsOfBottles (length (bottles p z)) (get_or (set d.seen.items e x) z no_edge)) (sym is)
        (subst (IsOfBottles (length (bottles p e))) (sym (get_or-set_same d.seen.items e x no_edge (omega arith))) fit)
    | inr ne ↦ subst (IsOfBottles (length (bottles p f))) (sym (get_or-set_other d.seen.items e f x no_edge ne)) (ok.of_plan f l)
  ]

-- ---- a bench and a desk

-- a fact of the values that contracts see, as one of the fields
pub owned : {A : Type 0} (b : bench_fields.Inside A) (d : Inside A) (x : BenchView) (y : DeskView)
    → bench_of b ≡ x → view_of d ≡ y → Owns x y → Owns (bench_of b) (view_of d)
owned b d x y e f o = subst (λ (z : BenchView × DeskView). Owns z.0 z.1) (λ i. (sym e i, sym f i)) o

-- a fact of the value that contracts see, as one of the seat
pub of_seat : (P : DeskView → Type 0) {A : Type 0} (d : Inside A) (y : DeskView) → view_of d ≡ y → P y → P (view_of d)
of_seat P d y e h = subst P (sym e) h

module _ {A : Type 0} (b : bench_fields.Inside A) (d : Inside A) (is_bench : IsBench b) (ok : IsDesk d) (owns : Owns (bench_of b) (view_of d)) where
  abbrev key : LabPlan
  key = b.table.shared.key.plan.value

  abbrev mine_plan : LabPlan
  mine_plan = (hand_in d.seat.me.0).plan

  abbrev slots : ℕ
  slots = b.table.shared.table_id.slots

  abbrev Framed : (i : ℕ) (f : ℕ → ℕ) (then : ℕ → Me LogView View → Type 0) → Type 0
  Framed i f then = (d.seat.table_id ≡ b.table.shared.table_id) × (i < b.table.shared.table_id.words) × Allows (HasOneHistory key) slots d.seat.id d.seat.me i f then

  -- a step by the plan of the hand is one by the key of the table
  pub framed : (i : ℕ) (f : ℕ → ℕ) (then : ℕ → Me LogView View → Type 0) → i < word_count mine_plan
      → Allows (HasOneHistory mine_plan) slots d.seat.id d.seat.me i f then → Framed i f then
  framed i f then l allows = (
    owns.0,
    (let words = is_bench.words in let l' : i < word_count key = subst (λ (z : LabPlan). i < word_count z) owns.1 l in omega arith),
    subst (λ (z : LabPlan). Allows (HasOneHistory z) slots d.seat.id d.seat.me i f then) owns.1 allows,
  )

  pub plan_known : b.plan.now ≡ mine_plan
  plan_known = sym is_bench.plan ∙ sym owns.1

  few : (e : ℕ) → e < length (edges mine_plan) → length (bottles mine_plan e) ≤ 28
  few e inside =
      subst (λ (z : LabPlan). length (bottles z e) ≤ 28) (sym owns.1)
      (is_bench.is_plan.few_bottles e (subst (λ (z : LabPlan). e < length (edges z)) owns.1 inside))

  -- where the word of an edge is the one that was noted there, the edge is as it was seen last, and still
  pub noted_again : (e n noted w : ℕ) (x : EdgeState) → n ≡ e → e < length (edges mine_plan) → noted ≡ get_or d.calm.items n noted
      → word_of x ≡ w → IsOfBottles (length (bottles b.plan.now e)) x → noted ≡ w
      → (x ≡ edge (mine d.seat.me.0) e) × IsStill mine_plan (mine d.seat.me.0) (hand_in d.seat.me.0).job e
  noted_again e n noted w x at inside read word fits is =
      let of_edge = IsOfBottles-28 _ x (few e inside) (subst (λ (z : LabPlan). IsOfBottles (length (bottles z e)) x) plan_known fits) in
      let low = (IsEdgeWord-word_of x of_edge).top_bits in
      let here = noted_still d ok e n noted at inside read (λ none. absurd (omega (arith, low, word, is, none))) in
      let seen_fits = subst (IsOfBottles (length (bottles mine_plan e))) (ap (λ (l : List EdgeState). get_or l e no_edge) (sym ok.seen)) (ok.of_plan e inside) in
      (no_two_edges x (edge (mine d.seat.me.0) e) of_edge (IsOfBottles-28 _ _ (few e inside) seen_fits) (word ∙ (sym is ∙ here.0)), here.1)

-- what a call gives: y is what the caller saw before
pub seat_adds : {k : Clock} (s s' : TableSeat LogView View) (y : DeskView) (g : DeskView → List Event)
    → seat_view k s ≡ y → Grows s.me.0 (g (seat_view k s)) s'.me.0 → s'.table_id ≡ s.table_id → Adds y (g y) (seat_view k s')
seat_adds {k} s s' y g f t table = let v : View = s.me.0 in let w : View = s'.me.0 in let x = hand_grown v w (g (seat_view k s)) t.hands in
    let all : Adds (seat_view k s) (g (seat_view k s)) (seat_view k s') = record {
      table = table;
      clock = refl;
      plan = ap (λ (z : Hand). z.plan) x;
      job = ap (λ (z : Hand). z.job) x;
      deeds = ap (λ (z : Hand). z.deeds) x;
      groups = ap (λ (z : Hand). z.groups) x;
      between = t.between;
      front = t.front;
      legal = subst (λ (z : Hand). IsHistory z.plan w.front) (sym x) t.legal;
      whole = subst (λ (z : Hand). events_by z.job w.front ≡ z.deeds) (sym x) t.whole;
    } in subst (λ (z : DeskView). Adds z (g z) (seat_view k s')) f all

-- ---- look

module _ {A : Type 0} (d d' : Inside A) (ok : IsDesk d) (e : ℕ) (x : EdgeState) where
  abbrev lv : View
  lv = d.seat.me.0

  abbrev lp : LabPlan
  lp = (hand_in lv).plan

  abbrev lj : ℕ
  lj = (hand_in lv).job

  -- the desk after a look
  pub look_kept : (fork : Bool) (marks : ℕ) (q : LabPlan) → IsOwn lp lj e → q ≡ lp → IsOfBottles (length (bottles q e)) x
      → Does lv (Look lj e x) d'.seat.me.0 → d'.seat.me.1 ≡ d.seat.me.1 → fixed d' ≡ fixed d → d'.phase ≡ d.phase
      → fork ≡ fork_mark_seen d.phase.dining (end_of q d.job e) x → marks ≡ bottles_at q e (end_of q d.job e) x
      → d'.fork_marks.items ≡ set d.fork_marks.items e fork → d'.bottle_marks.items ≡ set d.bottle_marks.items e marks
      → d'.seen.items ≡ set d.seen.items e x → d'.calm.items ≡ set d.calm.items e no_word → d'.settled ≡ false → IsDesk d'
  look_kept fork marks q is_own is_p fits t empty job phase is_fork is_marks forks bottle_marks seen calm unsettled =
      let event : Event = Look lj e x in
      let jobs = mine_seats lv in
      let here = ok.at_rest.inside in
      let fork_is : fork ≡ fork_mark_seen d.phase.dining (end_of lp lj e) x =
      is_fork ∙ (λ i. fork_mark_seen d.phase.dining (end_of (is_p i) (sym ok.job i) e) x) in
      let marks_is : marks ≡ bottles_at lp e (end_of lp lj e) x = is_marks ∙ (λ i. bottles_at (is_p i) e (end_of (is_p i) (sym ok.job i) e) x) in
      let own : seat (learned_all lp (mine lv) (event ∷ [])) lj ≡ kept d' =
      learned_seat lp (mine lv) event (omega arith) ∙ (ap (λ (y : Seat). seat_after lp y event) ok.own
      ∙ (λ i. record {
        phase = sym phase i;
        fork_marks = (ap (set d.fork_marks.items e) (sym fork_is) ∙ sym forks) i;
        bottle_marks = (ap (set d.bottle_marks.items e) (sym marks_is) ∙ sym bottle_marks) i;
      })) in
      let edges_now = ap (λ (l : List EdgeState). set l e x) ok.seen ∙ sym seen in
      desk_keeps d ok d' (event ∷ []) ((refl, refl, refl), tt) t (empty ∙ ok.empty) job own edges_now
      (subst (AreOfPlan lp) (sym seen) (of_plan_set d ok e x is_own.is_edge (subst (λ (z : LabPlan). IsOfBottles (length (bottles z e)) x) is_p fits)))
      (noted_but d ok (learned_all lp (mine lv) (event ∷ [])) d' e is_own own edges_now phase fork forks marks bottle_marks x seen calm)
      (not_settled d ok d' unsettled)
      (subst (λ (z : JobState). z.drinking ≢ Reaching) (sym phase) ok.rests)

  -- a look that sees again what a still edge showed
  pub look_still : e < length (edges lp) → IsStill lp (mine lv) lj e → x ≡ edge (mine lv) e → Does lv (Look lj e x) d'.seat.me.0 → d'.seat.me.1 ≡ d.seat.me.1
      → fixed d' ≡ fixed d → kept d' ≡ kept d → d'.seen.items ≡ d.seen.items → d'.calm.items ≡ d.calm.items → d'.settled ≡ d.settled → IsDesk d'
  look_still inside still is t empty job same seen calm settled =
      let event : Event = Look lj e x in
      let jobs = mine_seats lv in
      let here = ok.at_rest.inside in
      let u : State = learned_all lp (mine lv) (event ∷ []) in
      let own_is : (seat (mine lv) lj).phase ≡ d.phase = ap (λ (y : Seat). y.phase) ok.own in
      let fork_is : fork_mark_seen d.phase.dining (end_of lp lj e) x ≡ get_or d.fork_marks.items e false =
      (λ i. fork_mark_seen (sym own_is i).dining (end_of lp lj e) (is i)) ∙ (sym still.fork ∙ ap (λ (y : Seat). get_or y.fork_marks e false) ok.own) in
      let marks_are : bottles_at lp e (end_of lp lj e) x ≡ get_or d.bottle_marks.items e 0 =
      ap (bottles_at lp e (end_of lp lj e)) is ∙ (sym still.bottles ∙ ap (λ (y : Seat). get_or y.bottle_marks e 0) ok.own) in
      let own : seat u lj ≡ kept d' = learned_seat lp (mine lv) event (omega arith) ∙ (ap (λ (y : Seat). seat_after lp y event) ok.own
      ∙ ((λ i. record {
        phase = d.phase;
        fork_marks = (ap (set d.fork_marks.items e) fork_is ∙ set-get_or d.fork_marks.items e false) i;
        bottle_marks = (ap (set d.bottle_marks.items e) marks_are ∙ set-get_or d.bottle_marks.items e 0) i;
      }) ∙ sym same)) in
      let edges_now : u.edges ≡ d'.seen.items = (ap (set (mine lv).edges e) is ∙ set-get_or (mine lv).edges e no_edge) ∙ (ok.seen ∙ sym seen) in
      desk_keeps d ok d' (event ∷ []) ((refl, refl, refl), tt) t (empty ∙ ok.empty) job own edges_now
      (subst (AreOfPlan lp) (sym seen) ok.of_plan)
      (subst (AreStill lp u lj) (sym calm)
      (stay_still lp (mine lv) u lj d.calm.items (λ f. same_at (mine lv) u lj f (kept d) (kept d') d.seen.items d'.seen.items ok.own own ok.seen edges_now
      (ap (λ l. get_or l f no_edge) seen) (ap (λ (y : Seat). but_position y.phase) same)
      (ap (λ (y : Seat). get_or y.fork_marks f false) same) (ap (λ (y : Seat). get_or y.bottle_marks f 0) same)) ok.calm))
      (λ set. stays_settled lp (mine lv) u lj (own ∙ (same ∙ sym ok.own)) (ok.settled (sym settled ∙ set)))
      (subst (λ (z : JobState). z.drinking ≢ Reaching) (sym (ap (λ (y : Seat). y.phase) same)) ok.rests)

-- a look that sees again what a still edge showed leaves it calm
pub look_calm : {A : Type 0} (d : Inside A) (s' : TableSeat LogView View) (ok : IsDesk d) (e : ℕ) (x : EdgeState)
    → e < length (edges (hand_in d.seat.me.0).plan) → IsStill (hand_in d.seat.me.0).plan (mine d.seat.me.0) (hand_in d.seat.me.0).job e
    → x ≡ edge (mine d.seat.me.0) e → Does d.seat.me.0 (Look (hand_in d.seat.me.0).job e x) s'.me.0
    → IsCalm (seat_view d.clock s').plan (known (seat_view d.clock s')) (seat_view d.clock s').job e
look_calm d s' ok e x inside still is t =
    let v : View = d.seat.me.0 in
    let lp : LabPlan = (hand_in v).plan in
    let lj : ℕ = (hand_in v).job in
    let event : Event = Look lj e x in
    let h = hand_grown v s'.me.0 (event ∷ []) t.hands in
    let u : State = learned_all lp (mine v) (event ∷ []) in
    let calm_u : IsCalm lp u lj e = stays_calm lp (mine v) u lj e
    (get_or-set_same (mine v).edges e x no_edge (let l = mine_edges v in omega arith) ∙ is)
    (ap (λ (y : Seat). but_position y.phase) (learned_seat lp (mine v) event (let jobs = mine_seats v in let here = ok.at_rest.inside in omega arith)))
    still.calm in
    subst (λ (z : LabPlan × ℕ × State). IsCalm z.0 z.2 z.1 e) (λ i. (ap (λ (z : Hand). z.plan) (sym h) i, ap (λ (z : Hand). z.job) (sym h) i, sym (mine_grown v s'.me.0 (event ∷ []) t) i)) calm_u

-- what a look saw is what the job knows of the edge
pub look_shows : {A : Type 0} (d : Inside A) (s' : TableSeat LogView View) (e : ℕ) (x : EdgeState)
    → e < length (edges (hand_in d.seat.me.0).plan) → Does d.seat.me.0 (Look (hand_in d.seat.me.0).job e x) s'.me.0 → x ≡ edge (known (seat_view d.clock s')) e
look_shows d s' e x inside t =
    let v : View = d.seat.me.0 in
    let event : Event = Look (hand_in v).job e x in
    sym (ap (λ (z : State). edge z e) (mine_grown v s'.me.0 (event ∷ []) t)
    ∙ get_or-set_same (mine v).edges e x no_edge (let l = mine_edges v in omega arith))
