-- A desk after moves on an edge, and after a phase was stored.
use Rattle.std.proofs.Common.{◌≡◌, ◌≢◌, ℕ, ◌/◌, ◌<◌, ◌≤◌, if◌then◌else◌, eqb, Bool, true, false, List, [], ◌∷◌, length, get_or, set, replicate, refl, sym, ap, ◌∙◌, subst, arith}
use mathlib.Core.Option.{none}
use prog.Atomic.{either}
use Rattle.atomic_table.specs.Table.{step, Allows}
use Rattle.atomic_table.specs.declared.shared.Seat.{Seat as TableSeat}
use Rattle.std.specs.List.{All}
use Rattle.lab_plan.specs.LabPlan.{LabPlan, edges, edges_of, bottles, sessions, commands}
use Rattle.lab_plan.specs.IsPlan.{IsPlan}
use Rattle.instrument_log.specs.InstrumentLog.{LogView}
use Rattle.legal_steps.specs.declared.edge_state.EdgeState.{EdgeState}
use Rattle.legal_steps.specs.declared.phase.JobState.{JobState}
use Rattle.legal_steps.specs.declared.phase.Drinking.TheVariants.{Reaching}
use Rattle.legal_steps.specs.State.{Seat, State, IsOwn, IsInSession, edge, seat, phase, no_edge}
use Rattle.legal_steps.specs.Legal.{May}
use Rattle.legal_steps.specs.Run.{IsLegalFrom}
use Rattle.edge_word.specs.declared.moves.EdgeMoves.{EdgeMoves}
use Rattle.edge_word.specs.Words.{word_of, IsOfBottles}
use Rattle.edge_word.specs.Phases.{phase_word_of, phase_of, FitsPhaseWord}
use Rattle.edge_word.specs.Moves.{events_of, after_moves, fork_mark_after, bottle_marks_after, moves_of_words, AreOfBottles}
use Rattle.edge_word.proofs.WordBits.{no_two_edges}
use Rattle.edge_word.proofs.WordLemmas.{IsOfBottles-28, AreOfBottles-28}
use Rattle.edge_word.proofs.MoveLaws.{read_back, stays_of_its_bottles, legal_moves_are_of_the_edge}
use Rattle.edge_word.proofs.PhaseLemmas.{phase_of-phase_word_of}
use Rattle.one_history.specs.declared.board.View.{View}
use Rattle.one_history.specs.declared.phase_event.PhaseEvent.{PhaseEvent}
use Rattle.one_history.specs.declared.phase_event.PhaseEvent.TheVariants as phase_events
use Rattle.edge_rule.specs.declared.desk.Desk.TheInside.{Inside}
use Rattle.edge_rule.specs.declared.bench.Bench.TheInside as bench_fields
use Rattle.one_history.specs.PhaseEvents.{event_of, phase_after, clears}
use Rattle.legal_steps.specs.Counting.{counts_of}
use Rattle.edge_rule.specs.Counting.{counted, AreFew}
use Rattle.edge_rule.proofs.CountsKept.{moves_uncounted, counts_grow, counts_whole, few_in}
use Rattle.turns.specs.History.{learned, learned_all, state_after}
use Rattle.one_history.specs.Rule.{edge_place, phase_place, HasOneHistory}
use Rattle.one_history.specs.Grow.{hand_in, mine, seen_state, Grows, Does, tried, phase_event, own_phase, stored}
use Rattle.edge_rule.specs.DeskView.{DeskView, Owns, Adds, known, shown}
use Rattle.edge_rule.specs.DeskInside.{seat_view, view_of, kept, fixed, AreOfPlan, IsDesk}
use Rattle.edge_rule.specs.BenchInside.{bench_of, IsBench}
use Rattle.edge_rule.specs.CalmEdges.{no_word}
use Rattle.edge_rule.specs.NeededBottles.{AreNeeded, changes_session}
use Rattle.edge_rule.proofs.NotedNeeds.{needs_stay, session_stays, session_changes}
use Rattle.edge_rule.proofs.StillEdges.{none_still, all_same}
use Rattle.turns.proofs.Frame.{learned_seat}
use Rattle.turns.specs.Changes.{seat_after}
use Rattle.turns.proofs.Groups.{moved_seat, moved_edges}
use Rattle.legal_steps.proofs.FewCommands.{few_commands}
use Rattle.legal_steps.proofs.OwnEdges.{own_edges}
use Rattle.one_history.proofs.Trying.{tries}
use Rattle.one_history.proofs.Storing.{by_job, told_back, stores}
use Rattle.edge_rule.proofs.DeskSteps.{got, led, fork_unmarked, hand_grown, mine_seats, mine_edges, desk_seat, desk_grows, desk_keeps, of_plan_set, noted_but, not_settled, framed, plan_known, seat_adds}

-- ---- an exchange

-- a legal group of moves by what a desk knows, of the values that contracts see
abbrev pub MayMove : EdgeMoves → ℕ → DeskView → Type 0
MayMove m e y = IsLegalFrom y.plan (known y) (events_of m y.job e)

module _ {A : Type 0} (b : bench_fields.Inside A) (d : Inside A) (is_bench : IsBench b)
    (ok : IsDesk d) (owns : Owns (bench_of b) (view_of d)) (e : ℕ) (m : EdgeMoves)
    (own : IsOwn (hand_in d.seat.me.0).plan (hand_in d.seat.me.0).job e) (may : MayMove m e (view_of d)) where
  abbrev mv : View
  mv = d.seat.me.0

  abbrev mp : LabPlan
  mp = (hand_in mv).plan

  abbrev mj : ℕ
  mj = (hand_in mv).job

  few : length (bottles mp e) ≤ 28
  few = subst (λ (z : LabPlan). length (bottles z e) ≤ 28) (sym owns.1)
      (is_bench.is_plan.few_bottles e (subst (λ (z : LabPlan). e < length (edges z)) owns.1 own.is_edge))

  sets : AreOfBottles (length (bottles mp e)) m
  sets = legal_moves_are_of_the_edge mp (mine mv) mj e m may

  pub move_sets : AreOfBottles 28 m
  move_sets = AreOfBottles-28 (length (bottles mp e)) m few sets

  seen_fits : IsOfBottles (length (bottles mp e)) (edge (mine mv) e)
  seen_fits = subst (λ (l : List EdgeState). IsOfBottles (length (bottles mp e)) (get_or l e no_edge)) (sym ok.seen) (ok.of_plan e own.is_edge)

  abbrev pub Expects : ℕ → ℕ → ℕ → Type 0
  Expects n old new = (d.seat.table_id ≡ b.table.shared.table_id) × (n < b.table.shared.table_id.words)
      × Allows (HasOneHistory b.table.shared.key.plan.value) b.table.shared.table_id.slots d.seat.id d.seat.me n
      (λ k. either (eqb k old) new k) (tried (step b.table.shared.table_id.slots n old new none) d.seat.me)

  pub try_requires : (n old new : ℕ) (x y : EdgeState) → n ≡ edge_place e → x ≡ edge (mine mv) e
      → y ≡ after_moves m x → old ≡ word_of x → new ≡ word_of y → Expects n old new
  try_requires n old new x y at is_x is_y is_old is_new = subst (λ z. Expects z old new) (sym at)
      (let inside = own.is_edge in
      framed b d is_bench ok owns (edge_place e) (λ k. either (eqb k old) new k)
      (tried (step b.table.shared.table_id.slots (edge_place e) old new none) d.seat.me) (omega arith)
      (tries mp b.table.shared.table_id.slots d.seat.id mv d.seat.me.1 (led mv ok.at_rest.mine) ok.at_rest.inside e m old new own may seen_fits
      (is_old ∙ ap word_of is_x) (is_new ∙ ap word_of (is_y ∙ ap (after_moves m) is_x))))

  -- another word was found
  pub missed : (s' : TableSeat LogView View) (y : DeskView) (n k old new : ℕ) (x seen : EdgeState) → view_of d ≡ y
      → n ≡ edge_place e → tried (step b.table.shared.table_id.slots n old new none) d.seat.me k s'.me → s'.table_id ≡ d.seat.table_id
      → k ≢ old → word_of x ≡ k → IsOfBottles (length (bottles b.plan.now e)) x → seen ≡ edge (mine mv) e → old ≡ word_of seen
      → Adds y [] (seat_view d.clock s') × (x ≡ edge (shown (seat_view d.clock s')) e) × (x ≢ edge (known y) e)
  missed s' y n k old new x seen view at t table miss word fits is_seen is_old =
      let found = t.1 miss in
      let here : n / 16 ≡ e = omega arith in
      let there : EdgeState = edge (seen_state mv s'.me.0) e in
      let is : k ≡ word_of there = subst (λ z. k ≡ word_of (edge (seen_state mv s'.me.0) z)) here found.1 in
      let fits_there : IsOfBottles (length (bottles mp e)) there =
      subst (λ z. IsOfBottles (length (bottles mp z)) (edge (seen_state mv s'.me.0) z)) here found.2 in
      let same : x ≡ there =
      no_two_edges x there (IsOfBottles-28 _ x few (subst (λ (z : LabPlan). IsOfBottles (length (bottles z e)) x) (plan_known b d is_bench ok owns) fits))
      (IsOfBottles-28 _ there few fits_there) (word ∙ is) in (
        seat_adds d.seat s' y (λ _. []) view found.0 table,
        same ∙ (λ i. edge (state_after (sym (hand_grown mv s'.me.0 [] found.0.hands) i).plan s'.me.0.front) e),
        λ q. miss (sym word ∙ (ap word_of (q ∙ ((λ i. edge (known (sym view i)) e) ∙ sym is_seen)) ∙ sym is_old)),
      )

  pub told_moves : (s' : TableSeat LogView View) (n k old new : ℕ) (x y : EdgeState) → n ≡ edge_place e
      → tried (step b.table.shared.table_id.slots n old new none) d.seat.me k s'.me → k ≡ old
      → x ≡ edge (mine mv) e → y ≡ after_moves m x → old ≡ word_of x → new ≡ word_of y → Grows mv (events_of m mj e) s'.me.0
  told_moves s' n k old new x y at t hit is_x is_y is_old is_new =
      let here : n / 16 ≡ e = omega arith in
      let wide : length (mine mv).edges ≡ length (edges mp) = mine_edges mv in
      let inside = own.is_edge in
      let back : moves_of_words old new ≡ m = (λ i. moves_of_words ((is_old ∙ ap word_of is_x) i) ((is_new ∙ ap word_of (is_y ∙ ap (after_moves m) is_x)) i))
      ∙ read_back mp (mine mv) mj e m (omega arith) few seen_fits may in
      subst (λ (z : EdgeMoves × ℕ). Grows mv (events_of z.0 mj z.1) s'.me.0) (λ i. (back i, here i)) (t.0 hit)

  -- the desk after moves
  pub moves_kept : (d' : Inside A) (n : ℕ) (x y : EdgeState) (fork : Bool) (marks : ℕ) (old_fork : Bool) (old_marks : ℕ)
      → n ≡ e → Grows mv (events_of m mj e) d'.seat.me.0 → d'.seat.me.1 ≡ d.seat.me.1 → fixed d' ≡ fixed d → d'.phase ≡ d.phase
      → x ≡ edge (mine mv) e → y ≡ after_moves m x → old_fork ≡ get_or d.fork_marks.items n old_fork
      → old_marks ≡ get_or d.bottle_marks.items n old_marks → fork ≡ fork_mark_after m old_fork → marks ≡ bottle_marks_after m old_marks
      → d'.fork_marks.items ≡ set d.fork_marks.items n fork → d'.bottle_marks.items ≡ set d.bottle_marks.items n marks
      → d'.seen.items ≡ set d.seen.items n y → d'.calm.items ≡ set d.calm.items n no_word → d'.settled ≡ false → IsDesk d'
  moves_kept d' n x y fork marks old_fork old_marks at t empty job phase is_x is_y
      is_old_fork is_old_marks is_fork is_marks forks_are marks_are seen calm unsettled =
      let jobs = mine_seats mv in
      let here = ok.at_rest.inside in
      let wide : length (mine mv).edges ≡ length (edges mp) = mine_edges mv in
      let inside = own.is_edge in
      let f = (desk_seat d ok).fork_marks_there in
      let g = (desk_seat d ok).bottle_marks_there in
      let fork_was : old_fork ≡ get_or d.fork_marks.items e false =
      got d.fork_marks.items e old_fork false (omega arith) (is_old_fork ∙ ap (λ k. get_or d.fork_marks.items k old_fork) at) in
      let marks_were : old_marks ≡ get_or d.bottle_marks.items e 0 =
      got d.bottle_marks.items e old_marks 0 (omega arith) (is_old_marks ∙ ap (λ k. get_or d.bottle_marks.items k old_marks) at) in
      let y_is : y ≡ after_moves m (edge (mine mv) e) = is_y ∙ ap (after_moves m) is_x in
      let fits : IsOfBottles (length (bottles mp e)) y =
      subst (IsOfBottles (length (bottles mp e))) (sym y_is) (stays_of_its_bottles (length (bottles mp e)) m (edge (mine mv) e) sets seen_fits) in
      let becomes : Seat → Seat = λ z. record {
        phase = z.phase;
        fork_marks = set z.fork_marks e (fork_mark_after m (get_or z.fork_marks e false));
        bottle_marks = set z.bottle_marks e (bottle_marks_after m (get_or z.bottle_marks e 0));
      } in
      let forks_now : d'.fork_marks.items ≡ set d.fork_marks.items e (fork_mark_after m (get_or d.fork_marks.items e false)) =
      forks_are ∙ (λ i. set d.fork_marks.items (at i) ((is_fork ∙ ap (fork_mark_after m) fork_was) i)) in
      let marks_now : d'.bottle_marks.items ≡ set d.bottle_marks.items e (bottle_marks_after m (get_or d.bottle_marks.items e 0)) =
      marks_are ∙ (λ i. set d.bottle_marks.items (at i) ((is_marks ∙ ap (bottle_marks_after m) marks_were) i)) in
      let own_now : seat (learned_all mp (mine mv) (events_of m mj e)) mj ≡ kept d' =
      moved_seat mp mj e m (mine mv) (omega arith)
      ∙ (ap becomes ok.own ∙ (λ i. record { phase = sym phase i; fork_marks = sym forks_now i; bottle_marks = sym marks_now i })) in
      let seen_now : d'.seen.items ≡ set d.seen.items e y = seen ∙ ap (λ k. set d.seen.items k y) at in
      let edges_now : (learned_all mp (mine mv) (events_of m mj e)).edges ≡ d'.seen.items =
      moved_edges mp mj e m (mine mv) (omega arith) ∙ ((λ i. set (ok.seen i) e (sym y_is i)) ∙ sym seen_now) in
      desk_keeps d ok d' (events_of m mj e) (moves_uncounted mj mp e m) t (empty ∙ ok.empty) job own_now edges_now
      (subst (AreOfPlan mp) (sym seen_now) (of_plan_set d ok e y own.is_edge fits))
      (noted_but d ok (learned_all mp (mine mv) (events_of m mj e)) d' e own own_now edges_now phase _ forks_now _ marks_now y seen_now (calm
      ∙ ap (λ k. set d.calm.items k no_word) at))
      (not_settled d ok d' unsettled)
      (subst (λ (z : JobState). z.drinking ≢ Reaching) (sym phase) ok.rests)

-- ---- a phase that is stored

abbrev pub MayStore : PhaseEvent → DeskView → Type 0
MayStore what y = May y.plan (known y) (event_of what y.job)

learned_phase : (what : PhaseEvent) (plan : LabPlan) (j : ℕ) (s : State) → (learned plan s (event_of what j)).edges ≡ s.edges
learned_phase phase_events.Thirst plan j s = refl
learned_phase phase_events.Hunger plan j s = refl
learned_phase phase_events.Sit plan j s = refl
learned_phase phase_events.Leave plan j s = refl
learned_phase phase_events.Drink plan j s = refl
learned_phase phase_events.Quit plan j s = refl
learned_phase phase_events.Retire plan j s = refl
learned_phase phase_events.Withdraw plan j s = refl

-- the seat after a phase was stored
seat_stored : (what : PhaseEvent) (plan : LabPlan) (j : ℕ) (x : Seat) → seat_after plan x (event_of what j) ≡ record {
  phase = phase_after what x.phase;
  fork_marks = if clears what then replicate (length x.fork_marks) false else x.fork_marks;
  bottle_marks = x.bottle_marks;
}
seat_stored phase_events.Thirst plan j x = refl
seat_stored phase_events.Hunger plan j x = refl
seat_stored phase_events.Sit plan j x = refl
seat_stored phase_events.Leave plan j x = refl
seat_stored phase_events.Drink plan j x = refl
seat_stored phase_events.Quit plan j x = refl
seat_stored phase_events.Retire plan j x = refl
seat_stored phase_events.Withdraw plan j x = refl

short_position : (what : PhaseEvent) (x : JobState) → (phase_after what x).position ≤ x.position
short_position phase_events.Thirst x = omega arith
short_position phase_events.Hunger x = omega arith
short_position phase_events.Sit x = omega arith
short_position phase_events.Leave x = omega arith
short_position phase_events.Drink x = omega arith
short_position phase_events.Quit x = omega arith
short_position phase_events.Retire x = omega arith
short_position phase_events.Withdraw x = omega arith

still_rests : (what : PhaseEvent) (x : JobState) → x.drinking ≢ Reaching → (phase_after what x).drinking ≢ Reaching
still_rests phase_events.Thirst x h = λ e. cc
still_rests phase_events.Hunger x h = h
still_rests phase_events.Sit x h = h
still_rests phase_events.Leave x h = h
still_rests phase_events.Drink x h = λ e. cc
still_rests phase_events.Quit x h = λ e. cc
still_rests phase_events.Retire x h = λ e. cc
still_rests phase_events.Withdraw x h = λ e. cc

-- marks that are cleared or stay
unmarked_still : (b : Bool) (l : List Bool) (e : ℕ) → get_or l e false ≡ false → get_or (if b then replicate (length l) false else l) e false ≡ false
unmarked_still true l e is = all_same (length l) e false
unmarked_still false l e is = is

-- what is asked before the needed bottles are renewed
pub record Renews (what : PhaseEvent) (plan : LabPlan) (j : ℕ) (y : JobState) (sets : List ℕ) : Type 0 where
  pub is_job : j < length plan.jobs
  pub changes : changes_session what ≡ true → IsInSession y.drinking → (1 ≤ y.session) × (y.session ≤ length (sessions plan j))
  pub stays : changes_session what ≡ false → AreNeeded plan j y sets
  pub wide : length sets ≡ length (edges plan)

module _ {A : Type 0} (b : bench_fields.Inside A) (d : Inside A) (is_bench : IsBench b) (ok : IsDesk d) (owns : Owns (bench_of b) (view_of d)) where
  abbrev sv : View
  sv = d.seat.me.0

  abbrev sp : LabPlan
  sp = (hand_in sv).plan

  abbrev sj : ℕ
  sj = (hand_in sv).job

  pub desk_session : d.phase.session ≤ 1000
  desk_session =
      let x = (desk_seat d ok).phase_within.session_there in
      let few = is_bench.is_plan.draft.few_sessions sj in
      let same : length (sessions sp sj) ≡ length (sessions b.table.shared.key.plan.value sj) = ap (λ (z : LabPlan). length (sessions z sj)) owns.1 in
      omega arith

  pub desk_position : d.phase.position ≤ 100000
  desk_position = let x = (desk_seat d ok).phase_within.position_there in let few = few_commands b.table.shared.key.plan.value sj d.phase.session is_bench.is_plan in
      let same : length (commands sp sj d.phase.session) ≡ length (commands b.table.shared.key.plan.value sj d.phase.session) =
      ap (λ (z : LabPlan). length (commands z sj d.phase.session)) owns.1 in
      omega arith

  pub few_counts : AreFew d.counts
  few_counts = subst AreFew (sym (counts_whole sj sv.front) ∙ (ap (counts_of sj) ok.at_rest.whole ∙ ok.counts))
      (few_in sp sj sv.front (subst IsPlan (sym owns.1) is_bench.is_plan) ok.at_rest.legal)

  pub own_is : own_phase sv ≡ d.phase
  own_is = ap (λ (x : Seat). x.phase) ok.own

  pub place_known : (i : ℕ) → i ≡ phase_place b.plan.now d.job → i ≡ phase_place sp sj
  place_known i is = is ∙ (λ k. phase_place (plan_known b d is_bench ok owns k) (sym ok.job k))

  abbrev pub Stored : ℕ → ℕ → Type 0
  Stored i n = (d.seat.table_id ≡ b.table.shared.table_id) × (i < b.table.shared.table_id.words)
      × Allows (HasOneHistory b.table.shared.key.plan.value) b.table.shared.table_id.slots d.seat.id d.seat.me i
      (λ _. n) (λ _. stored (step b.table.shared.table_id.slots i n 0 none) d.seat.me n)

  pub store_requires : (what : PhaseEvent) (i n : ℕ) (y : JobState) → MayStore what (view_of d)
      → i ≡ phase_place b.plan.now d.job → y ≡ phase_after what d.phase → n ≡ phase_word_of y → Stored i n
  store_requires what i n y may is_i is_y is_n =
      let here = ok.at_rest.inside in
      subst (λ z. Stored z n) (sym (place_known i is_i))
      (framed b d is_bench ok owns (phase_place sp sj) (λ _. n)
      (λ _. stored (step b.table.shared.table_id.slots (phase_place sp sj) n 0 none) d.seat.me n) (omega arith)
      (stores sp b.table.shared.table_id.slots d.seat.id sv d.seat.me.1 (led sv ok.at_rest.mine) ok.at_rest.inside what n may
      (subst (λ (z : JobState). z.drinking ≢ Reaching) (sym own_is) ok.rests)
      (is_n ∙ (ap phase_word_of is_y ∙ ap (λ (z : JobState). phase_word_of (phase_after what z)) (sym own_is)))))

  -- which event it was
  pub told_phase : (what : PhaseEvent) (w : View) (n : ℕ) (y : JobState) → MayStore what (view_of d)
      → y ≡ phase_after what d.phase → y.session ≤ 1001 → n ≡ phase_word_of y
      → Does sv (phase_event sj (own_phase sv) (phase_of n)) w → Does sv (event_of what sj) w
  told_phase what w n y may is_y few is_n t =
      let short : y.position ≤ d.phase.position = subst (λ (z : JobState). z.position ≤ d.phase.position) (sym is_y) (short_position what d.phase) in
      let p = desk_position in
      let fits : FitsPhaseWord y = record { session_fits = omega arith; position_fits = omega arith } in
      let becomes : phase_of n ≡ phase_after what (own_phase sv) =
      ap phase_of is_n ∙ (phase_of-phase_word_of y fits ∙ (is_y ∙ ap (phase_after what) (sym own_is))) in
      subst (λ z. Does sv z w) (ap (phase_event sj (own_phase sv)) becomes ∙ told_back what sp sj (mine sv) may) t

  -- the needed bottles after it
  pub renew_requires : (what : PhaseEvent) (y : JobState) → MayStore what (view_of d) → y ≡ phase_after what d.phase
      → Renews what b.plan.now d.job y d.needed.items
  renew_requires what y may is_y =
      let at : Renews what sp sj (phase_after what (own_phase sv)) d.needed.items = record {
        is_job = ok.at_rest.inside;
        changes = session_changes what sp (mine sv) sj may;
        stays = λ stays. let n = session_stays what sp (mine sv) sj may stays in
            needs_stay sp sj (own_phase sv) (phase_after what (own_phase sv)) d.needed.items n.0 n.1
            (subst (λ (z : JobState). AreNeeded sp sj z d.needed.items) (sym own_is) ok.needed);
        wide = ok.needed.wide;
      } in
      subst (λ (z : LabPlan × ℕ × JobState). Renews what z.0 z.1 z.2 d.needed.items)
      (λ i. (sym (plan_known b d is_bench ok owns) i, ok.job i, (ap (phase_after what) own_is ∙ sym is_y) i)) at

  pub renewed : (y : JobState) (sets : List ℕ) → AreNeeded b.plan.now d.job y sets → AreNeeded sp sj y sets
  renewed y sets all = subst (λ (z : LabPlan × ℕ). AreNeeded z.0 z.1 y sets) (λ i. (plan_known b d is_bench ok owns i, sym ok.job i)) all

  -- the own edges are inside each list by edge number
  pub own_listed : (own : List ℕ) → own ≡ edges_of b.plan.now d.job → own ≡ edges_of sp sj
  own_listed own is = is ∙ (λ i. edges_of (plan_known b d is_bench ok owns i) (sym ok.job i))

  pub own_inside : {X : Type 0} (own : List ℕ) (l : List X) → own ≡ edges_of b.plan.now d.job → length l ≡ length (edges sp) → All (λ e. e < length l) own
  own_inside own l is wide k dflt inside =
      let own_edge = (subst (All (IsOwn sp sj)) (sym (own_listed own is)) (own_edges sp sj) k dflt inside).is_edge in
      omega (arith, own_edge, wide)

  -- the desk after it
  pub phase_kept : (what : PhaseEvent) (d' : Inside A) → Does sv (event_of what sj) d'.seat.me.0
      → d'.seat.me.1 ≡ d.seat.me.1 → d'.job ≡ d.job → d'.counts ≡ counted what d.counts → d'.phase ≡ phase_after what d.phase
      → d'.fork_marks.items ≡ (if clears what then replicate (length d.fork_marks.items) false else d.fork_marks.items)
      → d'.bottle_marks.items ≡ d.bottle_marks.items → d'.seen.items ≡ d.seen.items
      → d'.calm.items ≡ replicate (length d.calm.items) no_word → d'.settled ≡ false → AreNeeded sp sj d'.phase d'.needed.items → IsDesk d'
  phase_kept what d' t empty job counts phase forks_are marks_are seen calm unsettled needed =
      let jobs = mine_seats sv in
      let here = ok.at_rest.inside in
      let by = by_job what sj in
      let own_now : seat (learned_all sp (mine sv) (event_of what sj ∷ [])) sj ≡ kept d' =
      subst (λ i. i < length (mine sv).seats → seat (learned sp (mine sv) (event_of what sj)) i ≡ seat_after sp (seat (mine sv) i) (event_of what sj)) by
      (learned_seat sp (mine sv) (event_of what sj)) (omega arith)
      ∙ (ap (λ (x : Seat). seat_after sp x (event_of what sj)) ok.own
      ∙ (seat_stored what sp sj (kept d) ∙ (λ i. record { phase = sym phase i; fork_marks = sym forks_are i; bottle_marks = sym marks_are i }))) in
      desk_grows d ok d' (event_of what sj ∷ []) t (empty ∙ ok.empty) job own_now
      (learned_phase what sp sj (mine sv) ∙ (ok.seen ∙ sym seen)) (subst (AreOfPlan sp) (sym seen) ok.of_plan)
      (none_still sp (learned_all sp (mine sv) (event_of what sj ∷ [])) sj (length d.calm.items) d'.calm.items calm ok.calm.wide
      (λ e others. ap (λ (x : Seat). get_or x.fork_marks e false) own_now
      ∙ (ap (λ l. get_or l e false) forks_are ∙ unmarked_still (clears what) d.fork_marks.items e (fork_unmarked d ok e others))))
      (not_settled d ok d' unsettled)
      (subst (λ (z : JobState). z.drinking ≢ Reaching) (sym phase) (still_rests what d.phase ok.rests))
      (counts_grow what sj (hand_in sv).deeds ∙ (ap (counted what) ok.counts ∙ sym counts)) needed
