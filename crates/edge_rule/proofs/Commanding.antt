-- A desk that has reached, and has the log of its instrument in hand.
use Rattle.std.proofs.Common.{◌≡◌, ℕ, ◌+◌, ◌<◌, false, List, [], ◌∷◌, ◌++◌, length, get_or, refl, sym, ap, ◌∙◌, subst, inl, inr, arith}
use mathlib.Core.Option.{none}
use Rattle.atomic_table.specs.Table.{step, rest, Allows}
use Rattle.atomic_table.specs.declared.shared.Seat.{Seat as TableSeat}
use Rattle.lab_plan.specs.declared.verb.Verb.{Verb}
use Rattle.lab_plan.specs.LabPlan.{LabPlan, commands, command_at}
use Rattle.lab_plan.specs.IsPlan.{IsPlan}
use Rattle.instrument_log.specs.declared.entry.Entry.{Entry}
use Rattle.instrument_log.specs.Dial.{turned, dial}
use Rattle.instrument_log.specs.Entries.{IsWithinLimits}
use Rattle.instrument_log.specs.InstrumentLog.{LogView, MayAppend, with_entry as with_log_entry}
use Rattle.legal_steps.specs.declared.edge_state.EdgeState.{EdgeState}
use Rattle.legal_steps.specs.declared.phase.JobState.{JobState}
use Rattle.legal_steps.specs.declared.phase.Drinking.TheVariants.{Drinking as Drinks, Reaching}
use Rattle.legal_steps.specs.declared.event.Event.{Event}
use Rattle.legal_steps.specs.declared.event.Event.TheVariants.{Reach, Act}
use Rattle.legal_steps.specs.State.{Seat, State, IsInSession, seat, phase, drinking, log, no_edge}
use Rattle.legal_steps.specs.Legal.{May, IsJob, next_command, entry_after, next_entry}
use Rattle.legal_steps.specs.Opening.{the_opening}
use Rattle.legal_steps.specs.WholeLogs.{ended_sessions, log_with_room}
use Rattle.legal_steps.proofs.LogRun.{IsLogged, logged}
use Rattle.legal_steps.proofs.AppendLaw.{act_appends_logged, within_limits_logged, next_value}
use Rattle.legal_steps.proofs.ReachedLaws.{the_opening_is_acyclic}
use Rattle.edge_word.specs.Phases.{phase_word_of}
use Rattle.one_history.specs.declared.board.Hand.{Hand}
use Rattle.one_history.specs.declared.board.View.{View}
use Rattle.edge_rule.specs.declared.desk.Desk.TheInside.{Inside}
use Rattle.edge_rule.specs.declared.bench.Bench.TheInside as bench_fields
use Rattle.plan_logs.specs.Logs.{IsAtCommand}
use Rattle.turns.specs.History.{learned_all, known_by, state_after, events_by, IsHistory}
use Rattle.one_history.specs.Rule.{phase_place, word_count, HasOneHistory}
use Rattle.one_history.specs.Grow.{hand_in, adding, mine, Does, own_phase, next_instrument, reached, acted}
use Rattle.edge_rule.specs.DeskView.{DeskView, Owns, Adds, Commanded, known}
use Rattle.legal_steps.specs.Counting.{counts_of}
use Rattle.edge_rule.proofs.CountsKept.{counts_stay}
use Rattle.edge_rule.specs.NeededBottles.{AreNeeded}
use Rattle.edge_rule.proofs.NotedNeeds.{needs_stay}
use Rattle.edge_rule.specs.DeskInside.{seat_view, view_of, kept, AreOfPlan, AtRest, IsDesk}
use Rattle.edge_rule.specs.BenchInside.{bench_of, IsBench}
use Rattle.edge_rule.specs.CalmEdges.{AreStill}
use Rattle.edge_rule.proofs.StillEdges.{same_at, stay_still}
use Rattle.turns.specs.Due.{but_position}
use Rattle.turns.specs.Changes.{seat_after}
use Rattle.turns.proofs.Frame.{learned_seat}
use Rattle.turns.proofs.Runs.{own_known}
use Rattle.one_history.proofs.Reaching.{next_same, reaches, acts}
use Rattle.edge_rule.proofs.DeskSteps.{led, hand_grown, mine_grown, mine_seats, rest_grown, desk_seat, framed, plan_known, seat_adds}
use Rattle.edge_rule.proofs.DeskMoves.{own_is, place_known}

abbrev pub MayReach : DeskView → Type 0
MayReach y = May y.plan (known y) (Reach y.job)

-- the value of the slot that was taken last
pub first_value : {A : Type 0} (l : List (ℕ × A)) (i : ℕ) (a b : A) → l ≡ (i, a) ∷ [] → l ≡ (i, b) ∷ rest l → b ≡ a
first_value {A} l i a b e f = ap (λ (z : List (ℕ × A)). (get_or {A = ℕ × A} z 0 (i, a)).1) (sym f ∙ e)

-- the entry, by the phase and the log
pub entry_is : (plan : LabPlan) (s : State) (j : ℕ) (x : JobState) (l : List Entry) → phase s j ≡ x → log s (next_command plan s j).0 ≡ l
    → entry_after plan j x.session x.position l ≡ next_entry plan s j
unfolding next_entry
entry_is plan s j x l is_x is_l = λ k. entry_after plan j (sym is_x k).session (sym is_x k).position (sym is_l k)

-- what a reaching job's Act finds, after a history
pub takes_entry : (plan : LabPlan) (h : List Event) (j : ℕ) → IsPlan plan → IsHistory plan h → IsJob plan j → drinking (state_after plan h) j ≡ Reaching
    → (let s : State = state_after plan h in let i : ℕ = (next_command plan s j).0 in
    MayAppend (log_with_room plan s i) (next_entry plan s j) × IsWithinLimits (next_entry plan s j))
takes_entry plan h j is legal job reaching =
    let all : IsLogged plan (state_after plan h) (ended_sessions plan (the_opening plan) h) =
    logged plan (the_opening plan) h is (the_opening_is_acyclic plan).0 legal in (
      act_appends_logged plan (state_after plan h) (ended_sessions plan (the_opening plan) h) j is all job reaching,
      within_limits_logged plan (state_after plan h) (ended_sessions plan (the_opening plan) h) j is all job reaching,
    )

module _ {A : Type 0} (b : bench_fields.Inside A) (d : Inside A) (is_bench : IsBench b)
    (ok : IsDesk d) (owns : Owns (bench_of b) (view_of d)) (ready : MayReach (view_of d)) where
  abbrev cv : View
  cv = d.seat.me.0

  abbrev cp : LabPlan
  cp = (hand_in cv).plan

  abbrev cj : ℕ
  cj = (hand_in cv).job

  abbrev slots : ℕ
  slots = b.table.shared.table_id.slots

  abbrev key : LabPlan
  key = b.table.shared.key.plan.value

  at_own : IsAtCommand cp cj d.phase
  at_own =
      let x = (desk_seat d ok).phase_within in
      let drinks : d.phase.drinking ≡ Drinks = sym (ap (λ (z : JobState). z.drinking) (own_is b d is_bench ok owns)) ∙ ready.1 in
      record {
        is_job = ok.at_rest.inside;
        begun = x.begun (inr (inl drinks));
        session_there = x.session_there;
        left = subst (λ (z : JobState). z.position < length (commands cp cj z.session)) (own_is b d is_bench ok owns) ready.2;
      }

  pub at_command : IsAtCommand b.plan.now d.job d.phase
  at_command = subst (λ (z : LabPlan × ℕ). IsAtCommand z.0 z.1 d.phase) (λ i. (sym (plan_known b d is_bench ok owns) i, ok.job i)) at_own

  -- the slot, as it is computed
  slot_known : (k : ℕ) → k ≡ (command_at b.plan.now d.job d.phase.session d.phase.position).0 → k ≡ next_instrument cv
  slot_known k is =
      is
      ∙ (λ i. (command_at (plan_known b d is_bench ok owns i) (sym ok.job i)
      (sym (own_is b d is_bench ok owns) i).session (sym (own_is b d is_bench ok owns) i).position).0)

  abbrev pub ReachesAt : ℕ → ℕ → Type 0
  ReachesAt i n = (d.seat.table_id ≡ b.table.shared.table_id) × (i < b.table.shared.table_id.words)
      × Allows (HasOneHistory key) slots d.seat.id d.seat.me i (λ _. n) (λ _. reached (step slots i n 0 none) d.seat.me n)

  pub reach_requires : (i n : ℕ) → i ≡ phase_place b.plan.now d.job → n ≡ phase_word_of (record d.phase { drinking = Reaching }) → ReachesAt i n
  reach_requires i n is_i is_n =
      let here = ok.at_rest.inside in
      subst (λ z. ReachesAt z n) (sym (place_known b d is_bench ok owns i is_i))
      (framed b d is_bench ok owns (phase_place cp cj) (λ _. n) (λ _. reached (step slots (phase_place cp cj) n 0 none) d.seat.me n) (omega arith)
      (reaches cp slots d.seat.id cv d.seat.me.1 (led cv ok.at_rest.mine) ok.at_rest.inside n ready (is_n
      ∙ ap (λ (z : JobState). phase_word_of (record z { drinking = Reaching })) (sym (own_is b d is_bench ok owns)))))

  -- ---- after the Reach

  module _ (s1 : TableSeat LogView View) (i n : ℕ) (t : reached (step slots i n 0 none) d.seat.me n s1.me) (same_table : s1.table_id ≡ d.seat.table_id) where
    abbrev v1 : View
    v1 = s1.me.0

    abbrev u : State
    u = state_after cp v1.front

    x1 : hand_in v1 ≡ adding (hand_in cv) (Reach cj ∷ [])
    x1 = hand_grown cv v1 (Reach cj ∷ []) t.0.hands

    pub rests1 : AtRest v1
    rests1 = rest_grown cv v1 (Reach cj ∷ []) ok.at_rest t.0

    -- what the job knows, and the state, at the job
    mine1 : mine v1 ≡ learned_all cp (mine cv) (Reach cj ∷ [])
    mine1 = mine_grown cv v1 (Reach cj ∷ []) t.0

    seat1 : seat (mine v1) cj ≡ record (kept d) { phase = record d.phase { drinking = Reaching } }
    seat1 =
        let n = mine_seats cv in
        let here = ok.at_rest.inside in
        ap (λ z. seat z cj) mine1 ∙ (learned_seat cp (mine cv) (Reach cj) (omega arith) ∙ ap (λ (z : Seat). seat_after cp z (Reach cj)) ok.own)

    seat_u : seat u cj ≡ seat (mine v1) cj
    seat_u = own_known cp cj v1.front ok.at_rest.inside
        ∙ (ap (λ (l : List Event). seat (known_by cp l) cj) t.0.whole ∙ (λ i. seat (known_by (sym x1 i).plan (sym x1 i).deeds) cj))

    phase_u : phase u cj ≡ record d.phase { drinking = Reaching }
    phase_u = ap (λ (z : Seat). z.phase) (seat_u ∙ seat1)

    next_u : (next_command cp u cj).0 ≡ next_instrument cv
    next_u = ap (λ (z : JobState). (command_at cp cj z.session z.position).0) (phase_u
        ∙ ap (λ (z : JobState). record z { drinking = Reaching }) (sym (own_is b d is_bench ok owns)))

    next_one : next_instrument v1 ≡ next_instrument cv
    next_one = (λ k. (next_command (x1 k).plan (mine v1) (x1 k).job).0) ∙ (ap (λ (z : ℕ × Verb). z.0) (next_same cp (mine v1) u cj (sym seat_u)) ∙ next_u)

    -- the log in hand
    abbrev pub taken : LogView
    taken = log_with_room cp u (next_instrument cv)

    pub in_hand : (k : ℕ) → k ≡ (command_at b.plan.now d.job d.phase.session d.phase.position).0 → s1.me.1 ≡ (k, taken) ∷ []
    in_hand k is = t.1 ∙ (λ r. (sym (slot_known k is) r, taken) ∷ ok.empty r)

    pub slot_requires : (k : ℕ) → k ≡ (command_at b.plan.now d.job d.phase.session d.phase.position).0
        → (s1.table_id ≡ b.table.shared.table_id) × ((old : LogView) × (s1.me.1 ≡ (k, old) ∷ rest s1.me.1))
    slot_requires k is = (same_table ∙ owns.0, (taken, in_hand k is ∙ (λ r. (k, taken) ∷ sym (ap rest (in_hand k is)) r)))

    pub is_taken : (k : ℕ) (y : LogView) → k ≡ (command_at b.plan.now d.job d.phase.session d.phase.position).0 → s1.me.1 ≡ (k, y) ∷ rest s1.me.1 → y ≡ taken
    is_taken k y is e = first_value s1.me.1 k taken y (in_hand k is) e

    is_plan : IsPlan cp
    is_plan = subst IsPlan (sym owns.1) is_bench.is_plan

    entry_u : (y : LogView) (entry : Entry) → y ≡ taken → entry ≡ entry_after b.plan.now d.job d.phase.session d.phase.position y.entries
        → entry ≡ next_entry cp u cj
    entry_u y entry is is_entry = is_entry
        ∙ ((λ k. entry_after (plan_known b d is_bench ok owns k) (sym ok.job k) d.phase.session d.phase.position (is k).entries)
        ∙ entry_is cp u cj (record d.phase { drinking = Reaching }) (log u (next_instrument cv)) phase_u (ap (log u) next_u))

    takes_u : MayAppend (log_with_room cp u (next_command cp u cj).0) (next_entry cp u cj) × IsWithinLimits (next_entry cp u cj)
    takes_u = takes_entry cp v1.front cj is_plan t.0.legal ok.at_rest.inside (ap (λ (z : JobState). z.drinking) phase_u)

    module _ (k : ℕ) (y : LogView) (entry : Entry) (is_k : k ≡ (command_at b.plan.now d.job d.phase.session d.phase.position).0)
        (at_slot : s1.me.1 ≡ (k, y) ∷ rest s1.me.1) (is_entry : entry ≡ entry_after b.plan.now d.job d.phase.session d.phase.position y.entries) where
      same_log : y ≡ taken
      same_log = is_taken k y is_k at_slot

      pub entry_next : entry ≡ next_entry cp u cj
      entry_next = entry_u y entry same_log is_entry

      pub may_append : MayAppend y entry
      may_append = subst (λ (z : LogView × Entry). MayAppend z.0 z.1) (λ r. ((ap (log_with_room cp u) next_u ∙ sym same_log) r, sym entry_next r)) takes_u.0

      pub within_limits : IsWithinLimits entry
      within_limits = subst IsWithinLimits (sym entry_next) takes_u.1

      pub on_dial : entry.value ≡ turned entry.verb (dial y.entries)
      on_dial = subst (λ (z : LogView × Entry). z.1.value ≡ turned z.1.verb (dial z.0.entries))
          (λ r. ((ap (log_with_room cp u) next_u ∙ sym same_log) r, sym entry_next r)) (next_value cp u cj)

      abbrev pub ActsAt : ℕ → ℕ → List (ℕ × LogView) → Type 0
      ActsAt i n c = (s1.table_id ≡ b.table.shared.table_id) × (i < b.table.shared.table_id.words)
          × Allows (HasOneHistory key) slots s1.id (v1, c) i (λ _. n) (λ _. acted (step slots i n 0 none) (v1, c) n)

      pub act_requires : (i n : ℕ) (z : LogView) → i ≡ phase_place b.plan.now d.job
          → n ≡ phase_word_of (record d.phase { drinking = Drinks; position = d.phase.position + 1 }) → z ≡ with_log_entry y entry
          → ActsAt i n ((k, z) ∷ rest s1.me.1)
      act_requires i n z is_i is_n is_z =
          let here = ok.at_rest.inside in
          let words = is_bench.words in
          let inside : phase_place key cj < word_count key = let l : cj < length key.jobs = subst (λ (q : LabPlan). cj < length q.jobs) owns.1 here in
          omega arith in
          let place : i ≡ phase_place key cj = place_known b d is_bench ok owns i is_i ∙ ap (λ (q : LabPlan). phase_place q cj) owns.1 in
          let job1 : (hand_in v1).job ≡ cj = ap (λ (q : Hand). q.job) x1 in
          let plan1 : (hand_in v1).plan ≡ cp = ap (λ (q : Hand). q.plan) x1 in
          let phase1 : own_phase v1 ≡ record d.phase { drinking = Reaching } = ap (λ (q : ℕ). phase (mine v1) q) job1 ∙ ap (λ (q : Seat). q.phase) seat1 in
          let c : List (ℕ × LogView) = (k, z) ∷ rest s1.me.1 in
          let is_c : c ≡ (k, z) ∷ [] = λ r. (k, z) ∷ ap rest (in_hand k is_k) r in
          let may1 : May cp (mine v1) (Act (hand_in v1).job) =
          (subst (λ (q : ℕ). q < length cp.jobs) (sym job1) here, ap (λ (q : JobState). q.drinking) phase1) in
          let slot1 : k ≡ next_instrument v1 = slot_known k is_k ∙ sym next_one in
          let z_is : z ≡ with_log_entry (log_with_room cp u k) (next_entry cp u (hand_in v1).job) =
          is_z ∙ (λ r. with_log_entry ((same_log ∙ ap (log_with_room cp u) (sym (slot_known k is_k))) r) ((entry_next ∙ ap (next_entry cp u) (sym job1)) r)) in
          let whole1 : events_by (hand_in v1).job v1.front ≡ (hand_in v1).deeds = rests1.whole in
          let n_is : n ≡ phase_word_of (record (own_phase v1) { drinking = Drinks; position = (own_phase v1).position + 1 }) =
          is_n ∙ ap (λ (q : JobState). phase_word_of (record q { drinking = Drinks; position = q.position + 1 })) (sym phase1) in
          let allows : Allows (HasOneHistory cp) slots s1.id (v1, c) (phase_place cp (hand_in v1).job)
          (λ _. n) (λ _. acted (step slots (phase_place cp (hand_in v1).job) n 0 none) (v1, c) n) =
          acts cp slots s1.id v1 c (led v1 rests1.mine) (subst (λ (q : ℕ). q < length cp.jobs) (sym job1) here) n k z is_c may1 slot1 z_is whole1 n_is in
          subst (λ q. ActsAt q n c) (sym place) (
            same_table ∙ owns.0,
            (omega arith),
            subst (λ (q : LabPlan × ℕ). Allows (HasOneHistory q.0) slots s1.id (v1, c) (phase_place q.0 q.1) (λ _. n)
                (λ _. acted (step slots (phase_place q.0 q.1) n 0 none) (v1, c) n)) (λ r. (owns.1 r, job1 r)) allows,
          )

    -- ---- after the Act

    module _ (d' : Inside A) (did : Does v1 (Act (hand_in v1).job) d'.seat.me.0) where
      abbrev w : View
      w = d'.seat.me.0

      pub commanded : d'.seat.me.1 ≡ [] → d'.job ≡ d.job → d'.counts ≡ d.counts → d'.needed.items ≡ d.needed.items
          → kept d' ≡ record (kept d) { phase = record d.phase { position = d.phase.position + 1 } }
          → d'.seen.items ≡ d.seen.items → d'.calm.items ≡ d.calm.items → d'.settled ≡ d.settled → IsDesk d'
      commanded empty job counts needed position seen calm settled =
          let here = ok.at_rest.inside in
          let x2 : hand_in w ≡ adding (hand_in v1) (Act (hand_in v1).job ∷ []) = hand_grown v1 w (Act (hand_in v1).job ∷ []) did.hands in
          let job2 : (hand_in w).job ≡ cj = ap (λ (q : Hand). q.job) x2 ∙ ap (λ (q : Hand). q.job) x1 in
          let deeds2 : (hand_in w).deeds ≡ ((hand_in cv).deeds ++ Reach cj ∷ []) ++ Act cj ∷ [] =
          ap (λ (q : Hand). q.deeds) x2 ∙ (λ r. (x1 r).deeds ++ Act (x1 r).job ∷ []) in
          let plan2 : (hand_in w).plan ≡ cp = ap (λ (q : Hand). q.plan) x2 ∙ ap (λ (q : Hand). q.plan) x1 in
          let mine2 : mine w ≡ learned_all cp (mine v1) (Act cj ∷ []) =
          mine_grown v1 w (Act (hand_in v1).job ∷ []) did ∙ (λ r. learned_all (x1 r).plan (mine v1) (Act (x1 r).job ∷ [])) in
          let seats : length (mine v1).seats ≡ length cp.jobs = mine_seats v1 ∙ ap (λ (q : Hand). length q.plan.jobs) x1 in
          let was : d.phase.drinking ≡ Drinks = sym (ap (λ (z : JobState). z.drinking) (own_is b d is_bench ok owns)) ∙ ready.1 in
          let own : kept d' ≡ record (kept d) { phase = record d.phase { drinking = Drinks; position = d.phase.position + 1 } } =
          position ∙ (λ r. record (kept d) { phase = record d.phase { drinking = was r; position = d.phase.position + 1 } }) in
          let still_drinks : but_position (record d.phase { drinking = Drinks; position = d.phase.position + 1 }) ≡ but_position d.phase =
          λ r. record d.phase { drinking = sym was r; position = 0 } in
          let own_now : seat (mine w) cj ≡ kept d' = ap (λ (q : State). seat q cj) mine2
          ∙ (learned_seat cp (mine v1) (Act cj) (omega arith) ∙ (ap (λ (q : Seat). seat_after cp q (Act cj)) seat1 ∙ sym own)) in
          let seen_now : (mine w).edges ≡ d'.seen.items = ap (λ (q : State). q.edges) mine2 ∙ (ap (λ (q : State). q.edges) mine1 ∙ (ok.seen ∙ sym seen)) in
          record {
            at_rest = rest_grown v1 w (Act (hand_in v1).job ∷ []) rests1 did;
            empty = empty;
            job = job2 ∙ (ok.job ∙ sym job);
            counts = (λ r. counts_of (job2 r) (deeds2 r)) ∙ (counts_stay cj ((hand_in cv).deeds ++ Reach cj ∷ []) (Act cj ∷ []) ((refl, refl, refl), tt)
                ∙ (counts_stay cj (hand_in cv).deeds (Reach cj ∷ []) ((refl, refl, refl), tt)
                ∙ (ok.counts ∙ sym counts)));
            own = (λ r. seat (mine w) (job2 r)) ∙ own_now;
            seen = seen_now;
            of_plan = subst (λ (q : LabPlan × List EdgeState). AreOfPlan q.0 q.1) (λ r. (sym plan2 r, sym seen r)) ok.of_plan;
            calm = subst (λ (q : LabPlan × ℕ × List ℕ). AreStill q.0 (mine w) q.1 q.2) (λ r. (sym plan2 r, sym job2 r, sym calm r))
                (stay_still cp (mine cv) (mine w) cj d.calm.items
                (λ f. same_at (mine cv) (mine w) cj f (kept d) (kept d') d.seen.items d'.seen.items ok.own own_now ok.seen seen_now
                (ap (λ l. get_or l f no_edge) seen) (ap (λ (q : Seat). but_position q.phase) own ∙ still_drinks)
                (ap (λ (q : Seat). get_or q.fork_marks f false) own) (ap (λ (q : Seat). get_or q.bottle_marks f 0) own)) ok.calm);
            settled = λ is. absurd ((ok.settled (sym settled ∙ is)).no_reach ready);
            needed =
                let drinking : d'.phase.drinking ≡ d.phase.drinking = ap (λ (q : Seat). q.phase.drinking) own ∙ sym was in
                subst (λ (q : LabPlan × ℕ × List ℕ). AreNeeded q.0 q.1 d'.phase q.2) (λ r. (sym plan2 r, sym job2 r, sym needed r))
                (needs_stay cp cj d.phase d'.phase d.needed.items (ap (λ (q : Seat). q.phase.session) own)
                ((λ h. subst IsInSession (sym drinking) h), (λ h. subst IsInSession drinking h)) ok.needed);
            rests =
                let drinks : d'.phase.drinking ≡ Drinks = ap (λ (q : Seat). q.phase.drinking) own in
                λ e. (let both : Drinks ≡ Reaching = sym drinks ∙ e in cc);
          }

    pub commanded_adds : (s2 : TableSeat LogView View) → Does v1 (Act (hand_in v1).job) s2.me.0 → (y : DeskView) (entry : Entry)
        → view_of d ≡ y → s2.table_id ≡ s1.table_id → entry ≡ next_entry cp u cj → Commanded y entry (seat_view d.clock s2)
    commanded_adds s2 did y entry view table is_entry =
        let a : Adds y (Reach y.job ∷ []) (seat_view d.clock s1) = seat_adds d.seat s1 y (λ (z : DeskView). Reach z.job ∷ []) view t.0 same_table in
        let c : Adds (seat_view d.clock s1) (Act (seat_view d.clock s1).job ∷ []) (seat_view d.clock s2) =
        seat_adds s1 s2 (seat_view d.clock s1) (λ (z : DeskView). Act z.job ∷ []) refl did table in
        record {
          middle = seat_view d.clock s1;
          reaches = a;
          makes = is_entry ∙ (λ r. next_entry (view r).plan (state_after (sym x1 r).plan v1.front) (view r).job);
          acts = subst (λ (q : ℕ). Adds (seat_view d.clock s1) (Act q ∷ []) (seat_view d.clock s2)) a.job c;
        }
