-- A command: the log leaves its slot, and comes back with one more entry.
use Rattle.std.proofs.Common.{◌≡◌, ◌≢◌, ℕ, ◌+◌, ◌<◌, List, [], ◌∷◌, ◌++◌, length, set, refl, sym, ap, ◌∙◌, subst, inl, inr, arith, length-set, get_or-set_other, get_or-set_same}
use Rattle.std.proofs.lemmas.Bool.{cases_eq}
use Rattle.std.proofs.lemmas.List.Elements.{filter-append}
use mathlib.Core.Option.{Option, none, some}
use lib.ListN.{get_elem?}
use Rattle.atomic_table.specs.Table.{State as TableState, step, takes, gives, stepped, Allows}
use Rattle.atomic_table.proofs.Lists.{set_here, set_else}
use Rattle.lab_plan.specs.declared.verb.Verb.{Verb}
use Rattle.lab_plan.specs.LabPlan.{LabPlan, command_at}
use Rattle.lab_plan.specs.IsPlan.{IsPlan}
use Rattle.instrument_log.specs.declared.entry.Entry.{Entry}
use Rattle.instrument_log.specs.InstrumentLog.{LogView, with_entry as with_log_entry}
use Rattle.legal_steps.specs.declared.event.Event.{Event}
use Rattle.legal_steps.specs.declared.event.Event.TheVariants.{Reach, Act}
use Rattle.legal_steps.specs.declared.phase.Drinking.TheVariants.{Drinking as Drinks, Reaching}
use Rattle.legal_steps.specs.declared.phase.JobState.{JobState}
use Rattle.legal_steps.specs.State.{Seat, State, seat, phase, drinking, log}
use Rattle.legal_steps.specs.Legal.{May, after, next_command, next_entry}
use Rattle.legal_steps.specs.Run.{IsLegalFrom}
use Rattle.legal_steps.specs.Opening.{the_opening}
use Rattle.legal_steps.specs.Fitting.{Fits}
use Rattle.legal_steps.specs.Holding.{IsExclusive}
use Rattle.legal_steps.specs.WholeLogs.{room_of, log_with_room}
use Rattle.edge_word.specs.Phases.{phase_word_of}
use Rattle.one_history.specs.declared.board.View.{View}
use Rattle.turns.specs.History.{is_by, events_by, IsHistory, known_by, state_after}
use Rattle.one_history.specs.Rule.{phase_place, Spelled, Homed, HasOneHistory}
use Rattle.turns.specs.Reaching.{IsReachingFor}
use Rattle.one_history.specs.Grow.{hand_in, IsLed, mine, own_phase, next_instrument, reached, acted}
use Rattle.turns.specs.Changes.{seat_after}
use Rattle.turns.proofs.Local.{reach_alike, act_alike}
use Rattle.turns.proofs.Runs.{after_all-append, append_self, own_known}
use Rattle.one_history.proofs.Keeps.{grown, held_in, appends, tells, known}
use Rattle.turns.proofs.Histories.{history_fits, history_exclusive, reaching_still}
use Rattle.one_history.proofs.Looking.{jobs_there}
use Rattle.one_history.proofs.Storing.{phase_here, phase_there, turned_words, others_reach}
use Rattle.turns.proofs.Holding.{next_inside, none_reaches, reaching_left, log_kept, next_entry_same}

-- the next command, by the seat
pub next_same : (plan : LabPlan) (s t : State) (j : ℕ) → seat s j ≡ seat t j → next_command plan s j ≡ next_command plan t j
next_same plan s t j own = ap (λ (x : Seat). command_at plan j x.phase.session x.phase.position) own

-- ---- the homes

module _ (p : LabPlan) (w : State) (j : ℕ) (hs : List (Option LogView)) (homed : Homed p w hs) where
  abbrev next : ℕ
  next = (next_command p w j).0

  -- no one else reaches for the instrument, so its log is at home
  at_home : Fits p w → IsPlan p → IsExclusive p w → May p w (Reach j) → get_elem? hs next ≡ some (some (log_with_room p w next))
  at_home fit is one may = elim (homed.slots next (next_inside p w j is may.2)) [
    | inl q ↦ q
    | inr q ↦ absurd (none_reaches p w j q.1.0 fit one may q.1.1)
  ]

  homed_out : IsPlan p → j < length w.seats → May p w (Reach j) → Homed p (after p w (Reach j)) (set hs next none)
  homed_out is inside may =
      let w' : State = after p w (Reach j) in
      let deep = homed.deep in
      let here : phase w' j ≡ record (phase w j) { drinking = Reaching } = phase_here p j (Reach j) refl w inside in
      let mine_now : IsReachingFor p w' j next = record {
        job = may.0;
        reaching = ap (λ (x : JobState). x.drinking) here;
        next = ap (λ (x : JobState). (command_at p j x.session x.position).0) here;
      } in
      let rests : drinking w j ≢ Reaching = λ e. (let both : Drinks ≡ Reaching = sym may.1 ∙ e in cc) in
      let there = next_inside p w j is may.2 in
      record {
        deep = length-set hs next none ∙ deep;
        slots = λ i l. elim (cases_eq i next) [
          | inl same ↦ inr (
            subst (λ z. get_elem? (set hs next none) z ≡ some none) (sym same) (set_here hs next none (omega arith)),
            (j, subst (IsReachingFor p w' j) (sym same) mine_now),
          )
          | inr other ↦ elim (homed.slots i l) [
            | inl q ↦ inl (set_else hs next i none other ∙ q)
            | inr q ↦ inr (set_else hs next i none other ∙ q.0, (q.1.0, others_reach p j (Reach j) refl w rests q.1.0 i q.1.1))
          ]
        ];
      }

  homed_back : Fits p w → IsPlan p → May p w (Act j)
      → Homed p (after p w (Act j)) (set hs next (some (with_log_entry (log_with_room p w next) (next_entry p w j))))
  homed_back fit is may =
      let w' : State = after p w (Act j) in
      let y : LogView = with_log_entry (log_with_room p w next) (next_entry p w j) in
      let deep = homed.deep in
      let own : IsReachingFor p w j next = record { job = may.0; reaching = may.1; next = refl } in
      let there = next_inside p w j is (reaching_left p w j next fit own) in
      let logs = fit.logs_there in
      let new : log w' next ≡ log w next ++ next_entry p w j ∷ [] = get_or-set_same w.logs next _ [] (omega arith) in
      record {
        deep = length-set hs next (some y) ∙ deep;
        slots = λ i l. elim (cases_eq i next) [
          | inl same ↦ inl (subst (λ z. get_elem? (set hs next (some y)) z ≡ some (some (log_with_room p w' z))) (sym same)
              (set_here hs next (some y) (omega arith)
              ∙ ap (λ (entries : List Entry). some (some (record { entries = entries; room = room_of p next }))) (sym new)))
          | inr other ↦
              let old : log w' i ≡ log w i = get_or-set_other w.logs next i _ [] other in
              elim (homed.slots i l) [
                | inl q ↦ inl (set_else hs next i (some y) other
                    ∙ (q ∙ ap (λ (entries : List Entry). some (some (record { entries = entries; room = room_of p i }))) (sym old)))
                | inr q ↦
                    let ne : q.1.0 ≢ j = λ e. other (sym q.1.1.next ∙ ap (λ z. (next_command p w z).0) e) in
                    inr (set_else hs next i (some y) other ∙ q.0, (q.1.0, reaching_still p w w' q.1.0 i (phase_there p j (Act j) refl w q.1.0 ne) q.1.1))
              ]
        ];
      }

-- ---- the two steps

module _ (p : LabPlan) (slots id : ℕ) (v : View) (c : List (ℕ × LogView)) (led : IsLed v) (job : (hand_in v).job < length p.jobs) where
  abbrev j : ℕ
  j = (hand_in v).job

  -- the instrument, by the state and by what the job knows
  next_known : (s : TableState LogView View) (k : HasOneHistory p s) → get_elem? s.views id ≡ some v → (next_command p (state_after p k.history) j).0 ≡ next_instrument v
  next_known s k at =
      let held = held_in p k.history k.owner id v led (k.seats id v at) in
      ap (λ (x : ℕ × Verb). x.0) (next_same p (state_after p k.history) (mine v) j (known p s k id v at led job))
      ∙ ap (λ (q : LabPlan). (next_command q (mine v) j).0) (sym held.0)

  pub reaches : (n : ℕ) → May p (mine v) (Reach j) → n ≡ phase_word_of (record (own_phase v) { drinking = Reaching })
      → Allows (HasOneHistory p) slots id (v, c) (phase_place p j) (λ _. n) (λ _. reached (step slots (phase_place p j) n 0 none) (v, c) n)
  reaches n may is_n s k _ at _ =
      let h : List Event = k.history in
      let w : State = state_after p h in
      let g : List Event = Reach j ∷ [] in
      let own : seat w j ≡ seat (mine v) j = known p s k id v at led job in
      let inside = jobs_there p h j job in
      let fit = history_fits p h k.legal in
      let may_now : May p w (Reach j) = reach_alike p j (mine v) w (sym own) may in
      let legal : IsLegalFrom p w g = (may_now, tt) in
      let held = held_in p h k.owner id v led (k.seats id v at) in
      let i : ℕ = (next_command p w j).0 in
      let is_next : i ≡ next_instrument v = next_known s k at in
      let y : JobState = record (own_phase v) { drinking = Reaching } in
      let becomes : (seat_after p (seat w j) (Reach j)).phase ≡ y = ap (λ (x : Seat). (seat_after p x (Reach j)).phase) own in
      let words : Spelled p (after p w (Reach j)) (set s.words (phase_place p j) n) =
      subst (λ z. Spelled p (after p w (Reach j)) (set s.words (phase_place p j) z)) (sym is_n)
      (turned_words p j (Reach j) refl w s.words y job inside becomes refl k.words) in
      let ahead : state_after (hand_in v).plan (h ++ g) ≡ after p w (Reach j) =
      ap (λ (q : LabPlan). state_after q (h ++ g)) held.0 ∙ after_all-append p (the_opening p) h g in (
        grown p v h g,
        takes i (log_with_room p w i),
        at_home p w j s.homes k.homes fit k.is_plan (history_exclusive p h k.is_plan k.legal) may_now,
        appends p s k id v at led g (refl, tt) legal (set s.words (phase_place p j) n) words
            (set s.homes i none) (homed_out p w j s.homes k.homes k.is_plan inside may_now),
        (tells p s k id v at led g (refl, tt) legal, λ r. (is_next r, log_with_room (sym held.0 r) (sym ahead r) (is_next r)) ∷ c),
      )

  -- what is in hand is the log as it was at the Reach, with the next entry
  pub acts : (n i : ℕ) (y : LogView) → c ≡ (i, y) ∷ [] → May p (mine v) (Act j) → i ≡ next_instrument v
      → y ≡ with_log_entry (log_with_room p (state_after p v.front) i) (next_entry p (state_after p v.front) j)
      → events_by j v.front ≡ (hand_in v).deeds → n ≡ phase_word_of (record (own_phase v) { drinking = Drinks; position = (own_phase v).position + 1 })
      → Allows (HasOneHistory p) slots id (v, c) (phase_place p j) (λ _. n) (λ _. acted (step slots (phase_place p j) n 0 none) (v, c) n)
  acts n i y is_c may is_i is_y whole is_n s k _ at _ =
      let h : List Event = k.history in
      let w : State = state_after p h in
      let g : List Event = Act j ∷ [] in
      let own : seat w j ≡ seat (mine v) j = known p s k id v at led job in
      let inside = jobs_there p h j job in
      let fit = history_fits p h k.legal in
      let may_now : May p w (Act j) = act_alike p j (mine v) w (sym own) may in
      let legal : IsLegalFrom p w g = (may_now, tt) in
      let f = k.seats id v at in
      let held = held_in p h k.owner id v led f in
      let next : ℕ = (next_command p w j).0 in
      let is_next : i ≡ next = is_i ∙ sym (next_known s k at) in
      -- since the front nothing of the job has happened, so the log is as it was
      let u : State = state_after p v.front in
      let more : List Event = f.front.0 in
      let silent : events_by j more ≡ [] =
      append_self (events_by j v.front) (events_by j more) (sym (filter-append (is_by j) v.front more)
      ∙ (ap (events_by j) (sym f.front.1) ∙ (held.1 ∙ sym whole))) in
      let own_then : seat u j ≡ seat w j =
      own_known p j v.front job ∙ (ap (λ (l : List Event). seat (known_by p l) j) (whole ∙ sym held.1) ∙ sym (own_known p j h job)) in
      let reaching_then : IsReachingFor p u j i = record {
        job = job;
        reaching = ap (λ (x : Seat). x.phase.drinking) own_then ∙ may_now.1;
        next = ap (λ (x : ℕ × Verb). x.0) (next_same p u w j own_then) ∙ sym is_next;
      } in
      let same : log w i ≡ log u i =
      ap (λ l. log (state_after p l) i) f.front.1 ∙ log_kept p k.is_plan j i v.front more (subst (IsHistory p) f.front.1 k.legal) silent reaching_then in
      let entries : next_entry p u j ≡ next_entry p w j = next_entry_same p u w j own_then (ap (log u) reaching_then.next ∙ (sym same ∙ ap (log w) is_next)) in
      let right : y ≡ with_log_entry (log_with_room p w next) (next_entry p w j) =
      is_y ∙ (λ r. record { entries = (sym same ∙ ap (log w) is_next) r ++ entries r ∷ []; room = room_of p (is_next r) }) in
      let z : JobState = record (own_phase v) { drinking = Drinks; position = (own_phase v).position + 1 } in
      let becomes : (seat_after p (seat w j) (Act j)).phase ≡ z = ap (λ (x : Seat). (seat_after p x (Act j)).phase) own in
      let words : Spelled p (after p w (Act j)) (set s.words (phase_place p j) n) =
      subst (λ z. Spelled p (after p w (Act j)) (set s.words (phase_place p j) z)) (sym is_n)
      (turned_words p j (Act j) refl w s.words z job inside becomes refl k.words) in
      let homes : Homed p (after p w (Act j)) (set s.homes i (some y)) =
      subst (λ (q : ℕ × LogView). Homed p (after p w (Act j)) (set s.homes q.0 (some q.1)))
      (λ r. (sym is_next r, sym right r)) (homed_back p w j s.homes k.homes fit k.is_plan may_now) in (
        grown p v h g,
        gives,
        tt,
        subst (λ (l : List (ℕ × LogView)). HasOneHistory p (stepped s (phase_place p j) n id l (grown p v h g) gives)) (sym is_c)
            (appends p s k id v at led g (refl, tt) legal (set s.words (phase_place p j) n) words (set s.homes i (some y)) homes),
        (tells p s k id v at led g (refl, tt) legal, refl),
      )
