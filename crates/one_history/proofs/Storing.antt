-- A phase that is stored.
use Rattle.std.proofs.Common.{◌≡◌, ◌≢◌, ℕ, ◌<◌, List, [], ◌∷◌, length, get_or, set, refl, sym, ap, ◌∙◌, subst}
use mathlib.Core.Option.{none}
use Rattle.atomic_table.specs.Table.{step, keeps, Allows}
use Rattle.lab_plan.specs.LabPlan.{LabPlan}
use Rattle.instrument_log.specs.declared.entry.Entry.{Entry}
use Rattle.instrument_log.specs.InstrumentLog.{LogView}
use Rattle.legal_steps.specs.declared.edge_state.EdgeState.{EdgeState}
use Rattle.legal_steps.specs.declared.event.Event.{Event}
use Rattle.legal_steps.specs.declared.phase.Dining.{Dining}
use Rattle.legal_steps.specs.declared.phase.Dining.TheVariants.{Thinking, Hungry, Eating}
use Rattle.legal_steps.specs.declared.phase.Drinking.{Drinking}
use Rattle.legal_steps.specs.declared.phase.Drinking.TheVariants.{Tranquil, Thirsty, Drinking as Drinks, Reaching, Retired}
use Rattle.legal_steps.specs.declared.phase.JobState.{JobState}
use Rattle.legal_steps.specs.State.{Seat, State, no_edge, seat, phase, drinking}
use Rattle.legal_steps.specs.Legal.{May, after}
use Rattle.legal_steps.specs.Run.{IsLegalFrom, actor}
use Rattle.edge_word.specs.Phases.{phase_word_of, phase_of, FitsPhaseWord}
use Rattle.edge_word.proofs.PhaseLemmas.{phase_of-phase_word_of}
use Rattle.one_history.specs.declared.board.View.{View}
use Rattle.one_history.specs.declared.phase_event.PhaseEvent.{PhaseEvent}
use Rattle.one_history.specs.declared.phase_event.PhaseEvent.TheVariants.{Thirst, Hunger, Sit, Leave, Drink, Quit, Retire, Withdraw}
use Rattle.one_history.specs.PhaseEvents.{event_of, phase_after}
use Rattle.turns.specs.History.{state_after}
use Rattle.one_history.specs.Rule.{phase_place, Spelled, HasOneHistory}
use Rattle.turns.specs.Reaching.{IsReachingFor}
use Rattle.one_history.specs.Grow.{hand_in, IsLed, mine, Does, dining_event, drinking_event, phase_event, own_phase, stored}
use Rattle.turns.proofs.Frame.{own_seat, other_seat}
use Rattle.turns.specs.Changes.{seat_after}
use Rattle.turns.proofs.Local.{thirst_alike, hunger_alike, sit_alike, leave_alike, drink_alike, quit_alike, retire_alike, withdraw_alike}
use Rattle.turns.proofs.Few.{phase_fits}
use Rattle.one_history.proofs.Keeps.{grown, appends, tells, known, spelled_phase, homed_still}
use Rattle.turns.proofs.Histories.{reaching_still, fits_more}
use Rattle.one_history.proofs.Looking.{jobs_there}

-- ---- each of them

pub by_job : (what : PhaseEvent) (j : ℕ) → actor (event_of what j) ≡ j
by_job Thirst j = refl
by_job Hunger j = refl
by_job Sit j = refl
by_job Leave j = refl
by_job Drink j = refl
by_job Quit j = refl
by_job Retire j = refl
by_job Withdraw j = refl

pub may_alike : (what : PhaseEvent) (plan : LabPlan) (j : ℕ) (s t : State) → seat s j ≡ seat t j → May plan s (event_of what j) → May plan t (event_of what j)
may_alike Thirst plan j s t own = thirst_alike plan j s t own
may_alike Hunger plan j s t own = hunger_alike plan j s t own
may_alike Sit plan j s t own = sit_alike plan j s t own
may_alike Leave plan j s t own = leave_alike plan j s t own
may_alike Drink plan j s t own = drink_alike plan j s t own
may_alike Quit plan j s t own = quit_alike plan j s t own
may_alike Retire plan j s t own = retire_alike plan j s t own
may_alike Withdraw plan j s t own = withdraw_alike plan j s t own

edges_same : (what : PhaseEvent) (plan : LabPlan) (j : ℕ) (s : State) → (after plan s (event_of what j)).edges ≡ s.edges
edges_same Thirst plan j s = refl
edges_same Hunger plan j s = refl
edges_same Sit plan j s = refl
edges_same Leave plan j s = refl
edges_same Drink plan j s = refl
edges_same Quit plan j s = refl
edges_same Retire plan j s = refl
edges_same Withdraw plan j s = refl

logs_same : (what : PhaseEvent) (plan : LabPlan) (j : ℕ) (s : State) → (after plan s (event_of what j)).logs ≡ s.logs
logs_same Thirst plan j s = refl
logs_same Hunger plan j s = refl
logs_same Sit plan j s = refl
logs_same Leave plan j s = refl
logs_same Drink plan j s = refl
logs_same Quit plan j s = refl
logs_same Retire plan j s = refl
logs_same Withdraw plan j s = refl

pub phase_is : (what : PhaseEvent) (plan : LabPlan) (j : ℕ) (x : Seat) → (seat_after plan x (event_of what j)).phase ≡ phase_after what x.phase
phase_is Thirst plan j x = refl
phase_is Hunger plan j x = refl
phase_is Sit plan j x = refl
phase_is Leave plan j x = refl
phase_is Drink plan j x = refl
phase_is Quit plan j x = refl
phase_is Retire plan j x = refl
phase_is Withdraw plan j x = refl

same_dining : (j : ℕ) (d : Dining) (other : Event) → dining_event j d d other ≡ other
same_dining j Thinking other = refl
same_dining j Hungry other = refl
same_dining j Eating other = refl

-- the event is told by the phases before and after it
pub told_back : (what : PhaseEvent) (plan : LabPlan) (j : ℕ) (s : State) → May plan s (event_of what j)
    → phase_event j (phase s j) (phase_after what (phase s j)) ≡ event_of what j
told_back Thirst plan j s m = same_dining j (phase s j).dining _ ∙ ap (λ (d : Drinking). drinking_event j d Thirsty) m.1
told_back Hunger plan j s m = ap (λ (d : Dining). dining_event j d Hungry (drinking_event j (phase s j).drinking (phase s j).drinking)) m.1
told_back Sit plan j s m = ap (λ (d : Dining). dining_event j d Eating (drinking_event j (phase s j).drinking (phase s j).drinking)) m.1
told_back Leave plan j s m = ap (λ (d : Dining). dining_event j d Thinking (drinking_event j (phase s j).drinking (phase s j).drinking)) m.1
told_back Drink plan j s m = same_dining j (phase s j).dining _ ∙ ap (λ (d : Drinking). drinking_event j d Drinks) m.1
told_back Quit plan j s m = same_dining j (phase s j).dining _ ∙ ap (λ (d : Drinking). drinking_event j d Tranquil) m.1
told_back Retire plan j s m = same_dining j (phase s j).dining _ ∙ ap (λ (d : Drinking). drinking_event j d Retired) m.2
told_back Withdraw plan j s m = same_dining j (phase s j).dining _ ∙ ap (λ (d : Drinking). drinking_event j d Tranquil) m.1

-- ---- the words after a phase is stored

module _ (p : LabPlan) (j : ℕ) (event : Event) (by : actor event ≡ j) where
  pub phase_here : (w : State) → j < length w.seats → phase (after p w event) j ≡ (seat_after p (seat w j) event).phase
  phase_here w inside = subst (λ i. i < length w.seats → phase (after p w event) i ≡ (seat_after p (seat w i) event).phase) by
      (λ h. ap (λ (x : Seat). x.phase) (own_seat p w event h)) inside

  pub phase_there : (w : State) (k : ℕ) → k ≢ j → phase (after p w event) k ≡ phase w k
  phase_there w k ne = ap (λ (x : Seat). x.phase) (other_seat p w event k (λ is. ne (is ∙ by)))

  pub turned_words : (w : State) (ws : List ℕ) (y : JobState) → j < length p.jobs → j < length w.seats
      → (seat_after p (seat w j) event).phase ≡ y → (after p w event).edges ≡ w.edges
      → Spelled p w ws → Spelled p (after p w event) (set ws (phase_place p j) (phase_word_of y))
  turned_words w ws y job inside is same q =
      spelled_phase p w (after p w event) ws j y job (phase_here w inside ∙ is) (λ e. ap (λ (l : List EdgeState). get_or l e no_edge) same) (phase_there w) q

  -- the other jobs reach as before
  pub others_reach : (w : State) → drinking w j ≢ Reaching → (k i : ℕ) → IsReachingFor p w k i → IsReachingFor p (after p w event) k i
  others_reach w rests k i r = reaching_still p w (after p w event) k i (phase_there w k (λ is. rests (ap (drinking w) (sym is) ∙ r.reaching))) r

module _ (p : LabPlan) (slots id : ℕ) (v : View) (c : List (ℕ × LogView)) (led : IsLed v) (job : (hand_in v).job < length p.jobs) where
  abbrev j : ℕ
  j = (hand_in v).job

  pub stores : (what : PhaseEvent) (n : ℕ) → May p (mine v) (event_of what j)
      → (own_phase v).drinking ≢ Reaching → n ≡ phase_word_of (phase_after what (own_phase v))
      → Allows (HasOneHistory p) slots id (v, c) (phase_place p j) (λ _. n) (λ _. stored (step slots (phase_place p j) n 0 none) (v, c) n)
  stores what n may rests is_n s k _ at _ =
      let w : State = state_after p k.history in
      let event : Event = event_of what j in
      let g : List Event = event ∷ [] in
      let by = by_job what j in
      let own : seat w j ≡ seat (mine v) j = known p s k id v at led job in
      let inside = jobs_there p k.history j job in
      let may_now : May p w event = may_alike what p j (mine v) w (sym own) may in
      let legal : IsLegalFrom p w g = (may_now, tt) in
      let y : JobState = phase_after what (own_phase v) in
      let becomes : (seat_after p (seat w j) event).phase ≡ y = phase_is what p j (seat w j) ∙ ap (λ (x : Seat). phase_after what x.phase) own in
      let fits : FitsPhaseWord y =
      subst FitsPhaseWord (phase_here p j event by w inside ∙ becomes)
      (phase_fits p (after p w event) j k.is_plan (fits_more p k.history event k.legal may_now) job) in
      let told : phase_event j (own_phase v) (phase_of n) ≡ event = ap (λ z. phase_event j (own_phase v) (phase_of z)) is_n
      ∙ (ap (phase_event j (own_phase v)) (phase_of-phase_word_of y fits) ∙ told_back what p j (mine v) may) in
      let words : Spelled p (after p w event) (set s.words (phase_place p j) n) =
      subst (λ z. Spelled p (after p w event) (set s.words (phase_place p j) z)) (sym is_n)
      (turned_words p j event by w s.words y job inside becomes (edges_same what p j w) k.words) in (
        grown p v k.history g,
        keeps,
        tt,
        appends p s k id v at led g (by, tt) legal (set s.words (phase_place p j) n) words s.homes
            (homed_still p w (after p w event) s.homes (λ i. ap (λ (l : List (List Entry)). get_or l i []) (logs_same what p j w))
            (others_reach p j event by w (λ e. rests (sym (ap (λ (x : Seat). x.phase.drinking) own) ∙ e))) k.homes),
        (subst (λ z. Does v z (grown p v k.history g)) (sym told) (tells p s k id v at led g (by, tt) legal), refl),
      )
