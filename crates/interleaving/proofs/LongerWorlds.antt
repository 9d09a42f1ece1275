-- A world whose plan is longer by one session: its tables fit it, and it is reached by its past.
use Rattle.std.proofs.Common.{◌≡◌, ◌≢◌, ℕ, ◌+◌, ◌<◌, List, [], length, map, arith, sym, ap, ◌∙◌, subst}
use Rattle.std.specs.Prelude.{Result, Ok, Err, OnOk}
use Rattle.std.proofs.lemmas.List.{ext_get_or}
use Rattle.lab_plan.specs.declared.verb.Verb.{Verb}
use Rattle.lab_plan.specs.IsPlan.{IsPlan}
use Rattle.lab_plan.specs.LabPlan.{LabPlan, SessionPlan, count_on}
use Rattle.lab_plan.specs.declared.refusal.MoreRefusal.{MoreRefusal}
use Rattle.lab_plan.specs.declared.refusal.MoreRefusal.TheVariants.{Empty, LimitPassed, NotItsOwn, NotPatient, TooLarge, NoMemory}
use Rattle.lab_plan.specs.Longer.{with_one_more, IsOfItsOwn, Adds}
use Rattle.instrument_log.specs.declared.entry.Entry.{Entry}
use Rattle.instrument_log.specs.InstrumentLog.{LogView}
use Rattle.legal_steps.specs.declared.event.Event.{Event}
use Rattle.legal_steps.specs.declared.edge_state.EdgeState.{EdgeState}
use Rattle.legal_steps.specs.declared.phase.Drinking.TheVariants.{Retired}
use Rattle.legal_steps.specs.declared.counts.Counts.{Counts}
use Rattle.legal_steps.specs.State.{State, Seat, drinking}
use Rattle.legal_steps.specs.Fitting.{Fits}
use Rattle.legal_steps.specs.WholeLogs.{room_of}
use Rattle.legal_steps.proofs.OpeningLemmas.{fits_opening}
use Rattle.longer_plans.specs.Longer.{IsLonger}
use Rattle.longer_plans.proofs.Once.{longer_by_one}
use Rattle.longer_plans.proofs.Rooms.{needs_more_room}
use Rattle.longer_plans.proofs.Stays.{stays_legal}
use Rattle.longer_plans.proofs.States.{still_fits, stays_an_opening, stays_acyclic}
use Rattle.interleaving.specs.Rooms.{HasRooms, HaveMore}
use Rattle.interleaving.specs.declared.add_refusal.AddRefusal.{AddRefusal}
use Rattle.interleaving.specs.declared.add_refusal.AddRefusal.TheVariants.{HasRetired, IsLent, Refused}
use Rattle.interleaving.specs.Adding.{PlanAdds, WorldAdds}
use Rattle.interleaving.specs.World.{WorldView, IsReachedBy}
use Rattle.interleaving.proofs.LogLemmas.{shown, entries_at, logs_wide}

-- room alone was made
pub same_entries : (commands : List (ℕ × Verb)) (logs logs' : List LogView) → HaveMore commands logs logs'
    → map (λ (l : LogView). l.entries) logs' ≡ map (λ (l : LogView). l.entries) logs
same_entries commands logs logs' more =
    let wide : length (map (λ (l : LogView). l.entries) logs') ≡ length (map (λ (l : LogView). l.entries) logs) =
    sym (logs_wide logs') ∙ (more.as_many ∙ logs_wide logs) in
    ext_get_or [] (map (λ (l : LogView). l.entries) logs') (map (λ (l : LogView). l.entries) logs) wide (λ i inside.
    let there : i < length logs = (let w = logs_wide logs in omega arith) in
    entries_at logs' i ∙ (ap (λ (l : LogView). l.entries) (more.more i there there) ∙ sym (entries_at logs i)))

module _ (p q : LabPlan) (j : ℕ) (session : SessionPlan) (there : j < length p.jobs) (own : IsOfItsOwn p j session) (is : q ≡ with_one_more p j session) where
  longer : IsLonger p q j
  longer = subst (λ (x : LabPlan). IsLonger p x j) (sym is) (longer_by_one p j session there own)

  -- its tables
  pub tables_longer : (edges : List EdgeState) (seats : List Seat) (logs logs' : List LogView) → HaveMore session.commands logs logs'
      → Fits p (shown edges seats logs) → Fits q (shown edges seats logs')
  tables_longer edges seats logs logs' more fit =
      subst (λ (all : List (List Entry)). Fits q (record { edges = edges; seats = seats; logs = all })) (sym (same_entries session.commands logs logs' more))
      (still_fits p q j longer (shown edges seats logs) fit)

  pub rooms_longer : (logs logs' : List LogView) → HaveMore session.commands logs logs' → HasRooms p logs → HasRooms q logs'
  rooms_longer logs logs' more rooms i inside =
      let below : i < length logs = (let w = more.as_many in omega arith) in
      ap (λ (l : LogView). l.room) (more.more i below below)
      ∙ (ap (λ (n : ℕ). n + count_on i session.commands) (rooms i below)
      ∙ (sym (needs_more_room p j session i there) ∙ ap (λ (x : LabPlan). room_of x i) (sym is)))

  -- and its past
  pub reached_longer : (opening : State) (past : List Event) (s : State) (counts : List Counts) → IsPlan q → drinking s j ≢ Retired
      → IsReachedBy p opening past s counts → IsReachedBy q opening past s counts
  reached_longer opening past s counts is_plan alive h = record {
    is_plan = is_plan;
    is_opening = stays_an_opening p q j longer opening h.is_opening;
    acyclic = stays_acyclic p q j longer opening h.acyclic;
    run = stays_legal p q j longer opening s past (fits_opening p opening h.is_opening) h.run alive;
    counted = record {
      one_each = h.counted.one_each ∙ sym longer.jobs_same;
      counted = λ k job. h.counted.counted k (let n = longer.jobs_same in omega arith);
    };
  }

-- ---- what is refused

refused_plan : (p : LabPlan) (j : ℕ) (session : SessionPlan) (cause : MoreRefusal) (q : LabPlan) → Adds p j session (Err cause) q → q ≡ p
refused_plan p j session Empty q adds = adds.1
refused_plan p j session LimitPassed q adds = adds.1
refused_plan p j session NotItsOwn q adds = adds.1
refused_plan p j session NotPatient q adds = adds.1
refused_plan p j session TooLarge q adds = adds.1
refused_plan p j session NoMemory q adds = adds.1

pub plan_same : (p : LabPlan) (j : ℕ) (session : SessionPlan) (refusal : AddRefusal) (q : LabPlan) → PlanAdds p j session (Err refusal) q → q ≡ p
plan_same p j session HasRetired q adds = absurd adds
plan_same p j session IsLent q adds = adds
plan_same p j session (Refused cause) q adds = refused_plan p j session cause q adds

pub refused_same : (w : WorldView) (j : ℕ) (session : SessionPlan) (refusal : AddRefusal) (new : WorldView) → WorldAdds w j session (Err refusal) new → new ≡ w
refused_same w j session HasRetired new adds = adds.1
refused_same w j session IsLent new adds = adds.2 ∙ ap (λ (p : LabPlan). record w { plan = p }) (plan_same w.plan j session IsLent new.plan adds.1)
refused_same w j session (Refused cause) new adds =
    adds.2 ∙ ap (λ (p : LabPlan). record w { plan = p }) (plan_same w.plan j session (Refused cause) new.plan adds.1)

-- ---- a world

pub world_longer : (p : LabPlan) (j : ℕ) (session : SessionPlan) (answer : Result (Unit {0}) AddRefusal) (q : LabPlan) (opening : State) (past : List Event)
    (s s' : State) (counts : List Counts) → j < length p.jobs → drinking s j ≢ Retired → PlanAdds p j session answer q → OnOk answer (IsOfItsOwn p j session)
    → OnOk answer (IsPlan q) → s' ≡ s → IsReachedBy p opening past s counts → IsReachedBy q opening past s' counts
world_longer p j session (Ok done) q opening past s s' counts job alive adds own is_plan same h =
    subst (λ (x : State). IsReachedBy q opening past x counts) (sym same) (reached_longer p q j session job own adds.1 opening past s counts is_plan alive h)
world_longer p j session (Err refusal) q opening past s s' counts job alive adds own is_plan same h =
    subst (λ (z : LabPlan × State). IsReachedBy z.0 opening past z.1 counts) (λ i. (sym (plan_same p j session refusal q adds) i, sym same i)) h
