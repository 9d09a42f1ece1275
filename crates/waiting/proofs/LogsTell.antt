-- What the logs of all jobs tell of rounds.
use Rattle.std.proofs.Common.{◌≡◌, ℕ, zero, suc, ◌+◌, ◌<◌, ◌≤◌, List, [], ◌∷◌, ◌++◌, length, map, replicate, get_or, refl, sym, ap, ◌∙◌, subst, arith, append_assoc, append-nil}
use Rattle.std.proofs.lemmas.List.Elements.{filter-append}
use Rattle.std.specs.List.{range_with_len}
use Rattle.lab_plan.specs.LabPlan.{LabPlan}
use Rattle.legal_steps.specs.declared.event.Event.{Event}
use Rattle.legal_steps.specs.declared.phase.JobState.{JobState}
use Rattle.legal_steps.specs.State.{State, phase, idle_phase, no_seat}
use Rattle.legal_steps.specs.Opening.{the_opening, idle_seat}
use Rattle.turns.specs.History.{is_by, events_by, known_by, learned_all}
use Rattle.turns.proofs.Runs.{learned_all-append, learned_all_seats, opening_seats}
use Rattle.edge_rule.specs.DeskView.{DeskView, known}
use Rattle.rounds.specs.Rounds.{known_in}
use Rattle.rounds.proofs.Lists.{append_cancel}
use Rattle.waiting.specs.Rounds.{joined}
use Rattle.waiting.specs.Sessions.{in_round, deeds_from, deeds_of, sessions_of, meals_of}
use Rattle.waiting.specs.Noting.{LogView, log_then, fresh_log, sessions_then, meals_then}
use Rattle.waiting.specs.Waits.{rounds_of}
use Rattle.waiting.specs.Watching.{DeskKnows, HadTurn, OneMore, logs_then, KnowsJob, KnowsAll, LogsTell, told}
use Rattle.waiting.proofs.OneTurn.{Tells, turn_tells}
use Rattle.waiting.proofs.Stands.{joined_more}

deeds_more : (j a k : ℕ) (rounds : List (List Event)) (e : List Event) → k ≡ a + length rounds
    → deeds_from j a (rounds ++ e ∷ []) ≡ deeds_from j a rounds ++ in_round k (events_by j e)
deeds_more j a k [] e is = let same : a ≡ k = omega (arith, is) in append-nil (in_round a (events_by j e)) ∙ ap (λ n. in_round n (events_by j e)) same
deeds_more j a k (r ∷ rounds) e is =
    ap (λ l. in_round a (events_by j r) ++ l) (deeds_more j (a + 1) k rounds e (omega (arith, is)))
    ∙ sym (append_assoc (in_round a (events_by j r)) (deeds_from j (a + 1) rounds) (in_round k (events_by j e)))

-- ---- what is known of one job

module _ (plan : LabPlan) (rounds : List (List Event)) (e g : List Event) (k : ℕ) (k_is : k ≡ 1 + length rounds) (g_is : g ≡ joined rounds ++ e)
    (j : ℕ) (inside : j < length plan.jobs) (q : HadTurn plan j (joined rounds) g) where
  abbrev before : State
  before = known_in plan (joined rounds) j

  abbrev new : List (List Event)
  new = rounds ++ e ∷ []

  own_events : events_by j e ≡ q.events
  own_events = append_cancel (events_by j (joined rounds)) (events_by j e) q.events
      (sym (filter-append (is_by j) (joined rounds) e) ∙ (ap (events_by j) (sym g_is) ∙ q.own))

  known_then : known_in plan g j ≡ learned_all plan before q.events
  known_then = ap (known_by plan) q.own ∙ learned_all-append plan (the_opening plan) (events_by j (joined rounds)) q.events

  deeds_then : deeds_of j new ≡ deeds_of j rounds ++ in_round k q.events
  deeds_then = deeds_more j 1 k rounds e k_is ∙ ap (λ z. deeds_of j rounds ++ in_round k z) own_events

  seats : j < length before.seats
  seats = subst (λ n. j < n) (sym (learned_all_seats plan (the_opening plan) (events_by j (joined rounds)) ∙ opening_seats plan)) inside

  tells : Tells plan j q.events (phase before j) (phase (learned_all plan before q.events) j)
  tells = turn_tells plan j q.waited before q.visits q.acts q.events q.turn seats

  pub knows_then : (p : JobState) (x : LogView) → p ≡ phase (known_in plan g j) j → KnowsJob plan rounds j x → KnowsJob plan new j (log_then k p x)
  knows_then p x p_is knows =
      let moved : p ≡ phase (learned_all plan before q.events) j = p_is ∙ ap (λ (s : State). phase s j) known_then in
      record {
        phase_is = p_is ∙ ap (λ l. phase (known_in plan l j) j) (g_is ∙ sym (joined_more rounds e));
        sessions_are = (λ i. sessions_then k (knows.phase_is i).drinking (moved i).drinking (knows.sessions_are i))
            ∙ sym (ap sessions_of deeds_then ∙ tells.sessions k (deeds_of j rounds));
        meals_are = (λ i. meals_then k (knows.phase_is i).dining (moved i).dining (knows.meals_are i))
            ∙ sym (ap meals_of deeds_then ∙ tells.meals k (deeds_of j rounds));
      }

-- ---- what is known of all

module _ (plan : LabPlan) (rounds : List (List Event)) (e : List Event) (k : ℕ) (all : List DeskView) (m : OneMore plan rounds e k all) where
  abbrev g : List Event
  g = joined (rounds ++ e ∷ [])

  knows_more : (desks : List DeskView) (logs : List LogView) (a : ℕ) → a + length desks ≤ length plan.jobs
      → ((j : ℕ) (d : DeskView) → j < length desks → DeskKnows plan g (a + j) (get_or desks j d))
      → KnowsAll plan rounds (range_with_len a (length desks)) logs
      → KnowsAll plan (rounds ++ e ∷ []) (range_with_len a (length desks)) (logs_then k desks logs)
  knows_more [] logs a few each knows = knows
  knows_more (d ∷ desks) [] a few each knows = absurd knows
  knows_more (d ∷ desks) (x ∷ logs) a few each knows =
      let inside : a < length plan.jobs = omega (arith, few) in
      let first : a + 0 ≡ a = omega arith in
      let here : DeskKnows plan g a d = subst (λ n. DeskKnows plan g n d) first (each 0 d (omega arith)) in
      let number : k ≡ 1 + length rounds = let n = m.number in omega (arith, n) in (
        knows_then plan rounds e g k number (joined_more rounds e) a inside (m.turns a inside) (phase (known d) d.job) x
            (λ i. phase (here.known_is i) (here.job_is i)) knows.0,
        knows_more desks logs (a + 1) (omega (arith, few))
            (λ j z less. let next : a + suc j ≡ a + 1 + j = omega arith in
            subst (λ n. DeskKnows plan g n (get_or desks j z)) next (each (suc j) z (omega (arith, less)))) knows.1,
      )

  pub tell_more : (logs : List LogView) → LogsTell plan logs rounds → LogsTell plan (logs_then k all logs) (rounds ++ e ∷ [])
  tell_more logs tells =
      let many = m.know.many in
      let knows = knows_more all logs 0 (omega (arith, many))
      (λ j d less. let none : j ≡ 0 + j = omega arith in
      subst (λ n. DeskKnows plan g n (get_or all j d)) none
      (subst (λ h. DeskKnows plan h j (get_or all j d)) m.front (m.know.each j d (omega (arith, less, many))))) in
      subst (λ n. KnowsAll plan (rounds ++ e ∷ []) (range_with_len 0 n) (logs_then k all logs)) many
      (knows (subst (λ n. KnowsAll plan rounds (range_with_len 0 n) logs) (sym many) tells))

-- ---- how many there are

long : (plan : LabPlan) (rounds : List (List Event)) (a n : ℕ) (logs : List LogView) → KnowsAll plan rounds (range_with_len a n) logs → length logs ≡ n
long plan rounds a zero logs knows = ap length knows
long plan rounds a (suc n) [] knows = absurd knows
long plan rounds a (suc n) (x ∷ logs) knows = ap suc (long plan rounds (a + 1) n logs knows.1)

pub many_logs : (plan : LabPlan) (rounds : List (List Event)) (logs : List LogView) → LogsTell plan logs rounds → length logs ≡ length plan.jobs
many_logs plan rounds logs tells = long plan rounds 0 (length plan.jobs) logs tells

-- ---- before the first round, and after the last

idle_at : (plan : LabPlan) (m j : ℕ) → (get_or (replicate m (idle_seat plan)) j no_seat).phase ≡ idle_phase
idle_at plan zero zero = refl
idle_at plan zero (suc j) = refl
idle_at plan (suc m) zero = refl
idle_at plan (suc m) (suc j) = idle_at plan m j

-- a job is idle before the first round
pub idle_first : (plan : LabPlan) (j : ℕ) → phase (known_in plan [] j) j ≡ idle_phase
idle_first plan j = idle_at plan (length plan.jobs) j

knows_none : (plan : LabPlan) (a n : ℕ) → KnowsAll plan [] (range_with_len a n) (replicate n fresh_log)
knows_none plan a zero = refl
knows_none plan a (suc n) = (record { phase_is = sym (idle_first plan a); sessions_are = refl; meals_are = refl }, knows_none plan (a + 1) n)

pub tell_none : (plan : LabPlan) (logs : List LogView) (n : ℕ) → n ≡ length plan.jobs → logs ≡ replicate n fresh_log → LogsTell plan logs []
tell_none plan logs n n_is is = subst (λ (l : List LogView). LogsTell plan l []) (sym (is ∙ ap (λ m. replicate m fresh_log) n_is))
    (knows_none plan 0 (length plan.jobs))

told_of : (plan : LabPlan) (rounds : List (List Event)) (jobs : List ℕ) (l : List LogView) → KnowsAll plan rounds jobs l → map told l ≡ map (rounds_of rounds) jobs
told_of plan rounds [] l knows = ap (map told) knows
told_of plan rounds (j ∷ jobs) [] knows = absurd knows
told_of plan rounds (j ∷ jobs) (x ∷ l) knows =
    λ i. record { sessions = knows.0.sessions_are i; meals = knows.0.meals_are i } ∷ told_of plan rounds jobs l knows.1 i

pub told_all : (plan : LabPlan) (rounds : List (List Event)) (logs : List LogView) → LogsTell plan logs rounds
    → map told logs ≡ map (rounds_of rounds) (range_with_len 0 (length plan.jobs))
told_all plan rounds logs tells = told_of plan rounds (range_with_len 0 (length plan.jobs)) logs tells
