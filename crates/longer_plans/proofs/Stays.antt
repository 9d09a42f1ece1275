-- What is legal by a plan is legal by a longer one, and leads to the same state: what an event reads of the plan is the same in both.
use Rattle.std.proofs.Common.{◌≡◌, ◌≢◌, ◌⊎◌, ℕ, ◌+◌, ◌-◌, ◌^◌, ◌<◌, ◌≤◌, Bool, ◌==◌, if◌then◌else◌, List, [], ◌∷◌, length, get_or, bit_xor, slice_index_or, refl, sym, ap, ◌∙◌, subst, inl, inr, arith}
use Rattle.std.specs.Prelude.{IsSome}
use Rattle.std.proofs.lemmas.Bool.{cases_eq}
use Rattle.std.proofs.lemmas.List.{get_or_append_left, length-append}
use Rattle.lab_plan.specs.declared.verb.Verb.{Verb}
use Rattle.lab_plan.specs.declared.verb.Verb.TheVariants.{Read}
use Rattle.lab_plan.specs.LabPlan.{LabPlan, SessionPlan, sessions, session_at, any_on, no_session, place_in, count_on}
use Rattle.instrument_log.specs.Dial.{turned, dial}
use Rattle.legal_steps.proofs.FitsLaw.{own_is_job, fits_after}
use Rattle.legal_steps.specs.declared.end.End.{End}
use Rattle.legal_steps.specs.declared.end.End.TheVariants.{Lower, Higher}
use Rattle.legal_steps.specs.declared.edge_state.EdgeState.{EdgeState}
use Rattle.legal_steps.specs.declared.event.Event.{Event}
use Rattle.legal_steps.specs.declared.event.Event.TheVariants.{Look, AskFork, GiveFork, Soil, AskBottles, GiveBottles, Thirst, Hunger}
use Rattle.legal_steps.specs.declared.event.Event.TheVariants.{Sit, Leave, Drink, Reach, Act, Quit, Retire, Glance, Withdraw}
use Rattle.legal_steps.specs.declared.phase.Drinking.TheVariants.{Drinking as Drinks, Retired}
use Rattle.legal_steps.specs.State.{Seat, State, log, IsOfEdge, IsOwn, IsInSession, edge, seat, fork, phase, drinking, session, position, end_of, bottle_end, bottles_at}
use Rattle.legal_steps.specs.Legal.{Here, There, IsJob, Needs, instrument_of, IsBottleSet, MayAskBottle, MayGiveBottle, IsMarkedAll, HasNeeded, May, after}
use Rattle.legal_steps.specs.Legal.{with_seat, with_phase, with_fork_mark, with_bottle_marks, with_entry, fork_mark_seen, next_entry}
use Rattle.legal_steps.specs.Run.{IsLegalFrom, after_all}
use Rattle.legal_steps.specs.Fitting.{Fits}
use Rattle.legal_steps.proofs.FitsWrites.{seat_same}
use Rattle.longer_plans.specs.Longer.{IsLonger, AsksWhatIsLeft, StaysLegal, IsAsLegal}
use Rattle.longer_plans.proofs.Retired.{retired_stays}

module _ (p q : LabPlan) (j : ℕ) (more : IsLonger p q j) where
  -- ---- what is read of the plan

  pub own_same : (k e : ℕ) → IsOwn p k e → IsOwn q k e
  own_same k e own = record {
    is_edge = subst (λ (l : List (ℕ × ℕ)). e < length l) (sym more.edges_same) own.is_edge;
    at_end = subst (λ (l : List (ℕ × ℕ)). ((slice_index_or l e (0, 0)).0 ≡ k) ⊎ ((slice_index_or l e (0, 0)).1 ≡ k)) (sym more.edges_same) own.at_end;
  }

  pub own_back : (k e : ℕ) → IsOwn q k e → IsOwn p k e
  own_back k e own = record {
    is_edge = subst (λ (l : List (ℕ × ℕ)). e < length l) more.edges_same own.is_edge;
    at_end = subst (λ (l : List (ℕ × ℕ)). ((slice_index_or l e (0, 0)).0 ≡ k) ⊎ ((slice_index_or l e (0, 0)).1 ≡ k)) more.edges_same own.at_end;
  }

  pub end_same : (k e : ℕ) → end_of q k e ≡ end_of p k e
  end_same k e = ap (λ (l : List (ℕ × ℕ)). if (slice_index_or l e (0, 0)).0 == k then Lower else Higher) more.edges_same

  here_same : (k e : ℕ) (thing : End) → Here p k e thing → Here q k e thing
  here_same k e thing h = h ∙ sym (end_same k e)

  here_back : (k e : ℕ) (thing : End) → Here q k e thing → Here p k e thing
  here_back k e thing h = h ∙ end_same k e

  there_same : (k e : ℕ) (thing : End) → There p k e thing → There q k e thing
  there_same k e thing h = λ is. h (here_back k e thing is)

  there_back : (k e : ℕ) (thing : End) → There q k e thing → There p k e thing
  there_back k e thing h = λ is. h (here_same k e thing is)

  pub bottles_at_same : (e : ℕ) (here : End) (x : EdgeState) → bottles_at q e here x ≡ bottles_at p e here x
  unfolding bottles_at
  bottles_at_same e Higher x = refl
  bottles_at_same e Lower x = ap (λ (l : List ℕ). bit_xor (2 ^ length l - 1) x.bottles) (more.bottles_same e)

  pub as_many : (k : ℕ) → length (sessions p k) ≤ length (sessions q k)
  as_many k = elim (cases_eq k j) [
    | inl is ↦
        let own : length (sessions q j) ≡ length (sessions p j) + length more.further =
        ap (λ (l : List SessionPlan). length l) more.own ∙ length-append (sessions p j) more.further in
        subst (λ (i : ℕ). length (sessions p i) ≤ length (sessions q i)) (sym is) (omega arith)
    | inr other ↦ let same = ap (λ (l : List SessionPlan). length l) (more.others_same k other) in omega arith
  ]

  -- a session that the shorter plan has
  pub session_same : (k n : ℕ) → n - 1 < length (sessions p k) → session_at q k n ≡ session_at p k n
  session_same k n there = elim (cases_eq k j) [
    | inl is ↦
        subst (λ (i : ℕ). n - 1 < length (sessions p i) → session_at q i n ≡ session_at p i n) (sym is)
        (λ h. ap (λ (l : List SessionPlan). get_or l (n - 1) no_session) more.own
        ∙ get_or_append_left (sessions p j) more.further no_session (n - 1) h) there
    | inr other ↦ ap (λ (l : List SessionPlan). get_or l (n - 1) no_session) (more.others_same k other)
  ]

  module _ (s : State) (fit : Fits p s) where
    -- the session of a job that is in one
    now_same : (k : ℕ) → IsJob p k → IsInSession (drinking s k) → session_at q k (session s k) ≡ session_at p k (session s k)
    now_same k job inside =
        let x = (fit.seats_fit k job).phase_within in
        let begun = x.begun inside in
        let there = x.session_there in
        session_same k (session s k) (omega arith)

    needs_same : (k i : ℕ) → IsJob p k → Needs p s k i → Needs q s k i
    needs_same k i job n = record {
      in_session = n.in_session;
      named = ap (λ (x : SessionPlan). any_on i x.commands) (now_same k job n.in_session) ∙ n.named;
    }

    needs_back : (k i : ℕ) → IsJob p k → Needs q s k i → Needs p s k i
    needs_back k i job n = record {
      in_session = n.in_session;
      named = ap (λ (x : SessionPlan). any_on i x.commands) (sym (now_same k job n.in_session)) ∙ n.named;
    }

    instrument_same : (e i : ℕ) → instrument_of q e i ≡ instrument_of p e i
    instrument_same e i = ap (λ (l : List ℕ). slice_index_or l i 0) (more.bottles_same e)

    of_edge_same : (e set : ℕ) → IsOfEdge p e set → IsOfEdge q e set
    of_edge_same e set = subst (λ (l : List ℕ). set < 2 ^ length l) (sym (more.bottles_same e))

    set_same : (e set : ℕ) → IsBottleSet p e set → IsBottleSet q e set
    set_same e set is = record { not_empty = is.not_empty; of_edge = of_edge_same e set is.of_edge }

    set_back : (e set : ℕ) → IsBottleSet q e set → IsBottleSet p e set
    set_back e set is = record {
      not_empty = is.not_empty;
      of_edge = subst (λ (l : List ℕ). set < 2 ^ length l) (more.bottles_same e) is.of_edge;
    }

    ask_same : (k e i : ℕ) → IsJob p k → MayAskBottle p s k e i → MayAskBottle q s k e i
    ask_same k e i job m = record {
      needed = subst (Needs q s k) (sym (instrument_same e i)) (needs_same k (instrument_of p e i) job m.needed);
      bottle_there = there_same k e (bottle_end (edge s e).bottles i) m.bottle_there;
      token_here = here_same k e (bottle_end (edge s e).bottle_tokens i) m.token_here;
    }

    give_same : (k e i : ℕ) → IsJob p k → MayGiveBottle p s k e i → MayGiveBottle q s k e i
    give_same k e i job m = record {
      bottle_here = here_same k e (bottle_end (edge s e).bottles i) m.bottle_here;
      token_here = here_same k e (bottle_end (edge s e).bottle_tokens i) m.token_here;
      not_kept = λ kept. m.not_kept (
        needs_back k (instrument_of p e i) job (subst (Needs q s k) (instrument_same e i) kept.0),
        elim kept.1 [ inl drinks ↦ inl drinks | inr here ↦ inr (here_back k e (fork s e) here) ],
      );
    }

    ask_back : (k e i : ℕ) → IsJob p k → MayAskBottle q s k e i → MayAskBottle p s k e i
    ask_back k e i job m = record {
      needed = needs_back k (instrument_of p e i) job (subst (Needs q s k) (instrument_same e i) m.needed);
      bottle_there = there_back k e (bottle_end (edge s e).bottles i) m.bottle_there;
      token_here = here_back k e (bottle_end (edge s e).bottle_tokens i) m.token_here;
    }

    give_back : (k e i : ℕ) → IsJob p k → MayGiveBottle q s k e i → MayGiveBottle p s k e i
    give_back k e i job m = record {
      bottle_here = here_back k e (bottle_end (edge s e).bottles i) m.bottle_here;
      token_here = here_back k e (bottle_end (edge s e).bottle_tokens i) m.token_here;
      not_kept = λ kept. m.not_kept (
        subst (Needs q s k) (sym (instrument_same e i)) (needs_same k (instrument_of p e i) job kept.0),
        elim kept.1 [ inl drinks ↦ inl drinks | inr here ↦ inr (here_same k e (fork s e) here) ],
      );
    }

    marked_same : (k : ℕ) → IsMarkedAll p s k → IsMarkedAll q s k
    marked_same k all e own = all e (own_back k e own)

    needed_same : (k : ℕ) → IsJob p k → HasNeeded p s k → HasNeeded q s k
    needed_same k job all e own i inside needs =
        all e (own_back k e own) i (subst (λ (l : List ℕ). i < length l) (more.bottles_same e) inside)
        (needs_back k (instrument_of p e i) job (subst (Needs q s k) (instrument_same e i) needs))

    marked_back : (k : ℕ) → IsMarkedAll q s k → IsMarkedAll p s k
    marked_back k all e own = all e (own_same k e own)

    needed_back : (k : ℕ) → IsJob p k → HasNeeded q s k → HasNeeded p s k
    needed_back k job all e own i inside needs =
        all e (own_same k e own) i (subst (λ (l : List ℕ). i < length l) (sym (more.bottles_same e)) inside)
        (subst (Needs q s k) (sym (instrument_same e i)) (needs_same k (instrument_of p e i) job needs))

    job_back : (k : ℕ) → IsJob q k → IsJob p k
    job_back k job = let n = more.jobs_same in omega arith

    job_same : (k : ℕ) → IsJob p k → IsJob q k
    job_same k job = let n = more.jobs_same in omega arith

  -- ---- where an event is legal

  abbrev IsNotRetire : Event → Type 0
  IsNotRetire (Retire k) = k ≢ j
  IsNotRetire _ = Unit {0}

  may_same : (s : State) → Fits p s → (event : Event) → IsNotRetire event → May p s event → May q s event
  may_same s fit (Look k e seen) ok may = (own_same k e may.0, may.1)
  may_same s fit (AskFork k e) ok may = (own_same k e may.0, may.1, there_same k e (fork s e) may.2, here_same k e (edge s e).token may.3)
  may_same s fit (GiveFork k e) ok may = (own_same k e may.0, may.1, here_same k e (fork s e) may.2, may.3, here_same k e (edge s e).token may.4)
  may_same s fit (Soil k e) ok may = (own_same k e may.0, may.1, here_same k e (fork s e) may.2, may.3)
  may_same s fit (AskBottles k e set) ok may =
      (own_same k e may.0, may.1, set_same s fit e set may.2, λ i has. ask_same s fit k e i (own_is_job p k e may.0) (may.3 i has))
  may_same s fit (GiveBottles k e set) ok may =
      (own_same k e may.0, set_same s fit e set may.1, λ i has. give_same s fit k e i (own_is_job p k e may.0) (may.2 i has))
  may_same s fit (Thirst k) ok may = let n = as_many k in let left = may.3 in (job_same s fit k may.0, may.1, may.2, omega arith)
  may_same s fit (Hunger k) ok may = (job_same s fit k may.0, may.1, may.2)
  may_same s fit (Sit k) ok may = (job_same s fit k may.0, may.1, marked_same s fit k may.2)
  may_same s fit (Leave k) ok may = (job_same s fit k may.0, may.1, may.2, marked_same s fit k may.3)
  may_same s fit (Drink k) ok may = (job_same s fit k may.0, may.1, needed_same s fit k may.0 may.2)
  may_same s fit (Reach k) ok may = (
    job_same s fit k may.0,
    may.1,
    subst (λ (x : SessionPlan). position s k < length x.commands) (sym (now_same s fit k may.0 (inr (inl may.1)))) may.2,
  )
  may_same s fit (Act k) ok may = (job_same s fit k may.0, may.1)
  may_same s fit (Quit k) ok may = (
    job_same s fit k may.0,
    may.1,
    subst (λ (x : SessionPlan). length x.commands ≤ position s k) (sym (now_same s fit k may.0 (inr (inl may.1)))) may.2,
  )
  may_same s fit (Retire k) ok may = (
    job_same s fit k may.0,
    may.1,
    may.2,
    subst (λ (l : List SessionPlan). length l ≤ session s k) (sym (more.others_same k ok)) may.3,
  )
  may_same s fit (Glance k other seen) ok may = (job_same s fit k may.0, job_same s fit other may.1, may.2, may.3)
  may_same s fit (Withdraw k) ok may = (
    job_same s fit k may.0,
    may.1,
    subst (λ (x : SessionPlan). IsSome x.patience) (sym (now_same s fit k may.0 (inl may.1))) may.2,
  )

  may_back : (s : State) → Fits p s → (event : Event) → ¬ AsksWhatIsLeft j event → May q s event → May p s event
  may_back s fit (Look k e seen) ok may = (own_back k e may.0, may.1)
  may_back s fit (AskFork k e) ok may = (own_back k e may.0, may.1, there_back k e (fork s e) may.2, here_back k e (edge s e).token may.3)
  may_back s fit (GiveFork k e) ok may = (own_back k e may.0, may.1, here_back k e (fork s e) may.2, may.3, here_back k e (edge s e).token may.4)
  may_back s fit (Soil k e) ok may = (own_back k e may.0, may.1, here_back k e (fork s e) may.2, may.3)
  may_back s fit (AskBottles k e set) ok may =
      let own = own_back k e may.0 in
      (own, may.1, set_back s fit e set may.2, λ i has. ask_back s fit k e i (own_is_job p k e own) (may.3 i has))
  may_back s fit (GiveBottles k e set) ok may =
      let own = own_back k e may.0 in (own, set_back s fit e set may.1, λ i has. give_back s fit k e i (own_is_job p k e own) (may.2 i has))
  may_back s fit (Thirst k) ok may =
      (job_back s fit k may.0, may.1, may.2, subst (λ (l : List SessionPlan). session s k < length l) (more.others_same k ok) may.3)
  may_back s fit (Hunger k) ok may = (job_back s fit k may.0, may.1, may.2)
  may_back s fit (Sit k) ok may = (job_back s fit k may.0, may.1, marked_back s fit k may.2)
  may_back s fit (Leave k) ok may = (job_back s fit k may.0, may.1, may.2, marked_back s fit k may.3)
  may_back s fit (Drink k) ok may = (job_back s fit k may.0, may.1, needed_back s fit k (job_back s fit k may.0) may.2)
  may_back s fit (Reach k) ok may = (
    job_back s fit k may.0,
    may.1,
    subst (λ (x : SessionPlan). position s k < length x.commands) (now_same s fit k (job_back s fit k may.0) (inr (inl may.1))) may.2,
  )
  may_back s fit (Act k) ok may = (job_back s fit k may.0, may.1)
  may_back s fit (Quit k) ok may = (
    job_back s fit k may.0,
    may.1,
    subst (λ (x : SessionPlan). length x.commands ≤ position s k) (now_same s fit k (job_back s fit k may.0) (inr (inl may.1))) may.2,
  )
  may_back s fit (Retire k) ok may = (
    job_back s fit k may.0,
    may.1,
    may.2,
    subst (λ (l : List SessionPlan). length l ≤ session s k) (more.others_same k ok) may.3,
  )
  may_back s fit (Glance k other seen) ok may = (job_back s fit k may.0, job_back s fit other may.1, may.2, may.3)
  may_back s fit (Withdraw k) ok may = (
    job_back s fit k may.0,
    may.1,
    subst (λ (x : SessionPlan). IsSome x.patience) (now_same s fit k (job_back s fit k may.0) (inl may.1)) may.2,
  )

  kept_so : (event : Event) → ¬ AsksWhatIsLeft j event → IsNotRetire event
  kept_so (Retire k) ok = ok
  kept_so _ ok = tt

  -- ---- the state after it

  after_same : (s : State) → Fits p s → (event : Event) → May p s event → after q s event ≡ after p s event
  unfolding next_entry
  after_same s fit (Look k e seen) may =
      let marks : bottles_at q e (end_of q k e) seen ≡ bottles_at p e (end_of p k e) seen =
      ap (λ (here : End). bottles_at q e here seen) (end_same k e) ∙ bottles_at_same e (end_of p k e) seen in
      ap (λ (z : Bool × ℕ). with_seat s k (with_bottle_marks (with_fork_mark (seat s k) e z.0) e z.1))
      (λ i. (fork_mark_seen (seat s k).phase.dining (end_same k e i) seen, marks i))
  after_same s fit (AskFork k e) may = refl
  after_same s fit (GiveFork k e) may = refl
  after_same s fit (Soil k e) may = refl
  after_same s fit (AskBottles k e set) may = refl
  after_same s fit (GiveBottles k e set) may = refl
  after_same s fit (Thirst k) may = refl
  after_same s fit (Hunger k) may = refl
  after_same s fit (Sit k) may = refl
  after_same s fit (Leave k) may = refl
  after_same s fit (Drink k) may = refl
  after_same s fit (Reach k) may = refl
  after_same s fit (Act k) may =
      ap (λ (x : SessionPlan). let c : ℕ × Verb = slice_index_or x.commands (position s k) (0, Read) in
      with_phase (with_entry s c.0 (record {
        job = k;
        session = session s k;
        place = place_in x.commands (position s k);
        length = count_on c.0 x.commands;
        verb = c.1;
        value = turned c.1 (dial (log s c.0));
      })) k (record (phase s k) { drinking = Drinks; position = position s k + 1 }))
      (now_same s fit k may.0 (inr (inr may.1)))
  after_same s fit (Quit k) may = refl
  after_same s fit (Retire k) may = refl
  after_same s fit (Glance k other seen) may = refl
  after_same s fit (Withdraw k) may = refl

  -- where the job hasn't retired by then, the event isn't that it retires
  not_retire : (s : State) → Fits p s → (event : Event) → May p s event → drinking (after p s event) j ≢ Retired → IsNotRetire event
  not_retire s fit (Retire k) may alive = λ is. (
      let n = fit.seats_there in
      let job = may.0 in
      let there : k < length s.seats = omega arith in
      alive (subst (λ (i : ℕ). drinking (after p s (Retire k)) i ≡ Retired) is (ap (λ (x : Seat). x.phase.drinking) (seat_same s k _ there)))
      )
  not_retire s fit _ may alive = tt

  -- ---- lists

  all_legal : (s : State) (h : List Event) → Fits p s → IsLegalFrom p s h → drinking (after_all p s h) j ≢ Retired
      → IsLegalFrom q s h × (after_all q s h ≡ after_all p s h)
  all_legal s [] fit legal alive = (tt, refl)
  all_legal s (x ∷ h) fit legal alive =
      let next = all_legal (after p s x) h (fits_after p s x fit legal.0) legal.1 alive in
      let same = after_same s fit x legal.0 in
      let ok = not_retire s fit x legal.0 (λ is. alive (retired_stays p (after p s x) h j legal.1 is)) in (
        (may_same s fit x ok legal.0, subst (λ (z : State). IsLegalFrom q z h) (sym same) next.0),
        ap (λ (z : State). after_all q z h) same ∙ next.1,
      )

pub stays_legal : StaysLegal
stays_legal p q j more s s' h fit run alive =
    let both = all_legal p q j more s h fit run.legal (subst (λ (z : State). drinking z j ≢ Retired) run.leads alive) in
    record { legal = both.0; leads = run.leads ∙ sym both.1 }

pub is_as_legal : IsAsLegal
is_as_legal p q j more s event fit other = (may_back p q j more s fit event other, may_same p q j more s fit event (kept_so p q j more event other))
