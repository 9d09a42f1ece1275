-- States of a longer plan: what fits still fits, openings are openings, and precedence is the same.
use Rattle.std.proofs.Common.{◌≡◌, ℕ, ◌-◌, ◌^◌, ◌<◌, ◌≤◌, true, false, List, [], ◌∷◌, map, length, replicate, bit_xor, slice_index_or, sym, ap, ◌∙◌, subst, inl, inr, arith}
use Rattle.std.specs.List.{enumerate_from}
use Rattle.std.proofs.lemmas.List.{get_or_past}
use Rattle.std.proofs.lemmas.Bool.{cases_lt}
use Rattle.lab_plan.specs.LabPlan.{LabPlan, SessionPlan, edges, sessions, commands, no_session}
use Rattle.legal_steps.specs.declared.end.End.{End}
use Rattle.legal_steps.specs.declared.end.End.TheVariants.{Lower, Higher}
use Rattle.legal_steps.specs.declared.edge_state.EndChoice.{EndChoice}
use Rattle.legal_steps.specs.declared.phase.JobState.{JobState}
use Rattle.legal_steps.specs.State.{State, Seat, IsOfEdge, opposite, fork, dining, job_at_end, idle_phase}
use Rattle.legal_steps.specs.Fitting.{Fits, IsSeatOf, IsPhaseOf}
use Rattle.legal_steps.specs.Opening.{IsOpening, idle_seat, the_opening}
use Rattle.legal_steps.specs.Precedence.{IsAcyclic, Precedes, IsUsed, IsCycleOf, LeadsBackTo}
use Rattle.longer_plans.specs.Longer.{IsLonger, StillFits, StaysAnOpening, StaysAcyclic, OpensTheSame}
use Rattle.longer_plans.proofs.Stays.{as_many, session_same}

module _ (p q : LabPlan) (j : ℕ) (more : IsLonger p q j) where
  is_edge : (e : ℕ) → e < length (edges q) → e < length (edges p)
  is_edge e there = subst (λ (l : List (ℕ × ℕ)). e < length l) more.edges_same there

  of_edge : (e set : ℕ) → IsOfEdge p e set → IsOfEdge q e set
  of_edge e set = subst (λ (l : List ℕ). set < 2 ^ length l) (sym (more.bottles_same e))

  -- ---- what fits

  -- a session of the plan has its commands, and one that isn't there has none
  enough : (k n : ℕ) → length (commands p k n) ≤ length (commands q k n)
  enough k n = elim (cases_lt (n - 1) (length (sessions p k))) [
    | inl there ↦ let same = ap (λ (x : SessionPlan). length x.commands) (session_same p q j more k n there) in omega arith
    | inr past ↦
        let none = ap (λ (x : SessionPlan). length x.commands) (get_or_past (sessions p k) (n - 1) no_session past) in
        omega arith
  ]

  phase_fits : (k : ℕ) (x : JobState) → IsPhaseOf p k x → IsPhaseOf q k x
  phase_fits k x fit =
      let n = enough k x.session in
      let m = as_many p q j more k in
      let there = fit.session_there in
      let within = fit.position_there in
      record {
        session_there = omega arith;
        begun = fit.begun;
        position_there = omega arith;
        command_left = λ reaches. let left = fit.command_left reaches in omega arith;
      }

  seat_fits : (k : ℕ) (x : Seat) → IsSeatOf p k x → IsSeatOf q k x
  seat_fits k x fit = record {
    fork_marks_there = fit.fork_marks_there ∙ sym (ap length more.edges_same);
    bottle_marks_there = fit.bottle_marks_there ∙ sym (ap length more.edges_same);
    bottle_marks_fit = λ e there. of_edge e _ (fit.bottle_marks_fit e (is_edge e there));
    phase_within = phase_fits k x.phase fit.phase_within;
  }

  fits : (s : State) → Fits p s → Fits q s
  fits s fit = record {
    edges_there = fit.edges_there ∙ sym (ap length more.edges_same);
    bottles_fit = λ e there. of_edge e _ (fit.bottles_fit e (is_edge e there));
    tokens_fit = λ e there. of_edge e _ (fit.tokens_fit e (is_edge e there));
    seats_there = fit.seats_there ∙ sym more.jobs_same;
    logs_there = fit.logs_there ∙ sym more.instruments_same;
    seats_fit = λ k job. seat_fits k _ (fit.seats_fit k (let n = more.jobs_same in omega arith));
  }

  -- ---- openings

  idle_same : replicate (length q.jobs) (idle_seat q) ≡ replicate (length p.jobs) (idle_seat p)
  idle_same = λ i. replicate (more.jobs_same i) (record {
    phase = idle_phase;
    fork_marks = replicate (length (more.edges_same i)) false;
    bottle_marks = replicate (length (more.edges_same i)) 0;
  })

  opening : (s : State) → IsOpening p s → IsOpening q s
  opening s h = record {
    edges_there = h.edges_there ∙ sym (ap length more.edges_same);
    dirty = λ e there. h.dirty e (is_edge e there);
    token_opposite = λ e there. h.token_opposite e (is_edge e there);
    bottles_fit = λ e there. of_edge e _ (h.bottles_fit e (is_edge e there));
    tokens_fit = λ e there. of_edge e _ (h.tokens_fit e (is_edge e there));
    bottle_tokens_opposite = λ e k there small.
        h.bottle_tokens_opposite e k (is_edge e there) (subst (λ (l : List ℕ). k < length l) (more.bottles_same e) small);
    idle = h.idle ∙ sym idle_same;
    logs_empty = h.logs_empty ∙ sym (ap (λ n. replicate n []) more.instruments_same);
  }

  opening_same : the_opening q ≡ the_opening p
  opening_same = λ i. record {
    edges = map (λ (numbered : ℕ × EndChoice). record {
      fork = numbered.1.fork;
      dirty = true;
      token = opposite numbered.1.fork;
      bottles = numbered.1.bottles;
      bottle_tokens = bit_xor (2 ^ length (more.bottles_same numbered.0 i) - 1) numbered.1.bottles;
    }) (enumerate_from 0 (replicate (length (more.edges_same i)) (record { fork = Lower; bottles = 0 })));
    seats = idle_same i;
    logs = replicate (more.instruments_same i) [];
  }

  -- ---- precedence

  at_end : (e : ℕ) (x : End) → job_at_end q e x ≡ job_at_end p e x
  at_end e Lower = ap (λ (l : List (ℕ × ℕ)). (slice_index_or l e (0, 0)).0) more.edges_same
  at_end e Higher = ap (λ (l : List (ℕ × ℕ)). (slice_index_or l e (0, 0)).1) more.edges_same

  module _ (s : State) where
    used_back : (e : ℕ) → IsUsed q s e → IsUsed p s e
    used_back e (inl eats) = inl (ap (dining s) (sym (at_end e (fork s e))) ∙ eats)
    used_back e (inr dirty) = inr dirty

    used_on : (e : ℕ) → IsUsed p s e → IsUsed q s e
    used_on e (inl eats) = inl (ap (dining s) (at_end e (fork s e)) ∙ eats)
    used_on e (inr dirty) = inr dirty

    precedes_back : (a b : ℕ) → Precedes q s a b → Precedes p s a b
    precedes_back a b (e, on) =
        let holder = at_end e (fork s e) in
        let waiter = at_end e (opposite (fork s e)) in (
          e,
          record {
            is_edge = is_edge e on.is_edge;
            order = elim on.order [
              | inl used ↦ inl (used_back e used.0, used.1 ∙ waiter, used.2 ∙ holder)
              | inr clean ↦ inr (λ used. clean.0 (used_on e used), clean.1 ∙ holder, clean.2 ∙ waiter)
            ];
          },
        )

    leads_back : (first a : ℕ) (jobs : List ℕ) → LeadsBackTo (Precedes q s) first a jobs → LeadsBackTo (Precedes p s) first a jobs
    leads_back first a [] leads = precedes_back a first leads
    leads_back first a (b ∷ jobs) leads = (precedes_back a b leads.0, leads_back first b jobs leads.1)

    cycle_back : (jobs : List ℕ) → IsCycleOf (Precedes q s) jobs → IsCycleOf (Precedes p s) jobs
    cycle_back [] is = is
    cycle_back (first ∷ jobs) is = leads_back first first jobs is

    acyclic : IsAcyclic p s → IsAcyclic q s
    acyclic none = λ jobs is. none jobs (cycle_back jobs is)

pub still_fits : StillFits
still_fits p q j more s = fits p q j more s

pub stays_an_opening : StaysAnOpening
stays_an_opening p q j more s = opening p q j more s

pub stays_acyclic : StaysAcyclic
stays_acyclic p q j more s = acyclic p q j more s

pub opens_the_same : OpensTheSame
opens_the_same p q j more = opening_same p q j more
