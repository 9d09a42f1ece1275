-- One more session of instruments that the job names already changes no edge and no bottle.
use Rattle.std.proofs.Common.{◌≡◌, ◌≢◌, ℕ, ◌<◌, Bool, true, false, ◌&&◌, ◌||◌, ◌==◌, not, if◌then◌else◌, Some, None, List, [], ◌∷◌, filter, length, get_or, refl, sym, ap, ◌∙◌, subst, inl, inr, length-set, get_or-set_same, get_or-set_other}
use Rattle.std.specs.List.{list_any, range_with_len}
use Rattle.std.proofs.lemmas.Bool.{cases_eq, cases_Bool, eqb-true, false≢true}
use Rattle.std.proofs.lemmas.List.Folds.{list_any-append}
use Rattle.lab_plan.specs.LabPlan.{LabPlan, SessionPlan, JobPlan, no_job, job_at, sessions, any_on, is_named_by, names, pairs, edges, ends, common}
use Rattle.longer_plans.specs.Longer.{IsLonger}
use Rattle.lab_plan.specs.declared.verb.Verb.{Verb}
use Rattle.lab_plan.specs.declared.refusal.MoreRefusal.TheVariants.{Empty, LimitPassed, NotItsOwn, NotPatient, TooLarge}
use Rattle.lab_plan.specs.Longer.{with_session, with_one_more, IsOfItsOwn, is_past_limit, are_its_own, may_be_patient, all_fit, more_refusal}
use Rattle.longer_plans.specs.OneMore.{IsLongerByOne, TakenIsLonger}

module _ (p : LabPlan) (j : ℕ) (session : SessionPlan) (there : j < length p.jobs) (own : IsOfItsOwn p j session) where
  abbrev q : LabPlan
  q = with_one_more p j session

  job_same : (k : ℕ) → k ≢ j → job_at q k ≡ job_at p k
  job_same k other = get_or-set_other p.jobs j k (with_session (job_at p j) session) no_job other

  job_more : job_at q j ≡ with_session (job_at p j) session
  job_more = get_or-set_same p.jobs j (with_session (job_at p j) session) no_job there

  both_ways : (a b : Bool) → (b ≡ true → a ≡ true) → (a || (b || false)) ≡ a
  both_ways true b h = refl
  both_ways false true h = sym (h refl)
  both_ways false false h = refl

  own_names : (i : ℕ) → names q j i ≡ names p j i
  own_names i =
      ap (λ (x : JobPlan). is_named_by x i) job_more
      ∙ (list_any-append (λ (x : SessionPlan). any_on i x.commands) (sessions p j) (session ∷ [])
      ∙ both_ways (names p j i) (any_on i session.commands) (own i))

  names_same : (k i : ℕ) → names q k i ≡ names p k i
  names_same k i = elim (cases_eq k j) [
    | inl is ↦ subst (λ (n : ℕ). names q n i ≡ names p n i) (sym is) (own_names i)
    | inr other ↦ ap (λ (x : JobPlan). is_named_by x i) (job_same k other)
  ]

  many : length q.jobs ≡ length p.jobs
  many = length-set p.jobs j (with_session (job_at p j) session)

  same_edges : edges q ≡ edges p
  unfolding edges
  same_edges = λ r. filter (λ (pair : ℕ × ℕ). list_any (λ (i : ℕ). names_same pair.0 i r && names_same pair.1 i r) (range_with_len 0 (length p.instruments)))
      (pairs (many r))

  same_common : (pair : ℕ × ℕ) → common q pair ≡ common p pair
  unfolding common
  same_common pair = λ r. filter (λ (i : ℕ). names_same pair.0 i r && names_same pair.1 i r) (range_with_len 0 (length p.instruments))

  pub longer : IsLonger p q j
  longer = record {
    jobs_same = many;
    instruments_same = refl;
    edges_same = same_edges;
    bottles_same = λ e. same_common (ends q e) ∙ ap (λ (l : List (ℕ × ℕ)). common p (get_or l e (0, 0))) same_edges;
    others_same = λ k other. ap (λ (x : JobPlan). x.sessions) (job_same k other);
    further = session ∷ [];
    own = ap (λ (x : JobPlan). x.sessions) job_more;
  }

pub longer_by_one : IsLongerByOne
longer_by_one p j session there own = longer p j session there own

-- ---- a session that a plan doesn't refuse

both_true : (a b : Bool) → (a && b) ≡ true → (a ≡ true) × (b ≡ true)
both_true true b is = (refl, is)
both_true false b is = absurd (false≢true is)

-- each command is on an instrument that the job names, so each instrument with a command is one of those
named : (p : LabPlan) (j i : ℕ) (commands : List (ℕ × Verb)) → are_its_own p j commands ≡ true → any_on i commands ≡ true → names p j i ≡ true
named p j i [] own there = absurd (false≢true there)
named p j i (command ∷ commands) own there =
    let both = both_true (names p j command.0) (are_its_own p j commands) own in
    elim (cases_Bool (command.0 == i)) [
      | inl is ↦ subst (λ (n : ℕ). names p j n ≡ true) (eqb-true command.0 i is) both.0
      | inr other ↦ named p j i commands both.1 (sym (ap (λ (b : Bool). b || any_on i commands) other) ∙ there)
    ]

-- of its causes, the third
not_its_own : (empty past own patient fit : Bool)
    → (if empty then Some Empty
    else (if past then Some LimitPassed
    else (if not own then Some NotItsOwn
    else (if not patient then Some NotPatient
    else (if not fit then Some TooLarge else None))))) ≡ None → own ≡ true
not_its_own true past own patient fit is = absurd (cc)
not_its_own false true own patient fit is = absurd (cc)
not_its_own false false true patient fit is = refl
not_its_own false false false patient fit is = absurd (cc)

pub is_of_its_own : (p : LabPlan) (j : ℕ) (session : SessionPlan) → more_refusal p j session ≡ None → IsOfItsOwn p j session
is_of_its_own p j session is = λ i there.
    named p j i session.commands (not_its_own (length session.commands == 0) (is_past_limit p j session) (are_its_own p j session.commands)
    (may_be_patient p session.patience) (all_fit session.commands) is) there

pub taken_is_longer : TakenIsLonger
taken_is_longer p j session there is = longer p j session there (is_of_its_own p j session is)
