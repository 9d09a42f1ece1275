-- What a plan and its tables keep with one more session of instruments that its job names already.
use Rattle.std.proofs.Common.{◌≡◌, ◌≢◌, ℕ, zero, suc, ◌+◌, ◌-◌, ◌<◌, ◌≤◌, Bool, true, false, ◌&&◌, ◌||◌, ◌==◌, nat_lt, if◌then◌else◌, List, [], ◌∷◌, ◌++◌, filter, map, length, get_or, set, arith, refl, sym, ap, ◌∙◌, subst, inl, inr, length-set, get_or-set_same, get_or-set_other, append_assoc, append-nil, length-append}
use Rattle.std.specs.Prelude.{Option, None, Some, not, nat_le, take, unwrap_or}
use Rattle.std.specs.Option.{ForSome}
use Rattle.std.specs.List.{All, list_all, list_any, flat_map, range_with_len}
use Rattle.std.proofs.Math.Bool.{or-true}
use Rattle.std.proofs.lemmas.Bool.{cases_Bool, cases_eq, cases_lt, leb-true}
use Rattle.std.proofs.lemmas.Bool.Decides.{nat_tests}
use Rattle.std.proofs.lemmas.List.{length_push, get_or_push, get_or_append_left, get_or_default, get_or-map, map-append, length-map, take_at, set-set, set-get_or}
use Rattle.std.proofs.lemmas.List.Concat.{flat_map-append}
use Rattle.std.proofs.lemmas.List.FromFn.{length-map-range_with_len}
use Rattle.std.proofs.lemmas.List.Folds.{list_any-append}
use Rattle.std.proofs.lemmas.Map.Views.{any-filter_same}
use Rattle.lab_plan.specs.declared.verb.Verb.{Verb}
use Rattle.lab_plan.specs.declared.verb.Verb.TheVariants.{Read}
use Rattle.lab_plan.specs.declared.refusal.MoreRefusal.TheVariants.{Empty, LimitPassed, NotItsOwn, NotPatient, TooLarge}
use Rattle.lab_plan.specs.Names.{IsName}
use Rattle.lab_plan.specs.Verbs.{Fits, verb_number}
use Rattle.lab_plan.specs.LabPlan.{LabPlan, SessionPlan, JobPlan, no_job, no_session, job_at, sessions, commands, any_on, is_named_by, names, pairs, edges, ends, common, bottles, all_commands, firsts}
use Rattle.lab_plan.specs.IsPlan.{IsNamed, IsDraft, IsPlan}
use Rattle.lab_plan.specs.SessionTables.{JobTable, Related, AreNeeds, IsSessionNeeds, IsJobTable, place_of, places_of, all_places, table_with, table_without, no_table}
use Rattle.lab_plan.specs.Tables.{PlanTables, AreTablesOf, tables_with, tables_without}
use Rattle.lab_plan.specs.Longer.{with_session, with_one_more, IsOfItsOwn, is_past_limit, are_its_own, may_be_patient, all_fit, more_refusal}
use Rattle.lab_plan.proofs.Drafts.{EachSession, OfJob, everywhere_push, each, firsts_push, NamesBelow, FitsAll, IsPatient}
use Rattle.lab_plan.proofs.Shared.{any_place, session-instrument}
use Rattle.lab_plan.proofs.Small.{any_command_is}

-- the test of the limit, which adds nothing that could be too large
pub past_is : (all more : ℕ) → all ≤ 100000 → nat_lt (100000 - all) more ≡ nat_lt 100000 (all + more)
past_is all more few = grind (arith, nat_tests, few)

-- ---- what isn't refused

pub record IsGranted (p : LabPlan) (j : ℕ) (session : SessionPlan) : Type 0 where
  pub some : 0 < length session.commands
  pub few_sessions : length (sessions p j) < 1000
  pub few_commands : length (all_commands p) + length session.commands ≤ 100000
  pub own : are_its_own p j session.commands ≡ true
  pub patient : may_be_patient p session.patience ≡ true
  pub fit : all_fit session.commands ≡ true

none_of : {X : Type 0} (a b c d e : Bool) (v w x y z : X)
    → (if a then Some v else (if b then Some w else (if c then Some x else (if d then Some y else (if e then Some z else None))))) ≡ None
    → (a ≡ false) × (b ≡ false) × (c ≡ false) × (d ≡ false) × (e ≡ false)
none_of true b c d e v w x y z h = cc
none_of false true c d e v w x y z h = cc
none_of false false true d e v w x y z h = cc
none_of false false false true e v w x y z h = cc
none_of false false false false true v w x y z h = cc
none_of false false false false false v w x y z h = (refl, refl, refl, refl, refl)

not_false : (b : Bool) → not b ≡ false → b ≡ true
not_false true h = refl
not_false false h = cc

pub granted : (p : LabPlan) (j : ℕ) (session : SessionPlan) → more_refusal p j session ≡ None → IsGranted p j session
granted p j session h =
    let not_any = none_of (length session.commands == 0) (is_past_limit p j session) (not (are_its_own p j session.commands))
    (not (may_be_patient p session.patience)) (not (all_fit session.commands)) Empty LimitPassed NotItsOwn NotPatient TooLarge h in
    let empty = not_any.0 in
    let past = not_any.1 in
    record {
      some = grind (arith, nat_tests, empty);
      few_sessions = grind (arith, nat_tests, past);
      few_commands = grind (arith, nat_tests, past);
      own = not_false _ not_any.2;
      patient = not_false _ not_any.3;
      fit = not_false _ not_any.4;
    }

-- ---- tests of all commands, one by one

both_are : (a b : Bool) → (a && b) ≡ true → (a ≡ true) × (b ≡ true)
both_are true b h = (refl, h)
both_are false b h = cc

all_of : {X : Type 0} (p : X → Bool) (P : X → Type 0) → ((x : X) → p x ≡ true → P x) → (xs : List X) → list_all p xs ≡ true → All P xs
all_of p P to [] h k d inside = absurd (omega (arith, inside))
all_of p P to (x ∷ xs) h zero d inside = to x (both_are (p x) (list_all p xs) h).0
all_of p P to (x ∷ xs) h (suc k) d inside = all_of p P to xs (both_are (p x) (list_all p xs) h).1 k d (omega (arith, inside))

pub is_own : (p : LabPlan) (j : ℕ) (session : SessionPlan) → are_its_own p j session.commands ≡ true → IsOfItsOwn p j session
is_own p j session h i named =
    let d : ℕ × Verb = (0, Read) in
    let w = any_place (λ (command : ℕ × Verb). command.0 == i) session.commands d named in
    let test = w.2 in
    let is : (get_or session.commands w.0 d).0 ≡ i = grind (arith, nat_tests, test) in
    subst (λ n. names p j n ≡ true) is
    (all_of (λ (command : ℕ × Verb). names p j command.0) (λ command. names p j command.0 ≡ true) (λ x t. t) session.commands h w.0 d w.1)

-- what a job names is an instrument of the plan
names_instrument : (p : LabPlan) (j i : ℕ) → IsNamed p → names p j i ≡ true → i < length p.instruments
names_instrument p j i named h =
    let w = any_place (λ (x : SessionPlan). any_on i x.commands) (sessions p j) no_session h in
    let before : w.0 + 1 - 1 ≡ w.0 = omega arith in
    session-instrument p j (w.0 + 1) i named (ap (λ k. any_on i (get_or (sessions p j) k no_session).commands) before ∙ w.2)

pub below : (p : LabPlan) (j : ℕ) (session : SessionPlan) → IsNamed p → are_its_own p j session.commands ≡ true
    → NamesBelow (length p.instruments) session
below p j session named h =
    all_of (λ (command : ℕ × Verb). names p j command.0) (λ command. command.0 < length p.instruments) (λ x t. names_instrument p j x.0 named t) session.commands h

fits : (session : SessionPlan) → all_fit session.commands ≡ true → FitsAll session
fits session h =
    all_of (λ (command : ℕ × Verb). nat_le (verb_number command.1) 999999) (λ command. Fits command.1) (λ x t. leb-true (verb_number x.1) 999999 t) session.commands h

is_patient : (p : LabPlan) (session : SessionPlan) → may_be_patient p session.patience ≡ true → IsPatient p.version session
is_patient p session h = at session.patience h
  where
    at : (o : Option ℕ) → may_be_patient p o ≡ true → ForSome o (λ n. (p.version ≡ 2) × (n ≤ 999999))
    at None t = λ n e. cc
    at (Some n) t =
        let b : ((p.version == 2) ≡ true) × (nat_le n 999999 ≡ true) = both_are (p.version == 2) (nat_le n 999999) t in
        let test = b.0 in
        let two : p.version ≡ 2 = grind (arith, nat_tests, test) in
        λ m e. (two, subst (λ z. z ≤ 999999) (ap (λ o. unwrap_or o 0) e) (leb-true n 999999 b.1))

-- ---- the plan with one more session of a job

module _ (p : LabPlan) (j : ℕ) (session : SessionPlan) (there : j < length p.jobs) where
  abbrev q : LabPlan
  q = with_one_more p j session

  abbrev more : JobPlan
  more = with_session (job_at p j) session

  job_same : (k : ℕ) → k ≢ j → job_at q k ≡ job_at p k
  job_same k other = get_or-set_other p.jobs j k more no_job other

  job_more : job_at q j ≡ more
  job_more = get_or-set_same p.jobs j more no_job there

  many : length q.jobs ≡ length p.jobs
  many = length-set p.jobs j more

  -- what the sessions of a job say, of each job
  each_job : (P : JobPlan → Type 0) → ((k : ℕ) → P (job_at p k)) → P more → (k : ℕ) → P (job_at q k)
  each_job P old new k = elim (cases_eq k j) [
    | inl is ↦ subst (λ n. P (job_at q n)) (sym is) (subst P (sym job_more) new)
    | inr other ↦ subst P (sym (job_same k other)) (old k)
  ]

  each_session : (P : SessionPlan → Type 0) → P no_session → P session → EachSession P p → EachSession P q
  each_session P none new old =
      each_job (OfJob P) old (everywhere_push P no_session (sessions p j) session (old j) none new)

  name_same : (k : ℕ) (d : JobPlan) → (get_or q.jobs k d).name ≡ (get_or p.jobs k d).name
  name_same k d = elim (cases_eq k j) [
    | inl is ↦ subst (λ n. (get_or q.jobs n d).name ≡ (get_or p.jobs n d).name) (sym is)
        (ap (λ (x : JobPlan). x.name) (get_or-set_same p.jobs j more d there ∙ refl)
        ∙ ap (λ (x : JobPlan). x.name) (get_or_default p.jobs j no_job d there))
    | inr other ↦ ap (λ (x : JobPlan). x.name) (get_or-set_other p.jobs j k more d other)
  ]

  module _ (own : IsOfItsOwn p j session) where
    both_ways : (a b : Bool) → (b ≡ true → a ≡ true) → (a || (b || false)) ≡ a
    both_ways true b h = refl
    both_ways false true h = sym (h refl)
    both_ways false false h = refl

    pub more_names : (i : ℕ) → is_named_by more i ≡ names p j i
    more_names i =
        list_any-append (λ (x : SessionPlan). any_on i x.commands) (sessions p j) (session ∷ [])
        ∙ both_ways (names p j i) (any_on i session.commands) (own i)

    pub names_same : (k i : ℕ) → names q k i ≡ names p k i
    names_same k i = elim (cases_eq k j) [
      | inl is ↦ subst (λ n. names q n i ≡ names p n i) (sym is) (ap (λ (x : JobPlan). is_named_by x i) job_more ∙ more_names i)
      | inr other ↦ ap (λ (x : JobPlan). is_named_by x i) (job_same k other)
    ]

    pub same_edges : edges q ≡ edges p
    unfolding edges
    same_edges = λ r. filter (λ (pair : ℕ × ℕ). list_any (λ (i : ℕ). names_same pair.0 i r && names_same pair.1 i r) (range_with_len 0 (length p.instruments)))
        (pairs (many r))

    pub same_common : (pair : ℕ × ℕ) → common q pair ≡ common p pair
    unfolding common
    same_common pair = λ r. filter (λ (i : ℕ). names_same pair.0 i r && names_same pair.1 i r) (range_with_len 0 (length p.instruments))

    pub same_bottles : (e : ℕ) → bottles q e ≡ bottles p e
    same_bottles e = same_common (ends q e) ∙ ap (λ (l : List (ℕ × ℕ)). common p (get_or l e (0, 0))) same_edges

    pub same_lists : map (common q) (edges q) ≡ map (common p) (edges p)
    same_lists = λ r. map (λ (pair : ℕ × ℕ). same_common pair r) (same_edges r)

-- ---- all commands, and the numbers of the instruments in order of first naming

abbrev of_job : JobPlan → List (ℕ × Verb)
of_job job = flat_map (λ (x : SessionPlan). x.commands) job.sessions

abbrev of_jobs : List JobPlan → List (ℕ × Verb)
of_jobs jobs = flat_map of_job jobs

commands_more : (job : JobPlan) (session : SessionPlan) → of_job (with_session job session) ≡ of_job job ++ session.commands
commands_more job session =
    flat_map-append (λ (x : SessionPlan). x.commands) job.sessions (session ∷ []) ∙ ap (λ l. of_job job ++ l) (append-nil session.commands)

length_more : (xs : List JobPlan) (j : ℕ) (y : JobPlan) (more : List (ℕ × Verb)) → j < length xs → of_job y ≡ of_job (get_or xs j no_job) ++ more
    → length (of_jobs (set xs j y)) ≡ length (of_jobs xs) + length more
length_more [] j y more there h = absurd (omega (arith, there))
length_more (x ∷ xs) zero y more there h =
    omega (arith, ap (λ l. length l) h, length-append (of_job x) more, length-append (of_job y) (of_jobs xs), length-append (of_job x) (of_jobs xs))
length_more (x ∷ xs) (suc j) y more there h =
    let rest = length_more xs j y more (omega (arith, there)) h in
    omega (arith, rest, length-append (of_job x) (of_jobs (set xs j y)), length-append (of_job x) (of_jobs xs))

-- a number that is there already is no first
any_firsts : (n : ℕ) (ns : List ℕ) → list_any (λ m. m == n) (firsts ns) ≡ list_any (λ m. m == n) ns
any_firsts n [] = refl
any_firsts n (x ∷ ns) = elim (cases_Bool (x == n)) [
  | inl is ↦ rw is refl
  | inr is ↦
      let p : ℕ → Bool = λ m. not (m == x) in
      let q : ℕ → Bool = λ m. m == n in
      let keeps : (m : ℕ) → q m ≡ true → p m ≡ true = λ m e. grind (arith, nat_tests, is, e) in
      ap (λ b. (x == n) || b) (any-filter_same q p true keeps (firsts ns) ∙ any_firsts n ns)
]

firsts_known : (ns : List ℕ) (n : ℕ) → list_any (λ m. m == n) ns ≡ true → firsts (ns ++ n ∷ []) ≡ firsts ns
firsts_known ns n h =
    firsts_push ns n ∙ ap (λ b. if b then firsts ns else firsts ns ++ n ∷ []) (any_firsts n ns ∙ h)

-- what follows adds the same firsts behind lists with the same
firsts_behind : (xs ys zs : List ℕ) → firsts xs ≡ firsts ys → firsts (xs ++ zs) ≡ firsts (ys ++ zs)
firsts_behind xs ys [] h = ap firsts (append-nil xs) ∙ h ∙ ap firsts (sym (append-nil ys))
firsts_behind xs ys (z ∷ zs) h =
    ap firsts (sym (append_assoc xs (z ∷ []) zs))
    ∙ firsts_behind (xs ++ z ∷ []) (ys ++ z ∷ []) zs
    (firsts_push xs z ∙ ap (λ l. if list_any (λ m. m == z) l then l else l ++ z ∷ []) h ∙ sym (firsts_push ys z))
    ∙ ap firsts (append_assoc ys (z ∷ []) zs)

any_left : (n : ℕ) (xs ys : List ℕ) → list_any (λ m. m == n) xs ≡ true → list_any (λ m. m == n) (xs ++ ys) ≡ true
any_left n xs ys h = list_any-append (λ m. m == n) xs ys ∙ ap (λ b. b || list_any (λ m. m == n) ys) h

firsts_more : (ns new : List ℕ) → All (λ n. list_any (λ m. m == n) ns ≡ true) new → firsts (ns ++ new) ≡ firsts ns
firsts_more ns [] known = ap firsts (append-nil ns)
firsts_more ns (n ∷ new) known =
    let one : list_any (λ m. m == n) ns ≡ true = known 0 n (omega arith) in
    ap firsts (sym (append_assoc ns (n ∷ []) new))
    ∙ firsts_more (ns ++ n ∷ []) new (λ k d inside. any_left _ ns (n ∷ []) (known (suc k) d (omega (arith, inside))))
    ∙ firsts_known ns n one

-- the numbers of some commands
abbrev numbers : List (ℕ × Verb) → List ℕ
numbers commands = map (λ (command : ℕ × Verb). command.0) commands

numbers_split : (ns : List ℕ) (x : JobPlan) (xs : List JobPlan) → ns ++ numbers (of_jobs (x ∷ xs)) ≡ (ns ++ numbers (of_job x)) ++ numbers (of_jobs xs)
numbers_split ns x xs =
    ap (λ l. ns ++ l) (map-append (λ (command : ℕ × Verb). command.0) (of_job x) (of_jobs xs))
    ∙ sym (append_assoc ns (numbers (of_job x)) (numbers (of_jobs xs)))

any_right : (n : ℕ) (xs ys : List ℕ) → list_any (λ m. m == n) ys ≡ true → list_any (λ m. m == n) (xs ++ ys) ≡ true
any_right n xs ys h = list_any-append (λ m. m == n) xs ys ∙ ap (λ b. list_any (λ m. m == n) xs || b) h ∙ or-true (list_any (λ m. m == n) xs)

numbers_more : (ns : List ℕ) (xs : List JobPlan) (j : ℕ) (y : JobPlan) (new : List (ℕ × Verb)) → j < length xs
    → of_job y ≡ of_job (get_or xs j no_job) ++ new
    → All (λ n. list_any (λ m. m == n) (numbers (of_job (get_or xs j no_job))) ≡ true) (numbers new)
    → firsts (ns ++ numbers (of_jobs (set xs j y))) ≡ firsts (ns ++ numbers (of_jobs xs))
numbers_more ns [] j y new there h known = absurd (omega (arith, there))
numbers_more ns (x ∷ xs) zero y new there h known =
    let old = ns ++ numbers (of_job x) in
    ap firsts (numbers_split ns y xs)
    ∙ firsts_behind (ns ++ numbers (of_job y)) old (numbers (of_jobs xs))
    (ap (λ l. firsts (ns ++ numbers l)) h
    ∙ ap (λ l. firsts (ns ++ l)) (map-append (λ (command : ℕ × Verb). command.0) (of_job x) new)
    ∙ ap firsts (sym (append_assoc ns (numbers (of_job x)) (numbers new)))
    ∙ firsts_more old (numbers new) (λ k d inside. any_right _ ns (numbers (of_job x)) (known k d inside)))
    ∙ ap firsts (sym (numbers_split ns x xs))
numbers_more ns (x ∷ xs) (suc j) y new there h known =
    ap firsts (numbers_split ns x (set xs j y))
    ∙ numbers_more (ns ++ numbers (of_job x)) xs j y new (omega (arith, there)) h known
    ∙ ap firsts (sym (numbers_split ns x xs))

any_numbers : (n : ℕ) (commands : List (ℕ × Verb)) → list_any (λ m. m == n) (numbers commands) ≡ any_on n commands
any_numbers n [] = refl
any_numbers n (c ∷ commands) = ap (λ b. (c.0 == n) || b) (any_numbers n commands)

known_numbers : (p : LabPlan) (j : ℕ) (session : SessionPlan) → are_its_own p j session.commands ≡ true
    → All (λ n. list_any (λ m. m == n) (numbers (of_job (job_at p j))) ≡ true) (numbers session.commands)
known_numbers p j session own k d inside =
    let d' : ℕ × Verb = (0, Read) in
    let within : k < length session.commands = omega (arith, inside, length-map session.commands (λ (command : ℕ × Verb). command.0)) in
    let read = get_or-map (λ (command : ℕ × Verb). command.0) session.commands k d' d within in
    let named = all_of (λ (command : ℕ × Verb). names p j command.0) (λ command. names p j command.0 ≡ true) (λ x t. t) session.commands own k d' within in
    subst (λ n. list_any (λ m. m == n) (numbers (of_job (job_at p j))) ≡ true) (sym read)
    (any_numbers _ (of_job (job_at p j)) ∙ any_command_is (λ (command : ℕ × Verb). command.0 == (get_or session.commands k d').0) (sessions p j) ∙ named)

-- ---- what a plan keeps

module _ (p : LabPlan) (j : ℕ) (session : SessionPlan) (there : j < length p.jobs) (may : IsGranted p j session) where
  abbrev longer : LabPlan
  longer = with_one_more p j session

  draft_more : IsDraft p → IsDraft longer
  draft_more draft = record {
    version = draft.version;
    few_jobs = omega (arith, many p j session there, draft.few_jobs);
    few_instruments = draft.few_instruments;
    few_sessions = each_job p j session there (λ (x : JobPlan). length x.sessions ≤ 1000) draft.few_sessions
        (omega (arith, length_push (sessions p j) session, may.few_sessions));
    few_commands = omega (
      arith,
      may.few_commands,
      length_more p.jobs j (with_session (job_at p j) session) session.commands there (commands_more (job_at p j) session),
    );
    job_names = λ k d inside. subst IsName (sym (name_same p j session there k d)) (draft.job_names k d (omega (arith, inside, many p j session there)));
    jobs_distinct = λ a b d first second.
        subst (λ (n : List ℕ). n ≢ (get_or longer.jobs b d).name) (sym (name_same p j session there a d))
        (subst (λ (n : List ℕ). (get_or p.jobs a d).name ≢ n) (sym (name_same p j session there b d))
        (draft.jobs_distinct a b d first (omega (arith, second, many p j session there))));
    instrument_names = draft.instrument_names;
    instruments_distinct = draft.instruments_distinct;
    named = λ k s. each_session p j session there (NamesBelow (length p.instruments)) (λ i d inside. absurd (omega (arith, inside)))
        (below p j session draft.named may.own) (each (NamesBelow (length p.instruments)) p draft.named) k (s - 1);
    in_order = numbers_more [] p.jobs j (with_session (job_at p j) session) session.commands there (commands_more (job_at p j) session)
        (known_numbers p j session may.own) ∙ draft.in_order;
    fit = λ k s. each_session p j session there FitsAll (λ i d inside. absurd (omega (arith, inside)))
        (fits session may.fit) (each FitsAll p draft.fit) k (s - 1);
    patient = λ k s. each_session p j session there (IsPatient p.version) (λ n e. cc)
        (is_patient p session may.patient) (each (IsPatient p.version) p draft.patient) k (s - 1);
  }

  -- the sessions of a job have commands
  abbrev Full : JobPlan → Type 0
  Full job = (s : ℕ) → 1 ≤ s → s ≤ length job.sessions → 0 < length (get_or job.sessions (s - 1) no_session).commands

  full_more : Full (job_at p j) → Full (with_session (job_at p j) session)
  full_more old s low high = elim (cases_lt (s - 1) (length (sessions p j))) [
    | inl inside ↦ subst (λ (x : SessionPlan). 0 < length x.commands) (sym (get_or_append_left (sessions p j) (session ∷ []) no_session (s - 1) inside))
        (old s low (omega (arith, low, inside)))
    | inr out ↦ subst (λ (x : SessionPlan). 0 < length x.commands)
        (sym (get_or_push (sessions p j) session no_session (s - 1) (omega (arith, low, out, high, length_push (sessions p j) session)))) may.some
  ]

  pub plan_more : IsPlan p → IsPlan longer
  plan_more plan = record {
    draft = draft_more plan.draft;
    not_empty = λ k. each_job p j session there Full plan.not_empty (full_more (plan.not_empty j)) k;
    few_bottles = λ e inside.
        let own = is_own p j session may.own in
        subst (λ (l : List ℕ). length l ≤ 28) (sym (same_bottles p j session there own e))
        (plan.few_bottles e (subst (λ (l : List (ℕ × ℕ)). e < length l) (same_edges p j session there own) inside));
  }

-- ---- what the tables keep

related_set : {X Y : Type 0} (R : X → Y → Type 0) (no_x : X) (no_y : Y) (xs : List X) (ys : List Y) (k : ℕ) (x : X) (y : Y) → k < length xs
    → R x y → Related R no_x no_y xs ys → Related R no_x no_y (set xs k x) (set ys k y)
related_set R no_x no_y xs ys k x y within one before = (
  length-set ys k y ∙ before.0 ∙ sym (length-set xs k x),
  λ m inside. elim (cases_eq m k) [
    | inl is ↦ subst (λ n. R (get_or (set xs k x) n no_x) (get_or (set ys k y) n no_y)) (sym is)
        (subst (λ a. R a (get_or (set ys k y) k no_y)) (sym (get_or-set_same xs k x no_x within))
        (subst (λ b. R x b) (sym (get_or-set_same ys k y no_y (omega (arith, within, before.0)))) one))
    | inr other ↦ subst (λ a. R a (get_or (set ys k y) m no_y)) (sym (get_or-set_other xs k m x no_x other))
        (subst (λ b. R (get_or xs m no_x) b) (sym (get_or-set_other ys k m y no_y other))
        (before.1 m (omega (arith, inside, length-set xs k x))))
  ],
)

related_push : {X Y : Type 0} (R : X → Y → Type 0) (no_x : X) (no_y : Y) (xs : List X) (ys : List Y) (x : X) (y : Y)
    → R x y → Related R no_x no_y xs ys → Related R no_x no_y (xs ++ x ∷ []) (ys ++ y ∷ [])
related_push R no_x no_y xs ys x y one before = (
  omega (arith, length_push xs x, length_push ys y, before.0),
  λ m inside. elim (cases_lt m (length xs)) [
    | inl early ↦ subst (λ a. R a (get_or (ys ++ y ∷ []) m no_y)) (sym (get_or_append_left xs (x ∷ []) no_x m early))
        (subst (λ b. R (get_or xs m no_x) b) (sym (get_or_append_left ys (y ∷ []) no_y m (omega (arith, early, before.0)))) (before.1 m early))
    | inr late ↦
        let last : length xs ≡ m = omega (arith, late, inside, length_push xs x) in
        subst (λ a. R a (get_or (ys ++ y ∷ []) m no_y)) (sym (get_or_push xs x no_x m last))
        (subst (λ b. R x b) (sym (get_or_push ys y no_y m (omega (arith, last, before.0)))) one)
  ],
)

table_more : (p : LabPlan) (j : ℕ) (session : SessionPlan) (needs : ℕ) (table : JobTable) → j < length p.jobs → IsOfItsOwn p j session
    → AreNeeds session.commands needs → IsJobTable (job_at p j) table → IsJobTable (with_session (job_at p j) session) (table_with needs session.commands table)
table_more p j session needs table there own are before = record {
  needs = related_push IsSessionNeeds no_session 0 (sessions p j) table.needs session needs are before.needs;
  places =
      ap (λ l. l ++ places_of session.commands) before.places
      ∙ ap (λ l. all_places (sessions p j) ++ l) (sym (append-nil (places_of session.commands)))
      ∙ sym (flat_map-append (λ (x : SessionPlan). places_of x.commands) (sessions p j) (session ∷ []));
  named = λ i. before.named i ∙ sym (more_names p j session there own i);
}

pub tables_more : (p : LabPlan) (j : ℕ) (session : SessionPlan) (needs : ℕ) (tables : PlanTables) → j < length p.jobs → IsOfItsOwn p j session
    → AreNeeds session.commands needs → AreTablesOf p tables → AreTablesOf (with_one_more p j session) (tables_with j needs session.commands tables)
tables_more p j session needs tables there own are before = record {
  pairs_are = before.pairs_are ∙ sym (same_edges p j session there own);
  bottles_are = before.bottles_are ∙ sym (same_lists p j session there own);
  job_tables_are = related_set IsJobTable no_job no_table p.jobs tables.job_tables j (with_session (job_at p j) session)
      (table_with needs session.commands (get_or tables.job_tables j no_table)) there
      (table_more p j session needs (get_or tables.job_tables j no_table) there own are (before.job_tables_are.1 j there)) before.job_tables_are;
}

-- with the places of the session, so many may be taken back
pub places_inside : (j needs : ℕ) (commands : List (ℕ × Verb)) (tables : PlanTables) → j < length tables.job_tables
    → length commands ≤ length (get_or (tables_with j needs commands tables).job_tables j no_table).places
places_inside j needs commands tables there =
    let old : JobTable = get_or tables.job_tables j no_table in
    let same = ap (λ (t : JobTable). length t.places) (get_or-set_same tables.job_tables j (table_with needs commands old) no_table there) in
    omega (arith, same, length-append old.places (places_of commands), length-map-range_with_len (place_of commands) 0 (length commands))

-- ---- taken back

table_back : (needs : ℕ) (commands : List (ℕ × Verb)) (table : JobTable) → table_without (length commands) (table_with needs commands table) ≡ table
table_back needs commands table =
    let long = length-map-range_with_len (place_of commands) 0 (length commands) in
    let first : take (length (table.needs ++ needs ∷ []) - 1) (table.needs ++ needs ∷ []) ≡ table.needs =
    take_at table.needs (needs ∷ []) (length (table.needs ++ needs ∷ []) - 1) (omega (arith, length_push table.needs needs)) in
    let second : take (length (table.places ++ places_of commands) - length commands) (table.places ++ places_of commands) ≡ table.places =
    take_at table.places (places_of commands) (length (table.places ++ places_of commands) - length commands)
    (omega (arith, length-append table.places (places_of commands), long)) in
    λ r. record table { needs = first r; places = second r }

pub tables_back : (j needs : ℕ) (commands : List (ℕ × Verb)) (tables : PlanTables) → j < length tables.job_tables
    → tables_without j (length commands) (tables_with j needs commands tables) ≡ tables
tables_back j needs commands tables there =
    let old : JobTable = get_or tables.job_tables j no_table in
    let longer : JobTable = table_with needs commands old in
    let list : set (set tables.job_tables j longer) j (table_without (length commands) (get_or (set tables.job_tables j longer) j no_table)) ≡ tables.job_tables =
    set-set tables.job_tables j longer _
    ∙ ap (λ (t : JobTable). set tables.job_tables j (table_without (length commands) t)) (get_or-set_same tables.job_tables j longer no_table there)
    ∙ ap (λ (t : JobTable). set tables.job_tables j t) (table_back needs commands old)
    ∙ set-get_or tables.job_tables j no_table in
    ap (λ (l : List JobTable). record tables { job_tables = l }) list

-- ---- the call that adds, with what it has of the tables and the draft

pub chosen : {X : Type 0} (ok : Bool) (a b new : X) → new ≡ (if ok then a else b) → ok ≡ true → new ≡ a
chosen true a b new h is = h
chosen false a b new h is = cc

pub left : {X : Type 0} (ok : Bool) (a b new : X) → new ≡ (if ok then a else b) → ok ≡ false → new ≡ b
left true a b new h is = cc
left false a b new h is = h

abbrev IsWhole : LabPlan → PlanTables → Type 0
IsWhole plan tables = record { is_plan : IsPlan plan; tables_are : AreTablesOf plan tables }

module _ (p : LabPlan) (j : ℕ) (session : SessionPlan) (tables : PlanTables) (there : j < length p.jobs) (whole : IsWhole p tables)
    (none : more_refusal p j session ≡ None) where
  may : IsGranted p j session
  may = granted p j session none

  pub inside : j < length tables.job_tables
  inside = let same = whole.tables_are.job_tables_are.0 in omega (arith, there, same)

  pub numbered : All (λ command. command.0 < 56) session.commands
  numbered k d within = let b = below p j session whole.is_plan.draft.named may.own k d within in
      omega (arith, b, whole.is_plan.draft.few_instruments)

  pub few : length session.commands ≤ 100000
  few = omega (arith, may.few_commands)

  pub whole_more : (needs : ℕ) → AreNeeds session.commands needs → (new : LabPlan) (now : PlanTables) → new ≡ with_one_more p j session
      → now ≡ tables_with j needs session.commands tables → IsWhole new now
  whole_more needs are new now new_is now_is =
      subst (λ (x : LabPlan). IsWhole x now) (sym new_is)
      (subst (λ (t : PlanTables). IsWhole (with_one_more p j session) t) (sym now_is) (record {
        is_plan = plan_more p j session there may whole.is_plan;
        tables_are = tables_more p j session needs tables there (is_own p j session may.own) are whole.tables_are;
      }))

  pub may_take_back : (needs : ℕ) (now : PlanTables) → now ≡ tables_with j needs session.commands tables
      → length session.commands ≤ length (get_or now.job_tables j no_table).places
  may_take_back needs now now_is =
      subst (λ (t : PlanTables). length session.commands ≤ length (get_or t.job_tables j no_table).places) (sym now_is)
      (places_inside j needs session.commands tables inside)

  pub whole_back : (needs : ℕ) (new : LabPlan) (now back : PlanTables) → new ≡ p → now ≡ tables_with j needs session.commands tables
      → back ≡ tables_without j (length session.commands) now → IsWhole new back
  whole_back needs new now back new_is now_is back_is =
      let same : back ≡ tables =
      back_is ∙ ap (tables_without j (length session.commands)) now_is ∙ tables_back j needs session.commands tables inside in
      subst (λ (x : LabPlan). IsWhole x back) (sym new_is) (subst (λ (t : PlanTables). IsWhole p t) (sym same) whole)
