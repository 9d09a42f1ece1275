-- Each line keeps what a draft keeps.
use Rattle.std.proofs.Common.{◌≡◌, ◌⊎◌, ℕ, zero, suc, ◌+◌, ◌-◌, ◌<◌, ◌≤◌, Bool, true, false, not, ◌||◌, ◌==◌, List, [], ◌∷◌, ◌++◌, length, map, get_or, refl, sym, ap, ◌∙◌, subst, arith, ⊎_elim, append-nil, if◌then◌else◌}
use Rattle.std.specs.Prelude.{Option, nat_lt, ◌≢◌}
use Rattle.std.specs.Option.{ForSome}
use Rattle.std.specs.List.{All, AllPairs, filter, list_any, range_with_len}
use Rattle.std.specs.Str.{bytes_eq}
use Rattle.std.proofs.lemmas.Bool.{cases_Bool, true≢false}
use Rattle.std.proofs.lemmas.Bool.Decides.{Decides-ltb, nat_tests}
use Rattle.std.proofs.lemmas.List.{length_push, map_push}
use Rattle.std.proofs.lemmas.List.Elements.{All-push, filter-append}
use Rattle.std.proofs.lemmas.List.Folds.{list_any_at}
use Rattle.std.proofs.lemmas.List.Quantifiers.{all_pairs_push}
use Rattle.std.proofs.lemmas.List.Sums.{prefix_len-le-length}
use Rattle.std.proofs.lemmas.Map.Views.{any-filter_same}
use Rattle.std.proofs.lemmas.Slice.Eq.{bytes_eq-Decides}
use Rattle.lab_plan.specs.declared.verb.Verb.{Verb}
use Rattle.lab_plan.specs.Names.{IsName}
use Rattle.lab_plan.specs.Verbs.{Fits}
use Rattle.lab_plan.specs.LabPlan.{SessionPlan, JobPlan, LabPlan, no_session, no_job, sessions, session_at, patience, all_commands, firsts}
use Rattle.lab_plan.specs.IsPlan.{IsDraft}
use Rattle.lab_plan.specs.Building.{empty_plan, on_last, with_job, and_session, with_session, and_command, in_last_session, with_command, instrument_number, is_instrument, is_job, is_past_limit, last_job, has_session}
use Rattle.lab_plan.proofs.Grown.{all_commands_with_job, all_commands_with_session, all_commands_with_command, commands_with_command, any_is, room}
use Rattle.lab_plan.proofs.Ranges.{range_push}

-- ---- one more element, and the last one changed

-- P holds at each place, and of what is read past the end
abbrev pub Everywhere : {X : Type 0} → (X → Type 0) → X → List X → Type 0
Everywhere P d xs = (k : ℕ) → P (get_or xs k d)

pub everywhere_push : {X : Type 0} (P : X → Type 0) (d : X) (xs : List X) (x : X) → Everywhere P d xs → P d → P x → Everywhere P d (xs ++ x ∷ [])
everywhere_push P d [] x h past new zero = new
everywhere_push P d [] x h past new (suc k) = past
everywhere_push P d (y ∷ xs) x h past new zero = h 0
everywhere_push P d (y ∷ xs) x h past new (suc k) = everywhere_push P d xs x (λ n. h (suc n)) past new k

everywhere_last : {X : Type 0} (P : X → Type 0) (d : X) (change : X → X) (xs : List X)
    → Everywhere P d xs → P (change (get_or xs (length xs - 1) d)) → Everywhere P d (on_last change xs)
everywhere_last P d change [] h new k = h k
everywhere_last P d change (x ∷ []) h new zero = new
everywhere_last P d change (x ∷ []) h new (suc k) = h (suc k)
everywhere_last P d change (x ∷ y ∷ xs) h new zero = h 0
everywhere_last P d change (x ∷ y ∷ xs) h new (suc k) =
    let less : length (x ∷ y ∷ xs) - 1 ≡ suc (length (y ∷ xs) - 1) = omega arith in
    everywhere_last P d change (y ∷ xs) (λ n. h (suc n)) (subst (λ n. P (change (get_or (x ∷ y ∷ xs) n d))) less new) k

everywhere_kept : {X : Type 0} (P : X → Type 0) (d : X) (change : X → X) (xs : List X)
    → Everywhere P d xs → ((x : X) → P x → P (change x)) → Everywhere P d (on_last change xs)
everywhere_kept P d change xs h keeps = everywhere_last P d change xs h (keeps _ (h (length xs - 1)))

-- what the change leaves alone
same_at : {X Y : Type 0} (f : X → Y) (change : X → X) → ((x : X) → f (change x) ≡ f x)
    → (xs : List X) (k : ℕ) (d : X) → f (get_or (on_last change xs) k d) ≡ f (get_or xs k d)
same_at f change same [] k d = refl
same_at f change same (x ∷ []) zero d = same x
same_at f change same (x ∷ []) (suc k) d = refl
same_at f change same (x ∷ y ∷ xs) zero d = refl
same_at f change same (x ∷ y ∷ xs) (suc k) d = same_at f change same (y ∷ xs) k d

pub same_length : {X : Type 0} (change : X → X) (xs : List X) → length (on_last change xs) ≡ length xs
same_length change [] = refl
same_length change (x ∷ []) = refl
same_length change (x ∷ y ∷ xs) = ap suc (same_length change (y ∷ xs))

all_kept : {X Y : Type 0} (f : X → Y) (P : Y → Type 0) (change : X → X) → ((x : X) → f (change x) ≡ f x)
    → (xs : List X) → All (λ x. P (f x)) xs → All (λ x. P (f x)) (on_last change xs)
all_kept f P change same xs h k d inside = subst P (sym (same_at f change same xs k d)) (h k d (omega (arith, inside, same_length change xs)))

pairs_kept : {X Y : Type 0} (f : X → Y) (R : Y → Y → Type 0) (change : X → X) → ((x : X) → f (change x) ≡ f x)
    → (xs : List X) → AllPairs (λ a b. R (f a) (f b)) xs → AllPairs (λ a b. R (f a) (f b)) (on_last change xs)
pairs_kept f R change same xs h i j d below inside =
    subst (λ a. R a (f (get_or (on_last change xs) j d))) (sym (same_at f change same xs i d))
    (subst (λ b. R (f (get_or xs i d)) b) (sym (same_at f change same xs j d)) (h i j d below (omega (arith, inside, same_length change xs))))

-- what passes no test differs from each that would
pub none_at : {X : Type 0} (p : X → Bool) (xs : List X) → list_any p xs ≡ false → (k : ℕ) (d : X) → k < length xs → p (get_or xs k d) ≡ false
none_at p xs none k d inside =
    ⊎_elim (λ is. absurd (true≢false (sym (list_any_at p xs k d inside is) ∙ none))) (λ is. is) (cases_Bool (p (get_or xs k d)))

differ : (a b : List ℕ) → bytes_eq a b ≡ false → b ≢ a
differ a b fails same = true≢false (sym ((bytes_eq-Decides a b).1 (sym same)) ∙ fails)

-- ---- the sessions of every job

abbrev pub EachSession : (SessionPlan → Type 0) → LabPlan → Type 0
EachSession P plan = (j k : ℕ) → P (get_or (sessions plan j) k no_session)

abbrev pub OfJob : (SessionPlan → Type 0) → JobPlan → Type 0
OfJob P job = Everywhere P no_session job.sessions

each_with_job : (P : SessionPlan → Type 0) (name : List ℕ) (plan : LabPlan) → P no_session → EachSession P plan → EachSession P (with_job name plan)
each_with_job P name plan none h = everywhere_push (OfJob P) no_job plan.jobs (record { name = name; sessions = [] }) h (λ k. none) (λ k. none)

each_with_session : (P : SessionPlan → Type 0) (patience : Option ℕ) (plan : LabPlan) → P no_session
    → P (record { patience = patience; commands = [] }) → EachSession P plan → EachSession P (with_session patience plan)
each_with_session P patience plan none new h =
    everywhere_kept (OfJob P) no_job (and_session patience) plan.jobs h
    (λ job each. everywhere_push P no_session job.sessions (record { patience = patience; commands = [] }) each none new)

each_with_command : (P : SessionPlan → Type 0) (name : List ℕ) (verb : Verb) (plan : LabPlan)
    → ((s : SessionPlan) → P s → P (and_command (instrument_number name plan) verb s)) → EachSession P plan → EachSession P (with_command name verb plan)
each_with_command P name verb plan keeps h =
    everywhere_kept (OfJob P) no_job (in_last_session (instrument_number name plan) verb) plan.jobs h
    (λ job each. everywhere_kept P no_session (and_command (instrument_number name plan) verb) job.sessions each keeps)

-- sessions are counted from 1
pub each : (P : SessionPlan → Type 0) (plan : LabPlan) → ((j s : ℕ) → P (session_at plan j s)) → EachSession P plan
each P plan h j k = let less : (k + 1) - 1 ≡ k = omega arith in subst (λ n. P (get_or (sessions plan j) n no_session)) less (h j (k + 1))

-- ---- the first of each number

gone : {X : Type 0} (p : X → Bool) (xs : List X) (x : X) → p x ≡ false → filter p (xs ++ x ∷ []) ≡ filter p xs
gone p xs x is = filter-append p xs (x ∷ []) ∙ rw is (append-nil _)

left : {X : Type 0} (p : X → Bool) (xs : List X) (x : X) → p x ≡ true → filter p (xs ++ x ∷ []) ≡ filter p xs ++ x ∷ []
left p xs x is = filter-append p xs (x ∷ []) ∙ rw is refl

pub firsts_push : (ns : List ℕ) (n : ℕ) → firsts (ns ++ n ∷ []) ≡ (if list_any (λ m. m == n) (firsts ns) then firsts ns else firsts ns ++ n ∷ [])
firsts_push [] n = refl
firsts_push (x ∷ ns) n =
    let p : ℕ → Bool = λ m. not (m == x) in
    let q : ℕ → Bool = λ m. m == n in
    ap (λ l. x ∷ filter p l) (firsts_push ns n) ∙ ⊎_elim
    (λ is.
    let out : p n ≡ false = grind (arith, nat_tests, is) in
    found x n (filter p) (firsts ns) (list_any q (firsts ns)) (list_any q (filter p (firsts ns))) is (gone p (firsts ns) n out))
    (λ is.
    let keeps : (m : ℕ) → q m ≡ true → p m ≡ true = λ m e. grind (arith, nat_tests, is, e) in
    let inside : p n ≡ true = keeps n (grind (arith, nat_tests)) in
    missed x n (filter p) (firsts ns) (list_any q (firsts ns)) (list_any q (filter p (firsts ns))) is
    (any-filter_same q p true keeps (firsts ns)) (left p (firsts ns) n inside))
    (cases_Bool (x == n))
  where
    found : (x n : ℕ) (f : List ℕ → List ℕ) (ns : List ℕ) (a b : Bool) → (x == n) ≡ true → f (ns ++ n ∷ []) ≡ f ns
        → x ∷ f (if a then ns else ns ++ n ∷ []) ≡ (if (x == n) || b then x ∷ f ns else (x ∷ f ns) ++ n ∷ [])
    found x n f ns true b is out = rw is refl
    found x n f ns false b is out = rw is (ap (λ l. x ∷ l) out)

    missed : (x n : ℕ) (f : List ℕ → List ℕ) (ns : List ℕ) (a b : Bool) → (x == n) ≡ false → b ≡ a → f (ns ++ n ∷ []) ≡ f ns ++ n ∷ []
        → x ∷ f (if a then ns else ns ++ n ∷ []) ≡ (if (x == n) || b then x ∷ f ns else (x ∷ f ns) ++ n ∷ [])
    missed x n f ns true b is same more = rw (is, same) refl
    missed x n f ns false b is same more = rw (is, same) (ap (λ l. x ∷ l) more)

any_range : (a k n : ℕ) → a ≤ n → n < a + k → list_any (λ m. m == n) (range_with_len a k) ≡ true
any_range a zero n low high = absurd (omega (arith, low, high))
any_range a (suc k) n low high =
    ⊎_elim (λ is. rw is refl) (λ is. rw is (any_range (a + 1) k n (grind (arith, nat_tests, is, low)) (omega (arith, high)))) (cases_Bool (a == n))

none_range : (a k n : ℕ) → a + k ≤ n → list_any (λ m. m == n) (range_with_len a k) ≡ false
none_range a zero n high = refl
none_range a (suc k) n high = let is : (a == n) ≡ false = grind (arith, nat_tests, high) in rw is (none_range (a + 1) k n (omega (arith, high)))

-- ---- each line keeps a draft

pub draft_empty : (version : ℕ) → (version ≡ 1) ⊎ (version ≡ 2) → IsDraft (empty_plan version)
draft_empty version is = record {
  version = is;
  few_jobs = omega arith;
  few_instruments = omega arith;
  few_sessions = λ j. omega arith;
  few_commands = omega arith;
  job_names = λ k d inside. absurd (omega (arith, inside));
  jobs_distinct = λ i j d below inside. absurd (omega (arith, inside));
  instrument_names = λ k d inside. absurd (omega (arith, inside));
  instruments_distinct = λ i j d below inside. absurd (omega (arith, inside));
  named = λ j s k d inside. absurd (omega (arith, inside));
  in_order = refl;
  fit = λ j s k d inside. absurd (omega (arith, inside));
  patient = λ j s n e. cc;
}

-- the commands are on the first n instruments; their numbers fit; the patience is one of the version
abbrev pub NamesBelow : ℕ → SessionPlan → Type 0
NamesBelow n session = All (λ command. command.0 < n) session.commands

abbrev pub FitsAll : SessionPlan → Type 0
FitsAll session = All (λ command. Fits command.1) session.commands

abbrev pub IsPatient : ℕ → SessionPlan → Type 0
IsPatient version session = ForSome session.patience (λ n. (version ≡ 2) × (n ≤ 999999))

abbrev bare_job : List ℕ → JobPlan
bare_job name = record { name = name; sessions = [] }

pub draft_with_job : (name : List ℕ) (plan : LabPlan) → IsDraft plan → IsName name
    → is_job name plan ≡ false → length plan.jobs < 32 → IsDraft (with_job name plan)
draft_with_job name plan draft good new few = record {
  version = draft.version;
  few_jobs = omega (arith, length_push plan.jobs (bare_job name), few);
  few_instruments = draft.few_instruments;
  few_sessions = everywhere_push (λ (j : JobPlan). length j.sessions ≤ 1000) no_job plan.jobs (bare_job name) draft.few_sessions (omega arith) (omega arith);
  few_commands = omega (arith, ap length (all_commands_with_job name plan), draft.few_commands);
  job_names = All-push (λ (j : JobPlan). IsName j.name) plan.jobs (bare_job name) draft.job_names good;
  jobs_distinct = all_pairs_push (λ (a : JobPlan) (b : JobPlan). a.name ≢ b.name) plan.jobs (bare_job name) draft.jobs_distinct
      (λ k d inside. differ name _ (none_at (λ (j : JobPlan). bytes_eq name j.name) plan.jobs new k d inside));
  instrument_names = draft.instrument_names;
  instruments_distinct = draft.instruments_distinct;
  named = λ j s. each_with_job (NamesBelow (length plan.instruments)) name plan
      (λ k d inside. absurd (omega (arith, inside))) (each (NamesBelow (length plan.instruments)) plan draft.named) j (s - 1);
  in_order = ap (λ all. firsts (map (λ command. command.0) all)) (all_commands_with_job name plan) ∙ draft.in_order;
  fit = λ j s. each_with_job FitsAll name plan (λ k d inside. absurd (omega (arith, inside))) (each FitsAll plan draft.fit) j (s - 1);
  patient = λ j s. each_with_job (IsPatient plan.version) name plan (λ n e. cc) (each (IsPatient plan.version) plan draft.patient) j (s - 1);
}

pub draft_with_session : (patience : Option ℕ) (plan : LabPlan) → IsDraft plan → 0 < length plan.jobs
    → length (last_job plan).sessions < 1000 → ForSome patience (λ n. (plan.version ≡ 2) × (n ≤ 999999)) → IsDraft (with_session patience plan)
draft_with_session patience plan draft some few patient = record {
  version = draft.version;
  few_jobs = omega (arith, same_length (and_session patience) plan.jobs, draft.few_jobs);
  few_instruments = draft.few_instruments;
  few_sessions = everywhere_last (λ (j : JobPlan). length j.sessions ≤ 1000) no_job (and_session patience) plan.jobs draft.few_sessions
      (omega (arith, few, length_push (last_job plan).sessions (record { patience = patience; commands = [] })));
  few_commands = omega (arith, ap length (all_commands_with_session patience plan some), draft.few_commands);
  job_names = all_kept (λ (j : JobPlan). j.name) IsName (and_session patience) (λ j. refl) plan.jobs draft.job_names;
  jobs_distinct = pairs_kept (λ (j : JobPlan). j.name) (λ a b. a ≢ b) (and_session patience) (λ j. refl) plan.jobs draft.jobs_distinct;
  instrument_names = draft.instrument_names;
  instruments_distinct = draft.instruments_distinct;
  named = λ j s. each_with_session (NamesBelow (length plan.instruments)) patience plan (λ k d inside. absurd (omega (arith, inside)))
      (λ k d inside. absurd (omega (arith, inside))) (each (NamesBelow (length plan.instruments)) plan draft.named) j (s - 1);
  in_order = ap (λ all. firsts (map (λ command. command.0) all)) (all_commands_with_session patience plan some) ∙ draft.in_order;
  fit = λ j s. each_with_session FitsAll patience plan (λ k d inside. absurd (omega (arith, inside)))
      (λ k d inside. absurd (omega (arith, inside))) (each FitsAll plan draft.fit) j (s - 1);
  patient = λ j s. each_with_session (IsPatient plan.version) patience plan (λ n e. cc) patient (each (IsPatient plan.version) plan draft.patient) j (s - 1);
}

-- the names of the instruments with one more, where it is new
abbrev and_name : List ℕ → List (List ℕ) → List (List ℕ)
and_name name all = if list_any (bytes_eq name) all then all else all ++ name ∷ []

names_kept : (name : List ℕ) (all : List (List ℕ)) → IsName name → All IsName all → All IsName (and_name name all)
names_kept name all good h = ⊎_elim (λ is. rw is h) (λ is. rw is (All-push IsName all name h good)) (cases_Bool (list_any (bytes_eq name) all))

distinct_kept : (name : List ℕ) (all : List (List ℕ)) → AllPairs (λ a b. a ≢ b) all → AllPairs (λ a b. a ≢ b) (and_name name all)
distinct_kept name all h =
    ⊎_elim (λ is. rw is h) (λ is. rw is (all_pairs_push (λ a b. a ≢ b) all name h (λ k d inside. differ name _ (none_at (bytes_eq name) all is k d inside))))
    (cases_Bool (list_any (bytes_eq name) all))

-- the number of a name is one of the plan's, once the name is there
number_old : (name : List ℕ) (plan : LabPlan) → is_instrument name plan ≡ true → instrument_number name plan < length plan.instruments
number_old name plan is = (Decides-ltb (instrument_number name plan) (length plan.instruments)).0 (sym (any_is (bytes_eq name) plan.instruments) ∙ is)

number_new : (name : List ℕ) (plan : LabPlan) → is_instrument name plan ≡ false → instrument_number name plan ≡ length plan.instruments
number_new name plan is =
    let test : nat_lt (instrument_number name plan) (length plan.instruments) ≡ false = sym (any_is (bytes_eq name) plan.instruments) ∙ is in
    let most : instrument_number name plan ≤ length plan.instruments = prefix_len-le-length _ plan.instruments in
    grind (arith, nat_tests, test, most)

number_there : (name : List ℕ) (verb : Verb) (plan : LabPlan) → (instrument_number name plan < length (with_command name verb plan).instruments)
    × (length plan.instruments ≤ length (with_command name verb plan).instruments)
number_there name verb plan =
    ⊎_elim
    (λ is. rw is (number_old name plan is, omega arith))
    (λ is. rw is (omega (arith, number_new name plan is, length_push plan.instruments name), omega (arith, length_push plan.instruments name)))
    (cases_Bool (is_instrument name plan))

in_order_with_command : (name : List ℕ) (verb : Verb) (plan : LabPlan) → has_session plan ≡ true
    → firsts (map (λ (command : ℕ × Verb). command.0) (all_commands plan)) ≡ range_with_len 0 (length plan.instruments)
    → firsts (map (λ (command : ℕ × Verb). command.0) (all_commands (with_command name verb plan)))
    ≡ range_with_len 0 (length (with_command name verb plan).instruments)
in_order_with_command name verb plan some h =
    let i = instrument_number name plan in
    let n = length plan.instruments in
    let number : ℕ × Verb → ℕ = λ command. command.0 in
    ap (λ all. firsts (map number all)) (all_commands_with_command name verb plan some)
    ∙ ap firsts (map_push number (all_commands plan) (i, verb))
    ∙ firsts_push (map number (all_commands plan)) i
    ∙ ap (λ l. if list_any (λ m. m == i) l then l else l ++ i ∷ []) h
    ∙ ⊎_elim
    (λ is. rw (is, any_range 0 n i (omega arith) (omega (arith, number_old name plan is))) refl)
    (λ is.
    let new : i ≡ n = number_new name plan is in
    let more : length (plan.instruments ++ name ∷ []) ≡ suc n = omega (arith, length_push plan.instruments name) in
    let next : 0 + n ≡ i = omega (arith, new) in
    rw (is, none_range 0 n i (omega (arith, new)), more) (ap (λ m. range_with_len 0 n ++ m ∷ []) (sym next) ∙ sym (range_push 0 n)))
    (cases_Bool (is_instrument name plan))

pub draft_with_command : (name : List ℕ) (verb : Verb) (plan : LabPlan) → IsDraft plan → has_session plan ≡ true
    → IsName name → Fits verb → is_past_limit name plan ≡ false → IsDraft (with_command name verb plan)
draft_with_command name verb plan draft some good fits within =
    let i = instrument_number name plan in
    let m = length (with_command name verb plan).instruments in
    record {
      version = draft.version;
      few_jobs = omega (arith, same_length (in_last_session i verb) plan.jobs, draft.few_jobs);
      few_instruments = (room name verb plan draft.few_instruments within).1;
      few_sessions = everywhere_kept (λ (j : JobPlan). length j.sessions ≤ 1000) no_job
          (in_last_session i verb) plan.jobs draft.few_sessions (λ j h. omega (arith, h, same_length (and_command i verb) j.sessions));
      few_commands = omega (arith, commands_with_command name verb plan some, (room name verb plan draft.few_instruments within).0);
      job_names = all_kept (λ (j : JobPlan). j.name) IsName (in_last_session i verb) (λ j. refl) plan.jobs draft.job_names;
      jobs_distinct = pairs_kept (λ (j : JobPlan). j.name) (λ a b. a ≢ b) (in_last_session i verb) (λ j. refl) plan.jobs draft.jobs_distinct;
      instrument_names = names_kept name plan.instruments good draft.instrument_names;
      instruments_distinct = distinct_kept name plan.instruments draft.instruments_distinct;
      named = λ j s. each_with_command (NamesBelow m) name verb plan
          (λ session h. All-push (λ (command : ℕ × Verb). command.0 < m) session.commands (i, verb) h (number_there name verb plan).0)
          (each (NamesBelow m) plan (λ a b k d inside. omega (arith, draft.named a b k d inside, (number_there name verb plan).1))) j (s - 1);
      in_order = in_order_with_command name verb plan some draft.in_order;
      fit = λ j s. each_with_command FitsAll name verb plan
          (λ session h. All-push (λ (command : ℕ × Verb). Fits command.1) session.commands (i, verb) h fits) (each FitsAll plan draft.fit) j (s - 1);
      patient = λ j s. each_with_command (IsPatient plan.version) name verb plan (λ session h. h) (each (IsPatient plan.version) plan draft.patient) j (s - 1);
    }
