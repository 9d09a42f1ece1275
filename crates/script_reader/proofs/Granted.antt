-- The sessions that a text has for a job are taken by the plan, one behind the other.
use Rattle.std.proofs.Common.{◌≡◌, ◌≢◌, ◌⊎◌, ℕ, zero, suc, ◌+◌, ◌-◌, ◌*◌, ◌<◌, ◌≤◌, Bool, true, false, ◌&&◌, ◌||◌, ◌==◌, List, [], ◌∷◌, ◌++◌, length, get_or, set, arith, refl, sym, ap, ◌∙◌, subst, inl, inr, length-append, append-nil, get_or-set_same, length-set}
use Rattle.std.specs.Prelude.{Option, None, Some, Ok, Err, Result, not, nat_le, nat_lt}
use Rattle.std.specs.List.{All, list_all}
use Rattle.std.proofs.lemmas.Bool.{cases_lt, leb-true, true≢false, agree_below_at}
use Rattle.std.proofs.lemmas.Bool.Decides.{nat_tests}
use Rattle.std.proofs.lemmas.List.{length_push, get_or_append_left, get_or_default}
use Rattle.std.proofs.lemmas.List.Concat.{length-flat_map, flat_map-append}
use Rattle.std.proofs.lemmas.List.Elements.{All-push, All-head, All-tail}
use Rattle.std.proofs.lemmas.List.Folds.{list_all-append}
use Rattle.std.proofs.lemmas.List.Sums.{sum_by-set}
use Rattle.lab_plan.specs.declared.verb.Verb.{Verb}
use Rattle.lab_plan.specs.Names.{is_digit, is_name}
use Rattle.lab_plan.specs.LabPlan.{LabPlan, SessionPlan, JobPlan, no_job, no_session, job_at, sessions, names, all_commands}
use Rattle.lab_plan.specs.Verbs as verbs
use Rattle.lab_plan.specs.Building.{on_last, and_command, is_instrument, instrument_number}
use Rattle.lab_plan.specs.Cuts.{commands_of}
use Rattle.lab_plan.specs.Longer.{session_of, with_session, with_one_more, are_its_own, may_be_patient, all_fit}
use Rattle.lab_plan.proofs.OneMore.{is_own, names_same}
use Rattle.lab_plan.specs.IsPlan.{IsPlan}
use Rattle.script_reader.specs.declared.fault.ScriptFault.{ScriptFault}
use Rattle.script_reader.specs.declared.fault.ScriptCause.{ScriptCause}
use Rattle.script_reader.specs.declared.fault.ScriptCause.TheVariants as causes
use Rattle.script_reader.specs.Line.{Line, Header, Job, Session, PatientSession, Command, End, Steps, Unknown, VerbText, Sets, Adds, Reads, form_of, verb_number}
use Rattle.script_reader.specs.Number.{value_after, number_of, is_number}
use Rattle.script_reader.specs.Plan.{verb_of}
use Rattle.script_reader.specs.Script.{has, text_lines}
use Rattle.script_reader.specs.State.{at}
use Rattle.script_reader.specs.More.{SessionsSoFar, no_sessions, with_begun, with_more, more_after, has_all_sessions, has_all_commands, is_its_own, is_last_empty, more_cause, more_end_cause, fault_or, more_in, sessions_in, AreGranted}
use Rattle.script_reader.proofs.FurtherLines.{commands_more}
use Rattle.script_reader.proofs.OnLast.{same_length}

-- ---- what is known of sessions that the plan takes

pub record IsTaken (p : LabPlan) (j : ℕ) (session : SessionPlan) : Type 0 where
  pub own : are_its_own p j session.commands ≡ true
  pub patient : may_be_patient p session.patience ≡ true
  pub fit : all_fit session.commands ≡ true

pub record AreTaken (p : LabPlan) (j : ℕ) (further : List SessionPlan) : Type 0 where
  pub some : All (λ (s : SessionPlan). 0 < length s.commands) further
  pub each : All (IsTaken p j) further
  pub few_sessions : length (sessions p j) + length further ≤ 1000
  pub few_commands : length (all_commands p) + length (commands_of further) ≤ 100000

all_own : (p q : LabPlan) (j : ℕ) → ((i : ℕ) → names q j i ≡ names p j i) → (commands : List (ℕ × Verb)) → are_its_own q j commands ≡ are_its_own p j commands
all_own p q j same [] = refl
all_own p q j same (c ∷ commands) = λ r. same c.0 r && all_own p q j same commands r

-- one more session of a job adds its commands
length_more : (p : LabPlan) (j : ℕ) (session : SessionPlan) → j < length p.jobs
    → length (all_commands (with_one_more p j session)) ≡ length (all_commands p) + length session.commands
length_more p j session there =
    let f : JobPlan → List (ℕ × Verb) = λ job. commands_of job.sessions in
    let g : JobPlan → ℕ = λ job. length (f job) in
    let y = with_session (job_at p j) session in
    let own : g y ≡ g (job_at p j) + length session.commands =
    ap (λ l. length l) (flat_map-append (λ (x : SessionPlan). x.commands) (sessions p j) (session ∷ []))
    ∙ length-append (f (job_at p j)) (commands_of (session ∷ [])) ∙ ap (λ l. length (f (job_at p j)) + length l) (append-nil session.commands) in
    omega (arith, own, sum_by-set g p.jobs j y no_job there, length-flat_map f p.jobs, length-flat_map f (set p.jobs j y))

few_enough : (have more n : ℕ) → have + more ≤ 100000 → n < 1000 → (nat_le 1000 n || nat_lt 100000 (have + more)) ≡ false
few_enough have more n few less = grind (arith, nat_tests, few, less)

not_none : (n : ℕ) → 0 < n → (n == 0) ≡ false
not_none n some = grind (arith, nat_tests, some)

pub granted_all : (p : LabPlan) (j : ℕ) (further : List SessionPlan) → j < length p.jobs → AreTaken p j further → AreGranted p j further
granted_all p j [] there h = tt
granted_all p j (s ∷ further) there h =
    let P : SessionPlan → Type 0 = λ x. 0 < length x.commands in
    let first = All-head (IsTaken p j) s further h.each in
    let some : 0 < length s.commands = All-head P s further h.some in
    let q : LabPlan = with_one_more p j s in
    let split = length-append s.commands (commands_of further) in
    let less : length (sessions p j) < 1000 = (let f = h.few_sessions in omega (arith, f)) in
    let room : length (all_commands p) + length s.commands ≤ 100000 = (let f = h.few_commands in omega (arith, f, split)) in
    let same = names_same p j s there (is_own p j s first.own) in
    let rest : (x : SessionPlan) → IsTaken p j x → IsTaken q j x =
    λ x t. record { own = all_own p q j (same j) x.commands ∙ t.own; patient = t.patient; fit = t.fit } in
    let now : length (sessions q j) ≡ length (sessions p j) + 1 =
    ap (λ (x : JobPlan). length x.sessions) (get_or-set_same p.jobs j (with_session (job_at p j) s) no_job there) ∙ length_push (sessions p j) s in (
      rw (
        not_none (length s.commands) some,
        few_enough (length (all_commands p)) (length s.commands) (length (sessions p j)) room less,
        first.own,
        first.patient,
        first.fit,
      ) refl,
      granted_all q j further (omega (arith, there, length-set p.jobs j (with_session (job_at p j) s))) (record {
        some = All-tail P s further h.some;
        each = λ k d inside. rest (get_or further k d) (All-tail (IsTaken p j) s further h.each k d inside);
        few_sessions = (let f = h.few_sessions in omega (arith, f, now));
        few_commands = (let f = h.few_commands in omega (arith, f, split, length_more p j s there));
      }),
    )

-- ---- numbers of at most six digits

both_are : (a b : Bool) → (a && b) ≡ true → (a ≡ true) × (b ≡ true)
both_are true b h = (refl, h)
both_are false b h = cc

nines : ℕ → ℕ → ℕ
nines m zero = m
nines m (suc k) = nines (10 * m + 9) k

digit_small : (b : ℕ) → is_digit b ≡ true → b - 48 ≤ 9
digit_small b e = let high = leb-true b 57 (both_are (nat_le 48 b) (nat_le b 57) e).1 in omega (arith, high)

value_small : (xs : List ℕ) (n m : ℕ) → list_all is_digit xs ≡ true → n ≤ m → value_after n xs ≤ nines m (length xs)
unfolding nines
value_small [] n m digits less = less
value_small (x ∷ xs) n m digits less =
    let both = both_are (is_digit x) (list_all is_digit xs) digits in
    let small = digit_small x both.0 in
    value_small xs (10 * n + (x - 48)) (10 * m + 9) both.1 (omega (arith, small, less))

six_nines : (k : ℕ) → k ≤ 6 → nines 0 k ≤ 999999
unfolding nines
six_nines k few = leb-true (nines 0 k) 999999 (agree_below_at (λ n. nat_le (nines 0 n) 999999) (λ n. true) 7 k refl (omega (arith, few)))

pub number_small : (bytes : List ℕ) → is_number bytes ≡ true → number_of bytes ≤ 999999
number_small bytes h =
    let front : ((nat_le 1 (length bytes) && nat_le (length bytes) 6) && list_all is_digit bytes) ≡ true = (both_are _ _ h).0 in
    let digits : list_all is_digit bytes ≡ true = (both_are _ _ front).1 in
    let long : nat_le (length bytes) 6 ≡ true = (both_are _ _ (both_are _ _ front).0).1 in
    let value = value_small bytes 0 0 digits (omega arith) in
    let most = six_nines (length bytes) (leb-true (length bytes) 6 long) in
    omega (arith, value, most)

number_le : (n : ℕ) → n ≤ 999999 → nat_le n 999999 ≡ true
number_le n small = grind (arith, nat_tests, small)

-- ---- what is known behind each line

pub record AreTakenSoFar (p : LabPlan) (j : ℕ) (s : SessionsSoFar) : Type 0 where
  pub closed : (k : ℕ) → k < length s.sessions
      → (0 < length (get_or s.sessions k no_session).commands) ⊎ ((s.in_session ≡ true) × (k + 1 ≡ length s.sessions))
  pub each : All (IsTaken p j) s.sessions
  pub few_sessions : length (sessions p j) + length s.sessions ≤ 1000
  pub few_commands : length (all_commands p) + length (commands_of s.sessions) ≤ 100000
  pub begun : s.in_session ≡ true → 0 < length s.sessions

none_yet : (p : LabPlan) (j : ℕ) → IsPlan p → AreTakenSoFar p j no_sessions
none_yet p j plan = record {
  closed = λ k inside. absurd (omega (arith, inside));
  each = λ k d inside. absurd (omega (arith, inside));
  few_sessions = let few = plan.draft.few_sessions j in omega (arith, few);
  few_commands = let few = plan.draft.few_commands in omega (arith, few);
  begun = λ e. cc;
}

not_at : (test : Bool) (cause : ScriptCause) (rest : Option ScriptCause) → at test cause rest ≡ None → (test ≡ false) × (rest ≡ None)
not_at true cause rest h = cc
not_at false cause rest h = (refl, h)

is_so : (b : Bool) → not b ≡ false → b ≡ true
is_so true h = refl
is_so false h = cc

-- a change of the last keeps what it keeps of each
kept_at : {X : Type 0} (P : X → Type 0) (change : X → X) → ((x : X) → P x → P (change x)) → (xs : List X) (k : ℕ) (d : X)
    → P (get_or xs k d) → P (get_or (on_last change xs) k d)
kept_at P change keeps [] k d h = h
kept_at P change keeps (x ∷ []) zero d h = keeps x h
kept_at P change keeps (x ∷ []) (suc k) d h = h
kept_at P change keeps (x ∷ y ∷ xs) zero d h = h
kept_at P change keeps (x ∷ y ∷ xs) (suc k) d h = kept_at P change keeps (y ∷ xs) k d h

module _ (p : LabPlan) (j : ℕ) (s : SessionsSoFar) (h : AreTakenSoFar p j s) where
  with_session_begun : (patience : Option ℕ) → s.in_session ≡ false → has_all_sessions p j s ≡ false → may_be_patient p patience ≡ true
      → AreTakenSoFar p j (with_begun patience s)
  with_session_begun patience out few patient =
      let new = session_of patience [] in
      let long = length_push s.sessions new in
      let none : length (commands_of (s.sessions ++ new ∷ [])) ≡ length (commands_of s.sessions) =
      ap (λ l. length l) (flat_map-append (λ (x : SessionPlan). x.commands) s.sessions (new ∷ []) ∙ append-nil (commands_of s.sessions)) in
      record {
        closed = λ k inside. elim (cases_lt k (length s.sessions)) [
          | inl early ↦ elim (h.closed k early) [
            | inl some ↦ inl (subst (λ (x : SessionPlan). 0 < length x.commands) (sym (get_or_append_left s.sessions (new ∷ []) no_session k early)) some)
            | inr last ↦ absurd (true≢false (sym last.0 ∙ out))
          ]
          | inr late ↦ inr (refl, omega (arith, late, inside, long))
        ];
        each = All-push (IsTaken p j) s.sessions new h.each (record { own = refl; patient = patient; fit = refl });
        few_sessions = (let less : length (sessions p j) + length s.sessions < 1000 = grind (arith, nat_tests, few) in omega (arith, less, long));
        few_commands = (let few = h.few_commands in omega (arith, few, none));
        begun = λ e. omega (arith, long);
      }

  with_one_command : (i : ℕ) (verb : Verb) → s.in_session ≡ true → has_all_commands p s ≡ false → names p j i ≡ true
      → nat_le (verbs.verb_number verb) 999999 ≡ true → AreTakenSoFar p j (with_more i verb s)
  with_one_command i verb is_open few own fit =
      let change = and_command i verb in
      let long = same_length change s.sessions in
      let one = commands_more i verb s.sessions (h.begun is_open) in
      let keeps : (x : SessionPlan) → IsTaken p j x → IsTaken p j (change x) = λ x t. record {
        own = list_all-append (λ (command : ℕ × Verb). names p j command.0) x.commands ((i, verb) ∷ []) ∙ rw (t.own, own) refl;
        patient = t.patient;
        fit = list_all-append (λ (command : ℕ × Verb). nat_le (verbs.verb_number command.1) 999999) x.commands ((i, verb) ∷ []) ∙ rw (t.fit, fit) refl;
      } in
      record {
        closed = λ k inside. elim (h.closed k (omega (arith, inside, long))) [
          | inl some ↦ inl (kept_at (λ (x : SessionPlan). 0 < length x.commands) change
              (λ x t. omega (arith, length_push x.commands (i, verb))) s.sessions k no_session some)
          | inr last ↦ inr (is_open, last.1 ∙ sym long)
        ];
        each = λ k d inside. kept_at (IsTaken p j) change keeps s.sessions k d (h.each k d (omega (arith, inside, long)));
        few_sessions = (let few = h.few_sessions in omega (arith, few, long));
        few_commands = (let less : length (all_commands p) + length (commands_of s.sessions) < 100000 = grind (arith, nat_tests, few) in omega (arith, less, one));
        begun = λ e. (let some = h.begun is_open in omega (arith, some, long));
      }

  with_end : s.in_session ≡ true → is_last_empty s ≡ false → AreTakenSoFar p j (record s { in_session = false })
  with_end is_open full = record {
    closed = λ k inside. elim (h.closed k inside) [
      | inl some ↦ inl some
      | inr last ↦
          let there : length s.sessions - 1 ≡ k = (let e = last.1 in omega (arith, e)) in
          let some : 0 < length (get_or s.sessions (length s.sessions - 1) no_session).commands = grind (arith, nat_tests, full) in
          inl (subst (λ n. 0 < length (get_or s.sessions n no_session).commands) there some)
    ];
    each = h.each;
    few_sessions = h.few_sessions;
    few_commands = h.few_commands;
    begun = λ e. cc;
  }

verb_fits : (verb : VerbText) → has (λ number. not (is_number number)) (verb_number verb) ≡ false → nat_le (verbs.verb_number (verb_of verb)) 999999 ≡ true
verb_fits (Sets number) h = number_le (number_of number) (number_small number (is_so _ h))
verb_fits (Adds number) h = number_le (number_of number) (number_small number (is_so _ h))
verb_fits Reads h = refl

taken_on : (p : LabPlan) (j : ℕ) (s : SessionsSoFar) (line : Option Line) → AreTakenSoFar p j s → more_cause p j s line ≡ None
    → AreTakenSoFar p j (more_after p s line)
taken_on p j s None h none = h
taken_on p j s (Some Session) h none =
    let one = not_at s.in_session causes.SessionNotClosed _ none in
    let two = not_at (has_all_sessions p j s) causes.LimitPassed None one.1 in
    with_session_begun p j s h None one.0 two.0 refl
taken_on p j s (Some (PatientSession number)) h none =
    let one = not_at (not (p.version == 2)) causes.UnknownWord _ none in
    let two = not_at s.in_session causes.SessionNotClosed _ one.1 in
    let three = not_at (not (is_number number)) causes.BadNumber _ two.1 in
    let four = not_at (has_all_sessions p j s) causes.LimitPassed None three.1 in
    with_session_begun p j s h (Some (number_of number)) two.0 four.0
    (rw (is_so _ one.0, number_le (number_of number) (number_small number (is_so _ three.0))) refl)
taken_on p j s (Some (Command name verb)) h none =
    let one = not_at (not s.in_session) causes.NotInSession _ none in
    let two = not_at (not (is_name name)) causes.BadName _ one.1 in
    let three = not_at (has (λ number. not (is_number number)) (verb_number verb)) causes.BadNumber _ two.1 in
    let four = not_at (has_all_commands p s) causes.LimitPassed _ three.1 in
    let five = not_at (not (is_its_own p j name)) causes.NotItsOwn None four.1 in
    let own = both_are (is_instrument name p) (names p j (instrument_number name p)) (is_so _ five.0) in
    with_one_command p j s h (instrument_number name p) (verb_of verb) (is_so _ one.0) four.0 own.1 (verb_fits verb three.0)
taken_on p j s (Some End) h none =
    let one = not_at (not s.in_session) causes.NotInSession _ none in
    let two = not_at (is_last_empty s) causes.EmptySession None one.1 in
    with_end p j s h (is_so _ one.0) two.0
taken_on p j s (Some (Header version)) h none = cc
taken_on p j s (Some (Job name)) h none = cc
taken_on p j s (Some Steps) h none = cc
taken_on p j s (Some Unknown) h none = cc

-- ---- what a text gives

no_fault_or : {X : Type 0} (o : Option ScriptCause) (n : ℕ) (rest : Result X ScriptFault) (x : X) → fault_or o n rest ≡ Ok x → (o ≡ None) × (rest ≡ Ok x)
no_fault_or None n rest x h = (refl, h)
no_fault_or (Some cause) n rest x h = cc

what_is_ok : Result (List SessionPlan) ScriptFault → List SessionPlan
what_is_ok (Ok further) = further
what_is_ok (Err fault) = []

taken_at_end : (p : LabPlan) (j : ℕ) (s : SessionsSoFar) → AreTakenSoFar p j s → s.in_session ≡ false → AreTaken p j s.sessions
taken_at_end p j s h out = record {
  some = λ k d inside. elim (h.closed k inside) [
    | inl some ↦ subst (λ (x : SessionPlan). 0 < length x.commands) (get_or_default s.sessions k no_session d inside) some
    | inr last ↦ absurd (true≢false (sym last.0 ∙ out))
  ];
  each = h.each;
  few_sessions = h.few_sessions;
  few_commands = h.few_commands;
}

taken_in : (p : LabPlan) (j n : ℕ) (s : SessionsSoFar) (lines : List (List ℕ)) (further : List SessionPlan) → AreTakenSoFar p j s
    → more_in p j n s lines ≡ Ok further → AreTaken p j further
unfolding what_is_ok
taken_in p j n s [] further h given =
    let done = no_fault_or (more_end_cause s) n (Ok s.sessions) further given in
    let out = not_at s.in_session causes.SessionNotClosed _ done.0 in
    subst (AreTaken p j) (ap what_is_ok done.1) (taken_at_end p j s h out.0)
taken_in p j n s (line ∷ lines) further h given =
    let done = no_fault_or (more_cause p j s (form_of line)) n (more_in p j (n + 1) (more_after p s (form_of line)) lines) further given in
    taken_in p j (n + 1) (more_after p s (form_of line)) lines further (taken_on p j s (form_of line) h done.0) done.1

pub all_granted : (p : LabPlan) (j : ℕ) (text : List ℕ) (further : List SessionPlan) → IsPlan p → j < length p.jobs
    → sessions_in p j text ≡ Ok further → AreGranted p j further
all_granted p j text further plan there given = granted_all p j further there (taken_in p j 1 no_sessions (text_lines text) further (none_yet p j plan) given)
