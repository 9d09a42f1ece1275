-- What holds between two lines is kept, and a command line brings one command.
use Rattle.std.proofs.Common.{◌≡◌, ℕ, ◌+◌, ◌-◌, ◌<◌, true, false, not, ◌&&◌, List, [], ◌∷◌, ◌++◌, length, get_or, refl, sym, ap, ◌∙◌, arith, suc, length-append}
use Rattle.std.specs.Prelude.{Option, None, Some, nat_le, nat_lt, ◌==◌, reverse}
use Rattle.std.specs.List.{flat_map}
use Rattle.std.proofs.lemmas.Bool.Decides.{Decides-ltb, Decides-eqb}
use Rattle.std.proofs.lemmas.Bool.{not-false, false_from_ne_true}
use Rattle.lab_plan.specs.LabPlan.{JobPlan, SessionPlan, LabPlan, no_job, no_session, all_commands}
use Rattle.lab_plan.specs.declared.verb.Verb.{Verb}
use Rattle.lab_plan.specs.Names.{is_name}
use Rattle.lab_plan.specs.Building.{on_last, and_session, and_command, in_last_session, instrument_number, with_job, with_session, with_command, last_job, last_session, has_session, is_bare, is_job, is_past_limit}
use Rattle.script_reader.specs.declared.fault.ScriptCause.{ScriptCause}
use Rattle.script_reader.specs.declared.fault.ScriptCause.TheVariants.{NoHeader, UnknownWord, SessionNotClosed, NotInJob, NotInSession, BadName, BadNumber, JobTwice, EmptySession, LimitPassed}
use Rattle.script_reader.specs.declared.form.Version.{Version}
use Rattle.script_reader.specs.declared.form.Version.TheVariants.{One, Two}
use Rattle.script_reader.specs.Line.{Line, Header, Job, Session, PatientSession, Command, End, Steps, Unknown, VerbText, verb_number, is_command}
use Rattle.script_reader.specs.Number.{is_number, number_of}
use Rattle.script_reader.specs.Plan.{plan_of, verb_of}
use Rattle.script_reader.specs.Script.{has, count, is_empty}
use Rattle.script_reader.specs.State.{State, state_of, cause_in, session_cause, many_sessions, after, at, IsTied, is_two}
use Rattle.script_reader.proofs.OnLast.{last_pushed, last_changed, same_length}
use Rattle.script_reader.proofs.After.{none}

some : (n : ℕ) → 0 < n → nat_lt 0 n ≡ true
some n h = (Decides-ltb 0 n).1 h

above : (n : ℕ) → nat_lt 0 n ≡ true → 0 < n
above n h = (Decides-ltb 0 n).0 h

-- ---- one more session

job_with_session : (plan : LabPlan) (patience : Option ℕ) → 0 < length plan.jobs → last_job (with_session patience plan) ≡ and_session patience (last_job plan)
job_with_session plan patience inside = last_changed (and_session patience) plan.jobs no_job inside

within_session : (plan : LabPlan) (patience : Option ℕ) → 0 < length plan.jobs → has_session (with_session patience plan) ≡ true
within_session plan patience inside =
    let grown = ap (λ (job : JobPlan). length job.sessions) (job_with_session plan patience inside) in
    let sum = length-append (last_job plan).sessions (record { patience = patience; commands = [] } ∷ []) in
    some _ (omega (arith, grown, sum))

bare_session : (plan : LabPlan) (patience : Option ℕ) → 0 < length plan.jobs → is_bare (with_session patience plan) ≡ true
bare_session plan patience inside =
    let new : SessionPlan = record { patience = patience; commands = [] } in
    let last : last_session (with_session patience plan) ≡ new =
    ap (λ (job : JobPlan). get_or job.sessions (length job.sessions - 1) no_session) (job_with_session plan patience inside)
    ∙ last_pushed (last_job plan).sessions new no_session in
    rw (within_session plan patience inside) (ap (λ (session : SessionPlan). length session.commands == 0) last)

-- ---- one more job

bare_job : (plan : LabPlan) (name : List ℕ) → is_bare (with_job name plan) ≡ false
bare_job plan name =
    let new : JobPlan = record { name = name; sessions = [] } in
    let last : last_job (with_job name plan) ≡ new = last_pushed plan.jobs new no_job in
    ap (λ (job : JobPlan). nat_lt 0 (length job.sessions) && (length (get_or job.sessions (length job.sessions - 1) no_session).commands == 0)) last

-- ---- one more command

has_last : (jobs : List JobPlan) → 0 < length (get_or jobs (length jobs - 1) no_job).sessions → 0 < length jobs
has_last [] h = h
has_last (x ∷ jobs) h = omega arith

job_with_command : (plan : LabPlan) (name : List ℕ) (verb : Verb) → has_session plan ≡ true
    → last_job (with_command name verb plan) ≡ in_last_session (instrument_number name plan) verb (last_job plan)
job_with_command plan name verb h = last_changed (in_last_session (instrument_number name plan) verb) plan.jobs no_job (has_last plan.jobs (above _ h))

within_command : (plan : LabPlan) (name : List ℕ) (verb : Verb) → has_session plan ≡ true → has_session (with_command name verb plan) ≡ true
within_command plan name verb h =
    let changed = ap (λ (job : JobPlan). length job.sessions) (job_with_command plan name verb h) in
    let same = same_length (and_command (instrument_number name plan) verb) (last_job plan).sessions in
    let before = above _ h in
    some _ (omega (arith, changed, same, before))

no_zero : (n : ℕ) → 0 < n → (n == 0) ≡ false
no_zero n h = false_from_ne_true (n == 0) (λ e. let zero_is = (Decides-eqb n 0).0 e in omega (arith, zero_is, h))

bare_command : (plan : LabPlan) (name : List ℕ) (verb : Verb) → has_session plan ≡ true → is_bare (with_command name verb plan) ≡ false
bare_command plan name verb h =
    let i = instrument_number name plan in
    let last : last_session (with_command name verb plan) ≡ and_command i verb (last_session plan) =
    ap (λ (job : JobPlan). get_or job.sessions (length job.sessions - 1) no_session) (job_with_command plan name verb h)
    ∙ last_changed (and_command i verb) (last_job plan).sessions no_session (above _ h) in
    let sum = length-append (last_session plan).commands ((i, verb) ∷ []) in
    let grown = ap (λ (session : SessionPlan). length session.commands) last in
    rw (within_command plan name verb h) (no_zero _ (omega (arith, sum, grown)))

-- ---- what holds is kept

in_job : (s : State) (rest : Option ScriptCause) → session_cause s rest ≡ None → 0 < length s.plan.jobs
in_job s rest e =
    let second = none s.in_session SessionNotClosed (at (not (nat_lt 0 (length s.plan.jobs))) NotInJob rest) e in
    above _ (not-false _ (none (not (nat_lt 0 (length s.plan.jobs))) NotInJob rest second.1).0)

pub in_session : (s : State) (name : List ℕ) (verb : VerbText) → IsTied s → cause_in s (Command name verb) ≡ None → has_session s.plan ≡ true
in_session s name verb h e =
    let rest = at (not (is_name name)) BadName
    (at (has (λ number. not (is_number number)) (verb_number verb)) BadNumber (at (is_past_limit name s.plan) LimitPassed None)) in
    let first = none s.fresh NoHeader (at (not s.in_session) NotInSession rest) e in
    h.within (not-false _ (none (not s.in_session) NotInSession rest first.1).0)

pub IsTied-after : (s : State) (line : Line) → IsTied s → cause_in s line ≡ None → IsTied (after s line)
IsTied-after s (Header One) h e = record { closed = λ is. refl; within = λ is. cc; bare = refl; version = refl }
IsTied-after s (Header Two) h e = record { closed = λ is. refl; within = λ is. cc; bare = refl; version = refl }
IsTied-after s (Job name) h e =
    let rest = at (not (is_name name)) BadName (at (is_job name s.plan) JobTwice (at (nat_le 32 (length s.plan.jobs)) LimitPassed None)) in
    let shut = (none s.in_session SessionNotClosed rest (none s.fresh NoHeader (at s.in_session SessionNotClosed rest) e).1).0 in
    record { closed = h.closed; within = λ is. cc; bare = h.closed shut ∙ sym (bare_job s.plan name); version = h.version }
IsTied-after s Session h e =
    let first = none s.fresh NoHeader (session_cause s (many_sessions s)) e in
    let inside = in_job s (many_sessions s) first.1 in
    record { closed = λ is. cc; within = λ is. within_session s.plan None inside; bare = sym (bare_session s.plan None inside); version = h.version }
IsTied-after s (PatientSession number) h e =
    let last = at (not (is_number number)) BadNumber (many_sessions s) in
    let first = none s.fresh NoHeader (at (not (is_two s.version)) UnknownWord (session_cause s last)) e in
    let two = none (not (is_two s.version)) UnknownWord (session_cause s last) first.1 in
    let inside = in_job s last two.1 in
    record {
      closed = λ is. cc;
      within = λ is. within_session s.plan (Some (number_of number)) inside;
      bare = sym (bare_session s.plan (Some (number_of number)) inside);
      version = h.version;
    }
IsTied-after s (Command name verb) h e =
    let session = in_session s name verb h e in
    record {
      closed = λ is. refl;
      within = λ is. within_command s.plan name (verb_of verb) session;
      bare = sym (bare_command s.plan name (verb_of verb) session);
      version = h.version;
    }
IsTied-after s End h e =
    let last = at s.bare EmptySession None in
    let first = none s.fresh NoHeader (at (not s.in_session) NotInSession last) e in
    let second = none (not s.in_session) NotInSession last first.1 in
    record { closed = λ is. (none s.bare EmptySession None second.1).0; within = λ is. cc; bare = h.bare; version = h.version }
IsTied-after s Steps h e = let first = (none s.fresh NoHeader (Some UnknownWord) e).1 in cc
IsTied-after s Unknown h e = let first = (none s.fresh NoHeader (Some UnknownWord) e).1 in cc

-- ---- the number of commands

flat_on_last : {A B : Type 0} (k : ℕ) (f : A → List B) (change : A → A) (xs : List A) (d : A) → 0 < length xs
    → length (f (change (get_or xs (length xs - 1) d))) ≡ length (f (get_or xs (length xs - 1) d)) + k
    → length (flat_map f (on_last change xs)) ≡ length (flat_map f xs) + k
flat_on_last k f change [] d inside e = absurd (omega arith)
flat_on_last k f change (x ∷ []) d inside e =
    let one = length-append (f (change x)) [] in
    let other = length-append (f x) [] in
    omega (arith, one, other, e)
flat_on_last k f change (x ∷ y ∷ xs) d inside e =
    let less : length (x ∷ y ∷ xs) - 1 ≡ suc (length (y ∷ xs) - 1) = omega arith in
    let more = flat_on_last k f change (y ∷ xs) d (omega arith) (rw less at e) in
    let one = length-append (f x) (flat_map f (on_last change (y ∷ xs))) in
    let other = length-append (f x) (flat_map f (y ∷ xs)) in
    omega (arith, more, one, other)

abbrev commands_of_job : JobPlan → List (ℕ × Verb)
commands_of_job job = flat_map (λ (session : SessionPlan). session.commands) job.sessions

one_command : (plan : LabPlan) (name : List ℕ) (verb : Verb) → has_session plan ≡ true
    → length (all_commands (with_command name verb plan)) ≡ length (all_commands plan) + 1
one_command plan name verb h =
    let i = instrument_number name plan in
    flat_on_last 1 commands_of_job (in_last_session i verb) plan.jobs no_job (has_last plan.jobs (above _ h))
    (flat_on_last 1 (λ (session : SessionPlan). session.commands) (and_command i verb) (last_job plan).sessions no_session (above _ h)
    (length-append (last_session plan).commands ((i, verb) ∷ [])))

flat_pushed : {A B : Type 0} (f : A → List B) (xs : List A) (x : A) → length (f x) ≡ 0 → length (flat_map f (xs ++ x ∷ [])) ≡ length (flat_map f xs)
flat_pushed f [] x e = let sum = length-append (f x) [] in omega (arith, sum, e)
flat_pushed f (y ∷ xs) x e =
    let one = length-append (f y) (flat_map f (xs ++ x ∷ [])) in
    let other = length-append (f y) (flat_map f xs) in
    let more = flat_pushed f xs x e in
    omega (arith, one, other, more)

no_command : (plan : LabPlan) (patience : Option ℕ) → 0 < length plan.jobs → length (all_commands (with_session patience plan)) ≡ length (all_commands plan)
no_command plan patience inside =
    let grown = flat_on_last 0 commands_of_job (and_session patience) plan.jobs no_job inside
    (let e = flat_pushed (λ (session : SessionPlan). session.commands) (last_job plan).sessions
    (record { patience = patience; commands = [] }) refl in omega (arith, e)) in
    omega (arith, grown)

counted_header : (version : Version) (before : List Line) → not (is_empty before) ≡ false
    → count is_command before ≡ length (all_commands (after (state_of before) (Header version)).plan)
counted_header One [] e = refl
counted_header Two [] e = refl
counted_header version (x ∷ before) e = cc

-- the command lines are the plan's commands
pub counted_after : (before : List Line) (line : Line) → IsTied (state_of before)
    → cause_in (state_of before) line ≡ None → count is_command before ≡ length (all_commands (plan_of (reverse before)))
    → count is_command (line ∷ before) ≡ length (all_commands (after (state_of before) line).plan)
counted_after before (Header version) h e counted = counted_header version before (none (not (is_empty before)) UnknownWord None e).0
counted_after before (Job name) h e counted =
    counted ∙ sym (flat_pushed commands_of_job (plan_of (reverse before)).jobs (record { name = name; sessions = [] }) refl)
counted_after before Session h e counted =
    let s = state_of before in
    let first = none s.fresh NoHeader (session_cause s (many_sessions s)) e in
    counted ∙ sym (no_command s.plan None (in_job s (many_sessions s) first.1))
counted_after before (PatientSession number) h e counted =
    let s = state_of before in
    let last = at (not (is_number number)) BadNumber (many_sessions s) in
    let first = none s.fresh NoHeader (at (not (is_two s.version)) UnknownWord (session_cause s last)) e in
    let two = none (not (is_two s.version)) UnknownWord (session_cause s last) first.1 in
    counted ∙ sym (no_command s.plan (Some (number_of number)) (in_job s last two.1))
counted_after before (Command name verb) h e counted =
    let grown = one_command (plan_of (reverse before)) name (verb_of verb) (in_session (state_of before) name verb h e) in
    omega (arith, grown, counted)
counted_after before End h e counted = counted
counted_after before Steps h e counted = counted
counted_after before Unknown h e counted = counted
