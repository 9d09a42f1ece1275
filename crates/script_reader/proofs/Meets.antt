-- What the lines before a line say of it, the reader's state says too.
use Rattle.std.proofs.Common.{◌≡◌, ℕ, ◌-◌, ◌<◌, Bool, true, false, if◌then◌else◌, not, ◌||◌, ◌&&◌, List, [], ◌∷◌, ◌++◌, length, get_or, refl, sym, ap, ◌∙◌, arith, suc, length-append}
use Rattle.std.specs.Prelude.{Option, None, nat_le, nat_lt, reverse}
use Rattle.std.specs.List.{list_any, position_or_len}
use Rattle.std.specs.Str.{bytes_eq}
use Rattle.std.proofs.lemmas.Bool.Decides.{Decides-ltb}
use Rattle.lab_plan.specs.LabPlan.{JobPlan, no_job, all_commands}
use Rattle.lab_plan.specs.Names.{is_name}
use Rattle.lab_plan.specs.Building.{last_job, and_session, in_last_session, and_command}
use Rattle.script_reader.specs.declared.fault.ScriptCause.{ScriptCause}
use Rattle.script_reader.specs.declared.fault.ScriptCause.TheVariants.{NoHeader, UnknownWord, SessionNotClosed, NotInJob, NotInSession, BadName, BadNumber, JobTwice, LimitPassed}
use Rattle.script_reader.specs.declared.form.Version.TheVariants.{One, Two}
use Rattle.script_reader.specs.Line.{Line, Header, Job, Session, PatientSession, Command, End, Steps, Unknown, is_job_line, is_session, is_command, is_lab_two, verb_number}
use Rattle.script_reader.specs.Plan.{plan_of, jobs_of, job_of, instruments_of, up_to_next, patience_of, verb_of}
use Rattle.script_reader.specs.Script.{is_open, is_empty, count, has, cause_at}
use Rattle.script_reader.specs.State.{state_of, cause_in, at, is_two}
use Rattle.script_reader.specs.Number.{is_number}
use Rattle.script_reader.proofs.OneMore.{begins, jobs-session, jobs-command, jobs-other}
use Rattle.script_reader.proofs.OnLast.{last_pushed, last_changed, same_length}
use Rattle.script_reader.proofs.Counts.{reversed, job_there, job_count, any_job, instrument_there}

-- ---- the sessions of the last job, at any names

abbrev last_of : List JobPlan → JobPlan
last_of jobs = get_or jobs (length jobs - 1) no_job

abbrev sessions_in : List (List ℕ) → List Line → ℕ
sessions_in names before = length (last_of (jobs_of names (reverse before))).sessions

some_job : (names : List (List ℕ)) (before : List Line) → list_any is_job_line before ≡ true → 0 < length (jobs_of names (reverse before))
some_job names before e = (Decides-ltb 0 (length (jobs_of names (reverse before)))).0 (sym (any_job names before) ∙ e)

one_session : (names : List (List ℕ)) (line : Line) (before : List Line) → is_job_line line ≡ false → is_session line ≡ true
    → 0 < length (jobs_of names (reverse before)) → sessions_in names (line ∷ before) ≡ suc (sessions_in names before)
one_session names line before no_job_line of_kind some =
    ap (λ l. length (last_of (jobs_of names l)).sessions) (reversed line before)
    ∙ ap (λ jobs. length (last_of jobs).sessions) (jobs-session names line no_job_line of_kind (reverse before))
    ∙ ap (λ (job : JobPlan). length job.sessions) (last_changed (and_session (patience_of line)) (jobs_of names (reverse before)) no_job some)
    ∙ (let sum = length-append (last_of (jobs_of names (reverse before))).sessions (record { patience = patience_of line; commands = [] } ∷ []) in sum
    ∙ omega arith)

no_more : (names : List (List ℕ)) (line : Line) (before : List Line)
    → jobs_of names (reverse before ++ line ∷ []) ≡ jobs_of names (reverse before) → sessions_in names (line ∷ before) ≡ sessions_in names before
no_more names line before e = ap (λ l. length (last_of (jobs_of names l)).sessions) (reversed line before) ∙ ap (λ jobs. length (last_of jobs).sessions) e

-- the sessions of the last job are the session lines since the nearest job line
session_count : (names : List (List ℕ)) (before : List Line) → list_any is_job_line before ≡ true
    → count is_session (up_to_next is_job_line before) ≡ sessions_in names before
session_count names [] e = cc
session_count names (Job name ∷ before) e =
    sym (ap (λ l. length (last_of (jobs_of names l)).sessions) (reversed (Job name) before)
    ∙ ap (λ jobs. length (last_of jobs).sessions) (begins is_job_line (job_of names) (Job name) refl (reverse before))
    ∙ ap (λ (job : JobPlan). length job.sessions) (last_pushed (jobs_of names (reverse before)) (record { name = name; sessions = [] }) no_job))
session_count names (Session ∷ before) e = ap suc (session_count names before e) ∙ sym (one_session names Session before refl refl (some_job names before e))
session_count names (PatientSession number ∷ before) e = ap suc (session_count names before e)
    ∙ sym (one_session names (PatientSession number) before refl refl (some_job names before e))
session_count names (Command name verb ∷ before) e =
    let i = position_or_len (bytes_eq name) names in
    session_count names before e
    ∙ sym (ap (λ l. length (last_of (jobs_of names l)).sessions) (reversed (Command name verb) before)
    ∙ ap (λ jobs. length (last_of jobs).sessions) (jobs-command names name verb (reverse before))
    ∙ ap (λ (job : JobPlan). length job.sessions)
    (last_changed (in_last_session i (verb_of verb)) (jobs_of names (reverse before)) no_job (some_job names before e))
    ∙ same_length (and_command i (verb_of verb)) _)
session_count names (Header version ∷ before) e = session_count names before e
    ∙ sym (no_more names (Header version) before (jobs-other names (Header version) refl refl refl (reverse before)))
session_count names (End ∷ before) e = session_count names before e ∙ sym (no_more names End before (jobs-other names End refl refl refl (reverse before)))
session_count names (Steps ∷ before) e = session_count names before e
    ∙ sym (no_more names Steps before (jobs-other names Steps refl refl refl (reverse before)))
session_count names (Unknown ∷ before) e = session_count names before e
    ∙ sym (no_more names Unknown before (jobs-other names Unknown refl refl refl (reverse before)))

-- ---- the causes

-- behind a test that is passed, what follows has to be the same
behind : (b b' : Bool) (cause : ScriptCause) (x y : Option ScriptCause) → b ≡ b' → (b ≡ true → x ≡ y) → at (not b) cause x ≡ at (not b') cause y
behind true b' cause x y e same = rw (← e) (same refl)
behind false b' cause x y e same = rw (← e) refl

in_job : (before : List Line) (rest : ℕ → Option ScriptCause)
    → at (not (list_any is_job_line before)) NotInJob (rest (count is_session (up_to_next is_job_line before)))
    ≡ at (not (nat_lt 0 (length (plan_of (reverse before)).jobs))) NotInJob (rest (length (last_job (plan_of (reverse before))).sessions))
in_job before rest = behind _ _ NotInJob _ _ (any_job (instruments_of (reverse before)) before)
    (λ is. ap rest (session_count (instruments_of (reverse before)) before is))

two_is : (b : Bool) → b ≡ is_two (if b then Two else One)
two_is true = refl
two_is false = refl

-- the first cause that the line meets is the one that the reader answers
pub cause_is : (before : List Line) (line : Line) → count is_command before ≡ length (all_commands (plan_of (reverse before)))
    → cause_at before line ≡ cause_in (state_of before) line
cause_is before (Header version) counted = refl
cause_is before (Job name) counted =
    let names = instruments_of (reverse before) in
    ap (λ rest. at (is_empty before) NoHeader (at (is_open before) SessionNotClosed (at (not (is_name name)) BadName rest)))
    ((λ i. at (job_there names before name i) JobTwice (at (nat_le 32 (job_count names before i)) LimitPassed None)))
cause_is before Session counted =
    ap (λ rest. at (is_empty before) NoHeader (at (is_open before) SessionNotClosed rest)) (in_job before (λ n. at (nat_le 1000 n) LimitPassed None))
cause_is before (PatientSession number) counted =
    (λ i. at (is_empty before) NoHeader (at (not (two_is (list_any is_lab_two before) i)) UnknownWord
    (at (is_open before) SessionNotClosed (in_job before (λ n. at (not (is_number number)) BadNumber (at (nat_le 1000 n) LimitPassed None)) i))))
cause_is before (Command name verb) counted =
    (λ i. at (is_empty before) NoHeader
    (at (not (is_open before)) NotInSession (at (not (is_name name)) BadName (at (has (λ number. not (is_number number)) (verb_number verb)) BadNumber
    (at (nat_le 100000 (counted i) || (not (instrument_there before name i) && nat_le 56 (length (instruments_of (reverse before))))) LimitPassed None)))))
cause_is before End counted = refl
cause_is before Steps counted = refl
cause_is before Unknown counted = refl
