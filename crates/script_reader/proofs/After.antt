-- What one more line does to the reader's state.
use Rattle.std.proofs.Common.{◌≡◌, ℕ, Bool, true, false, if◌then◌else◌, not, List, [], ◌∷◌, ◌++◌, refl, sym, ap, ◌∙◌, append-nil}
use Rattle.std.specs.Prelude.{Option, None, Some, nat_le, length, reverse}
use Rattle.std.specs.List.{filter_map, position_or_len}
use Rattle.std.specs.Str.{bytes_eq}
use Rattle.std.proofs.lemmas.List.Elements.{filter_map-append}
use Rattle.lab_plan.specs.LabPlan.{JobPlan, LabPlan}
use Rattle.lab_plan.specs.Building.{on_last, in_last_session, is_job, is_past_limit}
use Rattle.script_reader.specs.declared.fault.ScriptCause.{ScriptCause}
use Rattle.script_reader.specs.declared.fault.ScriptCause.TheVariants.{NoHeader, UnknownWord, SessionNotClosed, NotInSession, BadName, BadNumber, JobTwice, EmptySession, LimitPassed}
use Rattle.script_reader.specs.declared.form.Version.{Version}
use Rattle.script_reader.specs.declared.form.Version.TheVariants.{One, Two}
use Rattle.script_reader.specs.Line.{Line, Header, Job, Session, PatientSession, Command, End, Steps, Unknown, is_job_line, is_lab_two, instrument, VerbText, verb_number}
use Rattle.script_reader.specs.Plan.{plan_of, jobs_of, job_of, instruments_of, first_namings, version_of, verb_of}
use Rattle.script_reader.specs.Script.{is_open, has_no_command, is_empty, has}
use Rattle.script_reader.specs.State.{State, state_of, cause_in, session_cause, many_sessions, after, at, is_two}
use Rattle.script_reader.specs.Number.{is_number}
use Rattle.lab_plan.specs.Names.{is_name}
use Rattle.script_reader.proofs.OneMore.{begins, jobs-session, jobs-command, jobs-other}
use Rattle.script_reader.proofs.Counts.{reversed, any_reverse}
use Rattle.script_reader.proofs.Namings.{and_name, namings-more, new_place, jobs_kept}

pub none : (test : Bool) (cause : ScriptCause) (rest : Option ScriptCause) → at test cause rest ≡ None → (test ≡ false) × (rest ≡ None)
none true cause rest e = cc
none false cause rest e = (refl, e)

same_plan : {version version' : ℕ} {jobs jobs' : List JobPlan} {names names' : List (List ℕ)} → version ≡ version' → jobs ≡ jobs' → names ≡ names'
    → (let p : LabPlan = record { version = version; jobs = jobs; instruments = names } in p)
    ≡ record { version = version'; jobs = jobs'; instruments = names' }
same_plan a b c = λ i. record { version = a i; jobs = b i; instruments = c i }

same_state : {fresh fresh' in_session in_session' bare bare' : Bool} {version version' : Version} {plan plan' : LabPlan} → fresh ≡ fresh'
    → version ≡ version' → in_session ≡ in_session' → bare ≡ bare' → plan ≡ plan'
    → (let s : State = record { fresh = fresh; version = version; in_session = in_session; bare = bare; plan = plan } in s) ≡ record {
      fresh = fresh';
      version = version';
      in_session = in_session';
      bare = bare';
      plan = plan';
    }
same_state a b c d e = λ i. record { fresh = a i; version = b i; in_session = c i; bare = d i; plan = e i }

-- ---- the parts of the plan at one more line

same_version : (line : Line) (before : List Line) → is_lab_two line ≡ false → version_of (reverse (line ∷ before)) ≡ version_of (reverse before)
same_version line before isnt = ap (λ b. if b then 2 else 1) (any_reverse is_lab_two (line ∷ before) ∙ rw isnt (sym (any_reverse is_lab_two before)))

same_instruments : (line : Line) (before : List Line) → instrument line ≡ None → instruments_of (reverse (line ∷ before)) ≡ instruments_of (reverse before)
same_instruments line before no_name = ap instruments_of (reversed line before)
    ∙ ap first_namings (filter_map-append instrument (reverse before) (line ∷ []) ∙ rw no_name (append-nil _))

-- a line that names no instrument
plan_at : (line : Line) (before : List Line) (jobs : List JobPlan) → is_lab_two line ≡ false
    → instrument line ≡ None → jobs_of (instruments_of (reverse before)) (reverse before ++ line ∷ []) ≡ jobs
    → plan_of (reverse (line ∷ before)) ≡ record (plan_of (reverse before)) { jobs = jobs }
plan_at line before jobs isnt no_name e =
    let names = same_instruments line before no_name in
    same_plan (same_version line before isnt)
    (ap (λ n. jobs_of n (reverse (line ∷ before))) names ∙ ap (jobs_of (instruments_of (reverse before))) (reversed line before) ∙ e) names

more_instruments : (name : List ℕ) (verb : VerbText) (before : List Line)
    → instruments_of (reverse (Command name verb ∷ before)) ≡ and_name name (instruments_of (reverse before))
more_instruments name verb before =
    ap instruments_of (reversed (Command name verb) before) ∙ ap first_namings (filter_map-append instrument (reverse before) (Command name verb ∷ []))
    ∙ namings-more (filter_map instrument (reverse before)) name

command_jobs : (name : List ℕ) (verb : VerbText) (before : List Line)
    → jobs_of (instruments_of (reverse (Command name verb ∷ before))) (reverse (Command name verb ∷ before))
    ≡ on_last (in_last_session (position_or_len (bytes_eq name) (instruments_of (reverse before))) (verb_of verb))
    (jobs_of (instruments_of (reverse before)) (reverse before))
command_jobs name verb before =
    let lines = reverse before in
    let names = instruments_of lines in
    ap (λ n. jobs_of n (reverse (Command name verb ∷ before))) (more_instruments name verb before)
    ∙ ap (jobs_of (and_name name names)) (reversed (Command name verb) before)
    ∙ jobs-command (and_name name names) name verb lines
    ∙ (λ i. on_last (in_last_session (new_place name names i) (verb_of verb)) (jobs_kept name lines i))

-- ---- the state

header_after : (version : Version) (before : List Line) → not (is_empty before) ≡ false
    → state_of (Header version ∷ before) ≡ after (state_of before) (Header version)
header_after One [] e = refl
header_after Two [] e = refl
header_after version (x ∷ before) e = cc

pub after_is : (before : List Line) (line : Line) → cause_in (state_of before) line ≡ None → state_of (line ∷ before) ≡ after (state_of before) line
after_is before (Header version) e = header_after version before (none (not (is_empty before)) UnknownWord None e).0
after_is before (Job name) e =
    let s = state_of before in
    let jobs = jobs_of (instruments_of (reverse before)) in
    let rest = at (not (is_name name)) BadName (at (is_job name s.plan) JobTwice (at (nat_le 32 (length s.plan.jobs)) LimitPassed None)) in
    let first = none (is_empty before) NoHeader (at (is_open before) SessionNotClosed rest) e in
    let second = none (is_open before) SessionNotClosed rest first.1 in
    same_state (sym first.0) refl (sym second.0) refl
    (plan_at (Job name) before _ refl refl (begins is_job_line (job_of (instruments_of (reverse before))) (Job name) refl (reverse before)))
after_is before Session e =
    let s = state_of before in
    let first = none (is_empty before) NoHeader (session_cause s (many_sessions s)) e in
    same_state (sym first.0) refl refl refl
    (plan_at Session before _ refl refl (jobs-session (instruments_of (reverse before)) Session refl refl (reverse before)))
after_is before (PatientSession number) e =
    let s = state_of before in
    let first =
    none (is_empty before) NoHeader
    (at (not (is_two s.version)) UnknownWord (session_cause s (at (not (is_number number)) BadNumber (many_sessions s)))) e in
    same_state (sym first.0) refl refl refl (plan_at (PatientSession number) before _ refl refl
    (jobs-session (instruments_of (reverse before)) (PatientSession number) refl refl (reverse before)))
after_is before (Command name verb) e =
    let s = state_of before in
    let first =
    none (is_empty before) NoHeader
    (at (not (is_open before))
    NotInSession
    (at (not (is_name name)) BadName
    (at (has (λ number. not (is_number number)) (verb_number verb)) BadNumber (at (is_past_limit name s.plan) LimitPassed None)))) e in
    same_state (sym first.0) refl refl refl
    (same_plan (same_version (Command name verb) before refl) (command_jobs name verb before) (more_instruments name verb before))
after_is before End e =
    let s = state_of before in
    let first = none (is_empty before) NoHeader (at (not (is_open before)) NotInSession (at (has_no_command before) EmptySession None)) e in
    same_state (sym first.0) refl refl refl (plan_at End before _ refl refl (jobs-other (instruments_of (reverse before)) End refl refl refl (reverse before)))
after_is before Steps e = let first = none (is_empty before) NoHeader (Some UnknownWord) e in let never = first.1 in cc
after_is before Unknown e = let first = none (is_empty before) NoHeader (Some UnknownWord) e in let never = first.1 in cc
