-- The lines of an upgraded script, and that a reader takes each of them.
use Rattle.std.proofs.Common.{◌≡◌, ◌≢◌, ℕ, ◌+◌, ◌<◌, ◌≤◌, Bool, true, false, not, List, [], ◌∷◌, ◌++◌, length, get_or, refl, sym, ap, ◌∙◌, subst, arith, suc, append_assoc, append-nil, length-append}
use Rattle.std.specs.Prelude.{Option, None, Some, max, nat_le, nat_lt, map, decimal, AllPairs}
use Rattle.std.specs.List.{flat_map, list_any, AllByRecursion}
use Rattle.std.specs.Option.{ForSome}
use Rattle.std.specs.Str.{bytes_eq}
use Rattle.std.proofs.lemmas.Bool.{false_from_ne_true}
use Rattle.std.proofs.lemmas.Slice.Eq.{bytes_eq-Decides}
use Rattle.std.proofs.lemmas.List.{get_or_at, get_or_append_left}
use Rattle.std.proofs.lemmas.List.Folds.{list_any_none}
use Rattle.lab_plan.specs.declared.verb.Verb.{Verb}
use Rattle.lab_plan.specs.declared.verb.Verb.TheVariants.{Set, Add, Read}
use Rattle.lab_plan.specs.Names.{is_name, IsName}
use Rattle.lab_plan.specs.Verbs.{Fits}
use Rattle.lab_plan.specs.LabPlan.{SessionPlan, JobPlan, LabPlan, no_job, all_commands}
use Rattle.lab_plan.specs.Building.{and_command, with_command, with_session, last_job}
use Rattle.script_reader.specs.declared.fault.ScriptCause.TheVariants.{NotInJob, BadName, BadNumber, JobTwice, LimitPassed}
use Rattle.script_reader.specs.declared.form.Version.TheVariants.{Two}
use Rattle.script_reader.specs.Line.{Line, Header, Job, Session, PatientSession, Command, End, VerbText, Sets, Adds, Reads, verb_number}
use Rattle.script_reader.specs.Number.{is_number}
use Rattle.script_reader.specs.Plan.{verb_of}
use Rattle.script_reader.specs.Script.{has}
use Rattle.script_reader.specs.State.{State, at, cause_in, after}
use Rattle.script_reader.proofs.OnLast.{last_pushed}
use Rattle.script_reader.proofs.UpgradeNumber.{decimal_is_number, reads_back}
use Rattle.script_reader.proofs.UpgradeOrder.{InOrder, known_after, in_order_parts, known_after-append, known_within}
use Rattle.script_reader.proofs.UpgradeDrafts.{AreInstruments, draft, job_with, inside, command_more, room, session_more, session_commands, job_commands, size_one, size_more, not_at_most, less}

-- ---- the lines

abbrev pub spelled : Verb → VerbText
spelled (Set n) = Sets (decimal n)
spelled (Add n) = Adds (decimal n)
spelled Read = Reads

abbrev pub line_of_command : List (List ℕ) → ℕ × Verb → Line
line_of_command names command = Command (get_or names command.0 []) (spelled command.1)

abbrev pub first_line : Option ℕ → Line
first_line None = Session
first_line (Some n) = PatientSession (decimal n)

abbrev pub lines_of_session : List (List ℕ) → SessionPlan → List Line
lines_of_session names session = first_line session.patience ∷ (map (line_of_command names) session.commands ++ End ∷ [])

abbrev pub lines_of_job : List (List ℕ) → JobPlan → List Line
lines_of_job names job = Job job.name ∷ flat_map (lines_of_session names) job.sessions

abbrev pub lines_of_plan : LabPlan → List Line
lines_of_plan plan = Header Two ∷ flat_map (lines_of_job plan.instruments) plan.jobs

-- ---- what is asked of them

-- a command on an instrument of the plan, with a number that fits
abbrev pub CanSay : List (List ℕ) → ℕ × Verb → Type 0
CanSay names command = (command.0 < length names) × Fits command.1

-- a session of a plan, and a job of a plan
pub record CanRun (names : List (List ℕ)) (session : SessionPlan) : Type 0 where
  pub some : 0 < length session.commands
  pub commands : AllByRecursion (CanSay names) session.commands
  pub patience : ForSome session.patience (λ n. n ≤ 999999)

pub record CanBegin (names : List (List ℕ)) (job : JobPlan) : Type 0 where
  pub is_name : IsName job.name
  pub few : length job.sessions ≤ 1000
  pub sessions : AllByRecursion (CanRun names) job.sessions

-- ---- a reader that takes some lines

-- from one state to another, and no line meets a cause
abbrev pub AreTaken : State → List Line → State → Type 0
AreTaken s [] t = s ≡ t
AreTaken s (line ∷ lines) t = (cause_in s line ≡ None) × AreTaken (after s line) lines t

pub taken-append : (s t u : State) (xs ys : List Line) → AreTaken s xs t → AreTaken t ys u → AreTaken s (xs ++ ys) u
taken-append s t u [] ys h k = subst (λ z. AreTaken z ys u) (sym h) k
taken-append s t u (x ∷ xs) ys h k = (h.0, taken-append (after s x) t u xs ys h.1 k)

-- behind the header of version 2
abbrev pub state : Bool → Bool → LabPlan → State
state in_session bare plan = record { fresh = false; version = Two; in_session = in_session; bare = bare; plan = plan }

-- ---- commands

number_kept : (verb : Verb) → Fits verb → verb_of (spelled verb) ≡ verb
number_kept (Set n) fits = ap Set (reads_back n fits)
number_kept (Add n) fits = ap Add (reads_back n fits)
number_kept Read fits = refl

number_right : (verb : Verb) → Fits verb → has (λ number. not (is_number number)) (verb_number (spelled verb)) ≡ false
number_right (Set n) fits = ap not (decimal_is_number n fits)
number_right (Add n) fits = ap not (decimal_is_number n fits)
number_right Read fits = refl

-- a session is bare until it has a command
abbrev bare_behind : Bool → List (ℕ × Verb) → Bool
bare_behind bare [] = bare
bare_behind bare (command ∷ commands) = false

not_bare : (commands : List (ℕ × Verb)) → 0 < length commands → bare_behind true commands ≡ false
not_bare [] some = absurd (omega arith)
not_bare (command ∷ commands) some = refl

-- more commands of a session
abbrev and_commands : SessionPlan → List (ℕ × Verb) → SessionPlan
and_commands session commands = record { patience = session.patience; commands = session.commands ++ commands }

name_right : (names : List (List ℕ)) (h : AreInstruments names) (i : ℕ) → i < length names → is_name (get_or names i []) ≡ true
name_right names h i there = h.each i [] there

module _ (names : List (List ℕ)) (h : AreInstruments names) (front : List JobPlan) (job : List ℕ) (sessions : List SessionPlan) where
  one_taken : (known : ℕ) (bare : Bool) (session : SessionPlan) (command : ℕ × Verb) → known ≤ length names → command.0 ≤ known → CanSay names command
      → length (job_commands front) + (length (session_commands sessions) + length session.commands) < 100000
      → (let plan : LabPlan = draft names known (inside front job sessions session) in
      (cause_in (state true bare plan) (line_of_command names command) ≡ None)
      × (after (state true bare plan) (line_of_command names command)
      ≡ state true false (draft names (max known (suc command.0)) (inside front job sessions (and_command command.0 command.1 session)))))
  one_taken known bare session command most near can few =
      let jobs = inside front job sessions session in
      let name = get_or names command.0 [] in
      let size : length (all_commands (draft names known jobs)) < 100000 =
      (let a = size_one front job (sessions ++ session ∷ []) in let b = size_more sessions session in omega (arith, a, b)) in
      let named = name_right names h command.0 can.0 in
      let number = number_right command.1 can.1 in
      let rooms = room names h known command.0 most near can.0 jobs size in
      let kept = number_kept command.1 can.1 in
      let more = command_more names h known command.0 most near can.0 command.1 front job sessions session in (
        (λ i. at (not (named i)) BadName (at (number i) BadNumber (at (rooms i) LimitPassed None))),
        ap (λ v. state true false (with_command name v (draft names known jobs))) kept ∙ ap (state true false) more,
      )

  commands_taken : (known : ℕ) (bare : Bool) (session : SessionPlan) (commands : List (ℕ × Verb))
      → known ≤ length names → InOrder known commands → AllByRecursion (CanSay names) commands
      → length (job_commands front) + (length (session_commands sessions) + length session.commands) + length commands ≤ 100000
      → AreTaken (state true bare (draft names known (inside front job sessions session))) (map (line_of_command names) commands)
      (state true (bare_behind bare commands) (draft names (known_after known commands) (inside front job sessions (and_commands session commands))))
  commands_taken known bare session [] most order all few =
      sym (ap (λ l. state true bare (draft names known (inside front job sessions (record { patience = session.patience; commands = l }))))
      (append-nil session.commands))
  commands_taken known bare session (command ∷ commands) most order all few =
      let near : command.0 ≤ known = order.0 in
      let there : command.0 < length names = all.0.0 in
      let one = one_taken known bare session command most order.0 all.0 (omega arith) in
      let grown = length-append session.commands (command ∷ []) in
      let next : SessionPlan = and_command command.0 command.1 session in
      let rest = commands_taken (max known (suc command.0)) false next commands (omega arith) order.1 all.1 (omega (arith, grown)) in
      let same : and_commands next commands ≡ and_commands session (command ∷ commands) =
      ap (λ l. let s : SessionPlan = record { patience = session.patience; commands = l } in s) (append_assoc session.commands (command ∷ []) commands) in
      let target = known_after (max known (suc command.0)) commands in
      let last : bare_behind false commands ≡ false = false_behind commands in (
        one.0,
        subst (λ s. AreTaken s (map (line_of_command names) commands)
            (state true false (draft names target (inside front job sessions (and_commands session (command ∷ commands)))))) (sym one.1)
            (subst (λ t. AreTaken (state true false (draft names (max known (suc command.0)) (inside front job sessions next)))
            (map (line_of_command names) commands) t)
            (λ i. state true (last i) (draft names target (inside front job sessions (same i)))) rest),
      )
    where
      false_behind : (cs : List (ℕ × Verb)) → bare_behind false cs ≡ false
      false_behind [] = refl
      false_behind (c ∷ cs) = refl

-- ---- sessions

within_names : (names : List (List ℕ)) (commands : List (ℕ × Verb)) → AllByRecursion (CanSay names) commands
    → AllByRecursion (λ (command : ℕ × Verb). command.0 < length names) commands
within_names names [] all = all
within_names names (command ∷ commands) all = (all.0.0, within_names names commands all.1)

-- between two sessions
abbrev pub out : List (List ℕ) → ℕ → List JobPlan → State
out names known jobs = state false false (draft names known jobs)

first_taken : (names : List (List ℕ)) (known : ℕ) (front : List JobPlan) (job : List ℕ) (sessions : List SessionPlan) (patience : Option ℕ)
    → ForSome patience (λ n. n ≤ 999999) → length sessions < 1000
    → (cause_in (out names known (front ++ job_with job sessions ∷ [])) (first_line patience) ≡ None)
    × (after (out names known (front ++ job_with job sessions ∷ [])) (first_line patience)
    ≡ state true true (draft names known (inside front job sessions (record { patience = patience; commands = [] }))))
first_taken names known front job sessions patience fits few = by_case patience fits
  where
    some : nat_lt 0 (length (front ++ job_with job sessions ∷ [])) ≡ true
    some = less 0 (length (front ++ job_with job sessions ∷ [])) (omega (arith, length-append front (job_with job sessions ∷ [])))

    room_left : nat_le 1000 (length (last_job (draft names known (front ++ job_with job sessions ∷ []))).sessions) ≡ false
    room_left = ap (λ (j : JobPlan). nat_le 1000 (length j.sessions)) (last_pushed front (job_with job sessions) no_job)
        ∙ not_at_most 1000 (length sessions) few

    by_case : (patience : Option ℕ) → ForSome patience (λ n. n ≤ 999999)
        → (cause_in (out names known (front ++ job_with job sessions ∷ [])) (first_line patience) ≡ None)
        × (after (out names known (front ++ job_with job sessions ∷ [])) (first_line patience)
        ≡ state true true (draft names known (inside front job sessions (record { patience = patience; commands = [] }))))
    by_case None fits = (
      λ i. at (not (some i)) NotInJob (at (room_left i) LimitPassed None),
      ap (state true true) (session_more names known None front job sessions),
    )
    by_case (Some n) fits =
        let small = fits n refl in
        let number = decimal_is_number n small in (
          λ i. at (not (some i)) NotInJob (at (not (number i)) BadNumber (at (room_left i) LimitPassed None)),
          ap (λ m. state true true (with_session (Some m) (draft names known (front ++ job_with job sessions ∷ [])))) (reads_back n small)
              ∙ ap (state true true) (session_more names known (Some n) front job sessions),
        )

module _ (names : List (List ℕ)) (h : AreInstruments names) (front : List JobPlan) (job : List ℕ) where
  session_taken : (known : ℕ) (sessions : List SessionPlan) (session : SessionPlan)
      → known ≤ length names → InOrder known session.commands → CanRun names session → length sessions < 1000
      → length (job_commands front) + length (session_commands sessions) + length session.commands ≤ 100000
      → AreTaken (out names known (front ++ job_with job sessions ∷ [])) (lines_of_session names session)
      (out names (known_after known session.commands) (inside front job sessions session))
  session_taken known sessions session most order can few total =
      let first = first_taken names known front job sessions session.patience can.patience few in
      let bare : SessionPlan = record { patience = session.patience; commands = [] } in
      let target = known_after known session.commands in
      let said = commands_taken names h front job sessions known true bare session.commands most order can.commands (omega (arith, total)) in
      let filled : State = state true (bare_behind true session.commands) (draft names target (inside front job sessions session)) in
      let last = not_bare session.commands can.some in
      let ends : AreTaken filled (End ∷ []) (out names target (inside front job sessions session)) =
      subst (λ b. AreTaken (state true b (draft names target (inside front job sessions session)))
      (End ∷ []) (out names target (inside front job sessions session))) (sym last) (refl, refl) in
      let lines = map (line_of_command names) session.commands in (
        first.0,
        subst (λ s. AreTaken s (lines ++ End ∷ []) (out names target (inside front job sessions session))) (sym first.1)
            (taken-append (state true true (draft names known (inside front job sessions bare))) filled
            (out names target (inside front job sessions session)) lines (End ∷ []) said ends),
      )

  pub sessions_taken : (known : ℕ) (done sessions : List SessionPlan) → known ≤ length names
      → InOrder known (session_commands sessions) → AllByRecursion (CanRun names) sessions → length done + length sessions ≤ 1000
      → length (job_commands front) + length (session_commands done) + length (session_commands sessions) ≤ 100000
      → AreTaken (out names known (front ++ job_with job done ∷ [])) (flat_map (lines_of_session names) sessions)
      (out names (known_after known (session_commands sessions)) (front ++ job_with job (done ++ sessions) ∷ []))
  sessions_taken known done [] most order all few total = sym (ap (λ l. out names known (front ++ job_with job l ∷ [])) (append-nil done))
  sessions_taken known done (session ∷ sessions) most order all few total =
      let parts = in_order_parts known session.commands (session_commands sessions) order in
      let sizes = length-append session.commands (session_commands sessions) in
      let one = session_taken known done session most parts.0 all.0 (omega arith) (omega (arith, total, sizes)) in
      let target = known_after known session.commands in
      let pushed = length-append done (session ∷ []) in
      let size = size_more done session in
      let rest =
      sessions_taken target (done ++ session ∷ [])
      sessions (known_within known (length names) session.commands most (within_names names session.commands all.0.commands)) parts.1 all.1
      (omega (arith, pushed, few)) (omega (arith, size, total, sizes)) in
      let end : State = out names (known_after known (session_commands (session ∷ sessions))) (front ++ job_with job (done ++ session ∷ sessions) ∷ []) in
      taken-append (out names known (front ++ job_with job done ∷ [])) (out names target (inside front job done session)) end
      (lines_of_session names session) (flat_map (lines_of_session names) sessions) one
      (subst (λ t. AreTaken (out names target (inside front job done session)) (flat_map (lines_of_session names) sessions) t)
      (λ i. out names (sym (known_after-append known session.commands (session_commands sessions)) i)
      (front ++ job_with job (append_assoc done (session ∷ []) sessions i) ∷ [])) rest)

-- ---- jobs

other_names : (front jobs : List JobPlan) (job : JobPlan) → AllPairs (λ (a b : JobPlan). a.name ≢ b.name) (front ++ job ∷ jobs)
    → list_any (λ (other : JobPlan). bytes_eq job.name other.name) front ≡ false
other_names front jobs job distinct =
    list_any_none (λ (other : JobPlan). bytes_eq job.name other.name) front (λ k d inside. false_from_ne_true _ (λ e.
    let whole = length-append front (job ∷ jobs) in
    let here = get_or_at front job jobs d (length front) refl in
    let there = get_or_append_left front (job ∷ jobs) d k inside in
    let same = (bytes_eq-Decides job.name (get_or front k d).name).0 e in
    distinct k (length front) d inside (omega (arith, whole)) (ap (λ (j : JobPlan). j.name) there ∙ sym same ∙ sym (ap (λ (j : JobPlan). j.name) here))))

job_taken : (names : List (List ℕ)) (known : ℕ) (front jobs : List JobPlan) (job : JobPlan)
    → IsName job.name → AllPairs (λ (a b : JobPlan). a.name ≢ b.name) (front ++ job ∷ jobs) → length front < 32
    → cause_in (out names known front) (Job job.name) ≡ None
job_taken names known front jobs job named distinct few =
    let new = other_names front jobs job distinct in
    let room_left = not_at_most 32 (length front) few in
    let right : is_name job.name ≡ true = named in
    λ i. at (not (right i)) BadName (at (new i) JobTwice (at (room_left i) LimitPassed None))

commands_within : (names : List (List ℕ)) (sessions : List SessionPlan) → AllByRecursion (CanRun names) sessions
    → AllByRecursion (λ (command : ℕ × Verb). command.0 < length names) (session_commands sessions)
commands_within names [] all = tt
commands_within names (session ∷ sessions) all =
    both session.commands (session_commands sessions) (within_names names session.commands all.0.commands) (commands_within names sessions all.1)
  where
    both : (xs ys : List (ℕ × Verb)) → AllByRecursion (λ (command : ℕ × Verb). command.0 < length names) xs
        → AllByRecursion (λ (command : ℕ × Verb). command.0 < length names) ys → AllByRecursion (λ (command : ℕ × Verb). command.0 < length names) (xs ++ ys)
    both [] ys h k = k
    both (x ∷ xs) ys h k = (h.0, both xs ys h.1 k)

pub jobs_taken : (names : List (List ℕ)) → AreInstruments names → (known : ℕ) (front jobs : List JobPlan)
    → known ≤ length names → InOrder known (job_commands jobs) → AllByRecursion (CanBegin names) jobs
    → AllPairs (λ (a b : JobPlan). a.name ≢ b.name) (front ++ jobs) → length front + length jobs ≤ 32
    → length (job_commands front) + length (job_commands jobs) ≤ 100000
    → AreTaken (out names known front) (flat_map (lines_of_job names) jobs) (out names (known_after known (job_commands jobs)) (front ++ jobs))
jobs_taken names h known front [] most order all distinct few total = sym (ap (out names known) (append-nil front))
jobs_taken names h known front (job ∷ jobs) most order all distinct few total =
    let own = session_commands job.sessions in
    let parts = in_order_parts known own (job_commands jobs) order in
    let sizes = length-append own (job_commands jobs) in
    let target = known_after known own in
    let begun = job_taken names known front jobs job all.0.is_name distinct (omega arith) in
    let middle : State = out names target (front ++ job ∷ []) in
    let sessions = sessions_taken names h front job.name known [] job.sessions most parts.0 all.0.sessions
    (let limit = all.0.few in omega arith) (omega (arith, total, sizes)) in
    let pushed = length-append front (job ∷ []) in
    let size = size_one front job.name job.sessions in
    let rest = jobs_taken names h target (front ++ job ∷ []) jobs
    (known_within known (length names) own most (commands_within names job.sessions all.0.sessions)) parts.1 all.1
    (subst (AllPairs (λ (a b : JobPlan). a.name ≢ b.name)) (sym (append_assoc front (job ∷ []) jobs)) distinct)
    (omega (arith, pushed, few)) (omega (arith, size, total, sizes)) in
    let end : State = out names (known_after known (job_commands (job ∷ jobs))) (front ++ job ∷ jobs) in
    taken-append (out names known front) middle end (lines_of_job names job) (flat_map (lines_of_job names) jobs) (begun, sessions)
    (subst (λ t. AreTaken middle (flat_map (lines_of_job names) jobs) t)
    (λ i. out names (sym (known_after-append known own (job_commands jobs)) i) (append_assoc front (job ∷ []) jobs i)) rest)
