-- Building a plan, one line at a time.
use Rattle.std.specs.Prelude.{◌≡◌, ◌⊎◌, ℕ, ◌+◌, ◌-◌, ◌<◌, ◌≤◌, Bool, true, false, ◌&&◌, ◌||◌, not, nat_le, nat_lt, ◌==◌, List, []}
use Rattle.std.specs.Prelude.{◌∷◌, ◌++◌, length, Option, None, Some, Result, Ok, Err, slice_index_or, if◌then◌else◌}
use Rattle.std.specs.List.{list_any, position, position_or_len}
use Rattle.std.specs.Option.{MatchOption}
use Rattle.std.specs.Str.{bytes_eq}
use Rattle.lab_plan.specs.declared.verb.Verb.{Verb}
use Rattle.lab_plan.specs.declared.refusal.PlanRefusal.{PlanRefusal}
use Rattle.lab_plan.specs.declared.refusal.PlanRefusal.TheVariants.{LimitPassed, SessionEmpty, JobTwice, TooManyInCommon, NoMemory}
use Rattle.lab_plan.specs.Limits.{most_jobs, most_instruments, most_sessions, most_commands, most_bottles}
use Rattle.lab_plan.specs.LabPlan.{SessionPlan, JobPlan, LabPlan, no_session, no_job, sessions, commands, edges, common, all_commands}

-- ---- what each call adds

-- the plan before its first line
abbrev pub empty_plan : ℕ → LabPlan
empty_plan version = record { version = version; jobs = []; instruments = [] }

-- a list with its last element changed
abbrev pub on_last : {X : Type 0} → (X → X) → List X → List X
on_last change [] = []
on_last change (x ∷ []) = change x ∷ []
on_last change (x ∷ y ∷ xs) = x ∷ on_last change (y ∷ xs)

-- one more job
abbrev pub with_job : List ℕ → LabPlan → LabPlan
with_job name plan = record plan { jobs = plan.jobs ++ record { name = name; sessions = [] } ∷ [] }

-- one more session of the last job
abbrev pub and_session : Option ℕ → JobPlan → JobPlan
and_session patience job = record job { sessions = job.sessions ++ record { patience = patience; commands = [] } ∷ [] }

abbrev pub with_session : Option ℕ → LabPlan → LabPlan
with_session patience plan = record plan { jobs = on_last (and_session patience) plan.jobs }

-- the number of a job, if one has the name
abbrev pub job_number : List ℕ → LabPlan → Option ℕ
job_number name plan = position (λ (job : JobPlan). bytes_eq name job.name) plan.jobs

-- the number of an instrument: its place among the names, or the next if it is new
abbrev pub instrument_number : List ℕ → LabPlan → ℕ
instrument_number name plan = position_or_len (bytes_eq name) plan.instruments

abbrev pub is_instrument : List ℕ → LabPlan → Bool
is_instrument name plan = list_any (bytes_eq name) plan.instruments

-- the place of a name among the instruments, or that it has none
abbrev pub IsPlace : List ℕ → LabPlan → Option ℕ → Type 0
IsPlace name plan place = MatchOption place ((is_instrument name plan ≡ false) × (instrument_number name plan ≡ length plan.instruments))
    (λ i. (is_instrument name plan ≡ true) × (i ≡ instrument_number name plan) × (i < length plan.instruments))

-- one more command of the last session of the last job
abbrev pub and_command : ℕ → Verb → SessionPlan → SessionPlan
and_command i verb session = record session { commands = session.commands ++ (i, verb) ∷ [] }

abbrev pub in_last_session : ℕ → Verb → JobPlan → JobPlan
in_last_session i verb job = record job { sessions = on_last (and_command i verb) job.sessions }

abbrev pub with_command : List ℕ → Verb → LabPlan → LabPlan
with_command name verb plan = record plan {
  jobs = on_last (in_last_session (instrument_number name plan) verb) plan.jobs;
  instruments = if is_instrument name plan then plan.instruments else plan.instruments ++ name ∷ [];
}

-- ---- what is refused, except that no memory is left

abbrev pub last_job : LabPlan → JobPlan
last_job plan = slice_index_or plan.jobs (length plan.jobs - 1) no_job

abbrev pub last_session : LabPlan → SessionPlan
last_session plan = slice_index_or (last_job plan).sessions (length (last_job plan).sessions - 1) no_session

-- the last job has a session
abbrev pub has_session : LabPlan → Bool
has_session plan = nat_lt 0 (length (last_job plan).sessions)

-- the last session has no command yet
abbrev pub is_bare : LabPlan → Bool
is_bare plan = has_session plan && (length (last_session plan).commands == 0)

-- every session has a command, but for the last session of the last job
abbrev pub AreClosed : LabPlan → Type 0
AreClosed plan = (j s : ℕ) → 1 ≤ s → s ≤ length (sessions plan j)
    → (0 < length (commands plan j s)) ⊎ ((j + 1 ≡ length plan.jobs) × (s ≡ length (sessions plan j)))

abbrev pub is_job : List ℕ → LabPlan → Bool
is_job name plan = list_any (λ job. bytes_eq name job.name) plan.jobs

abbrev pub job_refusal : List ℕ → LabPlan → Option PlanRefusal
job_refusal name plan =
    if is_bare plan then Some SessionEmpty
    else (if is_job name plan then Some JobTwice else (if nat_le most_jobs (length plan.jobs) then Some LimitPassed else None))

abbrev pub session_refusal : LabPlan → Option PlanRefusal
session_refusal plan = if is_bare plan then Some SessionEmpty else (if nat_le most_sessions (length (last_job plan).sessions) then Some LimitPassed else None)

-- one more command, or the instrument that it would bring, is past a limit
abbrev pub is_past_limit : List ℕ → LabPlan → Bool
is_past_limit name plan =
    nat_le most_commands (length (all_commands plan)) || (not (is_instrument name plan) && nat_le most_instruments (length plan.instruments))

abbrev pub command_refusal : List ℕ → LabPlan → Option PlanRefusal
command_refusal name plan = if is_past_limit name plan then Some LimitPassed else None

-- two jobs have too many instruments in common
abbrev pub has_too_many_in_common : LabPlan → Bool
has_too_many_in_common plan = list_any (λ pair. nat_lt most_bottles (length (common plan pair))) (edges plan)

abbrev pub finish_refusal : LabPlan → Option PlanRefusal
finish_refusal plan = if is_bare plan then Some SessionEmpty else (if has_too_many_in_common plan then Some TooManyInCommon else None)

-- what a call answers: done and changed as wanted, or refused and unchanged; that no memory is left comes last
abbrev pub Does : Option PlanRefusal → LabPlan → LabPlan → Result (Unit {0}) PlanRefusal → LabPlan → Type 0
Does refusal wanted old (Ok _) new = (refusal ≡ None) × (new ≡ wanted)
Does refusal wanted old (Err NoMemory) new = (refusal ≡ None) × (new ≡ old)
Does refusal wanted old (Err cause) new = (refusal ≡ Some cause) × (new ≡ old)

-- a cause as the refusals have it, which leave out that no memory is left
abbrev pub but_memory : PlanRefusal → Option PlanRefusal
but_memory NoMemory = None
but_memory cause = Some cause

-- what finishing answers: the plan, or the cause and the builder as it was; that no memory is left comes last
abbrev pub Finishes : Option PlanRefusal → LabPlan → Result LabPlan (PlanRefusal × LabPlan) → Type 0
Finishes refusal plan (Ok made) = (refusal ≡ None) × (made ≡ plan)
Finishes refusal plan (Err refused) = (refusal ≡ but_memory refused.0) × (refused.1 ≡ plan)
