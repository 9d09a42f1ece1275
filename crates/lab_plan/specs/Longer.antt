-- For readers: a plan that gets longer: one more session of a job, of instruments that this job names already, so that edges and bottles stay.
use Rattle.std.specs.Prelude.{◌≡◌, ℕ, ◌+◌, Bool, true, ◌&&◌, ◌||◌, not, ◌==◌, nat_le, nat_lt, List, [], ◌∷◌, ◌++◌, length}
use Rattle.std.specs.Prelude.{Option, None, Some, Result, Ok, Err, slice_set, if◌then◌else◌}
use Rattle.std.specs.List.{list_all}
use Rattle.lab_plan.specs.declared.verb.Verb.{Verb}
use Rattle.lab_plan.specs.declared.refusal.MoreRefusal.{MoreRefusal}
use Rattle.lab_plan.specs.declared.refusal.MoreRefusal.TheVariants.{Empty, LimitPassed, NotItsOwn, NotPatient, TooLarge, NoMemory}
use Rattle.lab_plan.specs.Limits.{most_sessions, most_commands, largest_number}
use Rattle.lab_plan.specs.Verbs.{verb_number}
use Rattle.lab_plan.specs.LabPlan.{LabPlan, SessionPlan, JobPlan, job_at, sessions, any_on, names, all_commands}

-- the session with this patience and these commands
abbrev pub session_of : Option ℕ → List (ℕ × Verb) → SessionPlan
session_of patience commands = record { patience = patience; commands = commands }

-- the job with the session behind its others
abbrev pub with_session : JobPlan → SessionPlan → JobPlan
with_session job session = record job { sessions = job.sessions ++ session ∷ [] }

-- the plan with one more session of job j
abbrev pub with_one_more : LabPlan → ℕ → SessionPlan → LabPlan
with_one_more plan j session = record plan { jobs = slice_set plan.jobs j (with_session (job_at plan j) session) }

-- the job names each instrument of the session already
abbrev pub IsOfItsOwn : LabPlan → ℕ → SessionPlan → Type 0
IsOfItsOwn plan j session = (i : ℕ) → any_on i session.commands ≡ true → names plan j i ≡ true

-- ---- what is refused, except that no memory is left

-- the job has as many sessions as it may, or the plan would have more commands than it may
abbrev pub is_past_limit : LabPlan → ℕ → SessionPlan → Bool
is_past_limit plan j session =
    nat_le most_sessions (length (sessions plan j)) || nat_lt most_commands (length (all_commands plan) + length session.commands)

-- the job names the instrument of each command
abbrev pub are_its_own : LabPlan → ℕ → List (ℕ × Verb) → Bool
are_its_own plan j commands = list_all (λ command. names plan j command.0) commands

-- a session without a patience, or a patience that a plan of version 2 may have
abbrev pub may_be_patient : LabPlan → Option ℕ → Bool
may_be_patient plan None = true
may_be_patient plan (Some n) = (plan.version == 2) && nat_le n largest_number

-- the numbers of the commands are the dial's
abbrev pub all_fit : List (ℕ × Verb) → Bool
all_fit commands = list_all (λ command. nat_le (verb_number command.1) largest_number) commands

-- the first cause of these, if there is one
abbrev pub more_refusal : LabPlan → ℕ → SessionPlan → Option MoreRefusal
more_refusal plan j session =
    if length session.commands == 0 then Some Empty
    else (if is_past_limit plan j session then Some LimitPassed
    else (if not (are_its_own plan j session.commands) then Some NotItsOwn
    else (if not (may_be_patient plan session.patience) then Some NotPatient
    else (if not (all_fit session.commands) then Some TooLarge else None))))

-- what adding a session answers: the longer plan, or the first cause and the plan as it was; that no memory is left comes last
abbrev pub Adds : LabPlan → ℕ → SessionPlan → Result (Unit {0}) MoreRefusal → LabPlan → Type 0
Adds plan j session (Ok _) new = (more_refusal plan j session ≡ None) × (new ≡ with_one_more plan j session)
Adds plan j session (Err NoMemory) new = (more_refusal plan j session ≡ None) × (new ≡ plan)
Adds plan j session (Err cause) new = (more_refusal plan j session ≡ Some cause) × (new ≡ plan)
