-- The counts of a plan, added up one after another.
use Rattle.std.proofs.Common.{◌≡◌, ℕ, ◌+◌, ◌-◌, ◌<◌, ◌≤◌, List, [], ◌∷◌, length, length-append, take, slice_index_or, arith, refl, sym, ap, ◌∙◌}
use Rattle.std.specs.List.{sum_by, flat_map}
use Rattle.std.proofs.lemmas.List.Sums.{sum_by_more_le, sum_by-cons}
use Rattle.std.proofs.lemmas.List.Concat.{length-flat_map, flat_map-cons}
use Rattle.lab_plan.specs.declared.verb.Verb.{Verb}
use Rattle.lab_plan.specs.LabPlan.{SessionPlan, JobPlan, LabPlan, no_session, no_job, session_at, sessions}
use Rattle.lab_plan.specs.IsPlan.{IsPlan}
use Rattle.lab_runs.specs.Counts.{commands_of, command_count}

-- ---- sessions

-- the sessions of the first n jobs
abbrev pub sessions_to : LabPlan → ℕ → ℕ
sessions_to plan n = sum_by (λ (job : JobPlan). length job.sessions) (take n plan.jobs)

-- ---- the commands of a job

-- those of the first n sessions
abbrev pub commands_to : List SessionPlan → ℕ → ℕ
commands_to all n = commands_of (take n all)

session_here : (plan : LabPlan) (j n : ℕ) → session_at plan j (n + 1) ≡ slice_index_or (sessions plan j) n no_session
session_here plan j n = let place : (n + 1) - 1 ≡ n = omega arith in ap (λ k. slice_index_or (sessions plan j) k no_session) place

length_here : (plan : LabPlan) (j n : ℕ) → length (session_at plan j (n + 1)).commands ≡ length (slice_index_or (sessions plan j) n no_session).commands
length_here plan j n = ap (λ (session : SessionPlan). length session.commands) (session_here plan j n)

-- ---- the commands of all jobs

-- those of the first n jobs
abbrev pub job_commands_to : LabPlan → ℕ → ℕ
job_commands_to plan n = sum_by (λ (job : JobPlan). commands_of job.sessions) (take n plan.jobs)

-- ---- there are at most 100000

abbrev commands_in : JobPlan → List (ℕ × Verb)
commands_in job = flat_map (λ (session : SessionPlan). session.commands) job.sessions

counted : (all : List JobPlan) → length (flat_map commands_in all) ≡ sum_by (λ (job : JobPlan). commands_of job.sessions) all
counted [] = refl
counted (job ∷ all) =
    let of_job : length (commands_in job) ≡ commands_of job.sessions = length-flat_map (λ (session : SessionPlan). session.commands) job.sessions in
    ap length (flat_map-cons commands_in job all) ∙ length-append (commands_in job) (flat_map commands_in all)
    ∙ ap (λ n. n + length (flat_map commands_in all)) of_job ∙ ap (λ n. commands_of job.sessions + n) (counted all)
    ∙ sym (sum_by-cons (λ (job : JobPlan). commands_of job.sessions) job all)

few : (plan : LabPlan) → IsPlan plan → command_count plan ≤ 100000
few plan is = omega (arith, counted plan.jobs, is.draft.few_commands)

pub job_commands_few : (plan : LabPlan) (n : ℕ) → IsPlan plan → n < length plan.jobs → job_commands_to plan n + commands_of (sessions plan n) ≤ 100000
job_commands_few plan n is inside = omega (arith, sum_by_more_le (λ (job : JobPlan). commands_of job.sessions) plan.jobs n no_job inside, few plan is)

pub commands_few : (plan : LabPlan) (j n : ℕ) → IsPlan plan → j < length plan.jobs → n < length (sessions plan j)
    → commands_to (sessions plan j) n + length (session_at plan j (n + 1)).commands ≤ 100000
commands_few plan j n is there inside =
    omega (
      arith,
      sum_by_more_le (λ (session : SessionPlan). length session.commands) (sessions plan j) n no_session inside,
      length_here plan j n,
      job_commands_few plan j is there,
    )
