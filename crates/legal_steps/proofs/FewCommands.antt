-- A session, and a job, has at most as many commands as the whole plan.
use Rattle.std.proofs.Common.{◌≡◌, ℕ, zero, suc, ◌-◌, ◌≤◌, List, [], ◌∷◌, length, slice_index_or, arith, refl, length-append}
use Rattle.std.specs.List.{flat_map}
use Rattle.lab_plan.specs.declared.verb.Verb.{Verb}
use Rattle.lab_plan.specs.LabPlan.{LabPlan, JobPlan, SessionPlan, no_job, no_session, job_at, sessions, commands, all_commands}
use Rattle.lab_plan.specs.IsPlan.{IsPlan}

part_of_all : {X Y : Type 0} (f : X → List Y) (xs : List X) (k : ℕ) (d : X) → length (f d) ≡ 0
    → length (f (slice_index_or xs k d)) ≤ length (flat_map f xs)
part_of_all f [] k d none = omega (arith, none)
part_of_all f (x ∷ xs) zero d none = omega (arith, length-append (f x) (flat_map f xs))
part_of_all f (x ∷ xs) (suc k) d none = omega (arith, length-append (f x) (flat_map f xs), part_of_all f xs k d none)

-- the commands of a job
abbrev pub of_job : JobPlan → List (ℕ × Verb)
of_job job = flat_map (λ (session : SessionPlan). session.commands) job.sessions

pub in_plan : (plan : LabPlan) (j : ℕ) → length (of_job (job_at plan j)) ≤ length (all_commands plan)
in_plan plan j = part_of_all (λ (job : JobPlan). of_job job) plan.jobs j no_job refl

pub few_commands : (plan : LabPlan) (j s : ℕ) → IsPlan plan → length (commands plan j s) ≤ 100000
few_commands plan j s is =
    let in_job : length (commands plan j s) ≤ length (of_job (job_at plan j)) =
    part_of_all (λ (session : SessionPlan). session.commands) (sessions plan j) (s - 1) no_session refl in
    omega (arith, in_job, in_plan plan j, is.draft.few_commands)
