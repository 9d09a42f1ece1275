-- For readers: the counts of a plan, as one line.
use Rattle.std.specs.Prelude.{ℕ, List, ◌++◌, length, codes, decimal}
use Rattle.std.specs.List.{sum_by}
use Rattle.lab_runs.specs.declared.counts.PlanCounts.{PlanCounts}
use Rattle.lab_plan.specs.LabPlan.{SessionPlan, JobPlan, LabPlan, edges}

-- how many sessions the jobs have together, and how many commands
abbrev pub session_count : LabPlan → ℕ
session_count plan = sum_by (λ (job : JobPlan). length job.sessions) plan.jobs

abbrev pub commands_of : List SessionPlan → ℕ
commands_of sessions = sum_by (λ (session : SessionPlan). length session.commands) sessions

abbrev pub command_count : LabPlan → ℕ
command_count plan = sum_by (λ (job : JobPlan). commands_of job.sessions) plan.jobs

abbrev pub counts_of : LabPlan → PlanCounts
counts_of plan = record {
  jobs = length plan.jobs;
  instruments = length plan.instruments;
  edges = length (edges plan);
  sessions = session_count plan;
  commands = command_count plan;
}

-- `ok jobs J instruments I edges E sessions S commands C`
abbrev pub counts_text : PlanCounts → List ℕ
counts_text counts =
    codes "ok jobs " ++ decimal counts.jobs ++ codes " instruments " ++ decimal counts.instruments ++ codes " edges " ++ decimal counts.edges
    ++ codes " sessions " ++ decimal counts.sessions ++ codes " commands " ++ decimal counts.commands ++ codes "\n"

abbrev pub counts_line : LabPlan → List ℕ
counts_line plan = counts_text (counts_of plan)
