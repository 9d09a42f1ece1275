-- For readers: what every plan keeps.
use Rattle.std.specs.Prelude.{◌≡◌, ◌≢◌, ◌⊎◌, ℕ, ◌<◌, ◌≤◌, length, map}
use Rattle.std.specs.List.{All, AllPairs, range_with_len}
use Rattle.std.specs.Option.{ForSome}
use Rattle.lab_plan.specs.Limits.{most_jobs, most_instruments, most_sessions, most_commands, most_bottles, largest_number}
use Rattle.lab_plan.specs.LabPlan.{LabPlan, sessions, commands, patience, edges, bottles, all_commands, firsts}
use Rattle.lab_plan.specs.Names.{IsName}
use Rattle.lab_plan.specs.Verbs.{Fits}

-- the commands of every session are on instruments of the plan
abbrev pub IsNamed : LabPlan → Type 0
IsNamed plan = (j session : ℕ) → All (λ command. command.0 < length plan.instruments) (commands plan j session)

-- the numbers of every command fit the dial
abbrev pub AllFit : LabPlan → Type 0
AllFit plan = (j session : ℕ) → All (λ command. Fits command.1) (commands plan j session)

-- a plan as far as it is built: within the limits, its names names and distinct,
-- its instruments numbered in order of first naming, and patience only in version 2
pub record IsDraft (plan : LabPlan) : Type 0 where
  pub version : (plan.version ≡ 1) ⊎ (plan.version ≡ 2)
  pub few_jobs : length plan.jobs ≤ most_jobs
  pub few_instruments : length plan.instruments ≤ most_instruments
  pub few_sessions : (j : ℕ) → length (sessions plan j) ≤ most_sessions
  pub few_commands : length (all_commands plan) ≤ most_commands
  pub job_names : All (λ job. IsName job.name) plan.jobs
  pub jobs_distinct : AllPairs (λ a b. a.name ≢ b.name) plan.jobs
  pub instrument_names : All IsName plan.instruments
  pub instruments_distinct : AllPairs (λ a b. a ≢ b) plan.instruments
  pub named : IsNamed plan
  pub in_order : firsts (map (λ command. command.0) (all_commands plan)) ≡ range_with_len 0 (length plan.instruments)
  pub fit : AllFit plan
  pub patient : (j session : ℕ) → ForSome (patience plan j session) (λ n. (plan.version ≡ 2) × (n ≤ largest_number))

-- a whole plan: besides, no session is empty, and no edge has more bottles than it may
pub record IsPlan (plan : LabPlan) : Type 0 where
  pub draft : IsDraft plan
  pub not_empty : (j session : ℕ) → 1 ≤ session → session ≤ length (sessions plan j) → 0 < length (commands plan j session)
  pub few_bottles : (e : ℕ) → e < length (edges plan) → length (bottles plan e) ≤ most_bottles
