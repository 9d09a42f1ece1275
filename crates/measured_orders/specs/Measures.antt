-- For readers: what a run by rounds is measured by, and which of two is better.
use Rattle.std.specs.Prelude.{ℕ, ◌≡◌, ◌==◌, nat_lt, Bool, true, false, List, if◌then◌else◌}
use Rattle.std.specs.List.{sum_by}
use Rattle.lab_plan.specs.LabPlan.{LabPlan}
use Rattle.script_reader.specs.Script.{ScriptMeans}
use Rattle.waiting.specs.LongestWait.{waited}
use Rattle.waiting.specs.Waits.{RunView, JobRounds, IsRunOf}
use Rattle.measured_orders.specs.declared.measure.Measure.{Measure}

-- how many rounds a job's sessions waited, all together; and those of all jobs
abbrev pub job_waited : ℕ → JobRounds → ℕ
job_waited last job = sum_by (waited last) job.sessions

abbrev pub waited_in_all : RunView → ℕ
waited_in_all run = sum_by (job_waited run.number) run.jobs

-- whether all jobs were retired, after how many rounds, and how many their sessions waited
abbrev pub measure_of : RunView → Measure
measure_of run = record { finished = run.retired; rounds = run.number; waited = waited_in_all run }

-- the run of the plan by at most so many rounds has this measure
pub record IsMeasureOf (plan : LabPlan) (limit : ℕ) (measure : Measure) : Type 0 where
  pub run : RunView
  pub is_run : IsRunOf plan limit run
  pub measured : measure ≡ measure_of run

-- the text is a script, and its run has
pub record IsScriptMeasure (text : List ℕ) (limit : ℕ) (measure : Measure) : Type 0 where
  pub plan : LabPlan
  pub means : ScriptMeans text plan
  pub ran : IsMeasureOf plan limit measure

-- fewer rounds, or as many with less waiting
abbrev pub takes_less : Measure → Measure → Bool
takes_less a b = if a.rounds == b.rounds then nat_lt a.waited b.waited else nat_lt a.rounds b.rounds

-- a run that finished is better than one that didn't; of two that did, or that didn't, the one that takes less
abbrev pub is_better : Measure → Measure → Bool
is_better a b = if a.finished then (if b.finished then takes_less a b else true) else (if b.finished then false else takes_less a b)

-- the second isn't better than the first
abbrev pub NoWorse : Measure → Measure → Type 0
NoWorse a b = is_better b a ≡ false

-- a plan and a limit have one measure
abbrev pub OneMeasure : Type 0
OneMeasure = (plan : LabPlan) (limit : ℕ) (a b : Measure) → IsMeasureOf plan limit a → IsMeasureOf plan limit b → a ≡ b
