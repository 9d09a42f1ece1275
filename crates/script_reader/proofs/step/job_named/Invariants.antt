use Rattle.std.proofs.Common.{◌≡◌, ◌<◌, ℕ, false}
use Rattle.std.specs.Str.{bytes_eq}
use Rattle.lab_plan.specs.LabPlan.{job_at}
use Rattle.script_reader.proofs.step.job_named.Given as goal

-- no job before has the name
abbrev pub invariant-loop-number : goal.invariant-loop-number
invariant-loop-number g l = (k : ℕ) → k < l.number → bytes_eq l.name (job_at l.plan k).name ≡ false
