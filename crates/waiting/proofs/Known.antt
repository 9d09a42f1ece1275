-- What is known of a run of a plan.
use Rattle.std.proofs.Common.{◌≡◌, ℕ, length, ap, ◌∙◌}
use Rattle.std.proofs.lemmas.List.FromFn.{length-map-range_with_len}
use Rattle.lab_plan.specs.LabPlan.{LabPlan}
use Rattle.waiting.specs.Waits.{RunView, IsRunOf, rounds_of}

-- it is known of each job
pub many : (plan : LabPlan) (limit : ℕ) (run : RunView) → IsRunOf plan limit run → length run.jobs ≡ length plan.jobs
many plan limit run is = ap (λ (r : RunView). length r.jobs) is.known ∙ length-map-range_with_len (rounds_of is.rounds) 0 (length plan.jobs)
