-- A plan and a limit have one run by rounds, so one measure.
use Rattle.std.proofs.Common.{◌≡◌, ℕ, length, sym, ap, ◌∙◌}
use Rattle.lab_plan.specs.LabPlan.{LabPlan}
use Rattle.waiting.specs.Waits.{RunView, IsRunOf, run_of}
use Rattle.waiting.proofs.OneRun.{one_rounds}
use Rattle.measured_orders.specs.Measures.{measure_of, OneMeasure}

runs_same : (plan : LabPlan) (limit : ℕ) (a b : RunView) → IsRunOf plan limit a → IsRunOf plan limit b → a ≡ b
runs_same plan limit a b p q =
    let same = one_rounds plan limit a.retired b.retired p.rounds q.rounds p.are_rounds q.are_rounds in
    p.known ∙ ((λ i. run_of (length plan.jobs) (same.0 i) (same.1 i)) ∙ sym q.known)

pub one_measure : OneMeasure
one_measure plan limit a b p q = p.measured ∙ (ap measure_of (runs_same plan limit p.run q.run p.is_run q.is_run) ∙ sym q.measured)
