-- the waits of the jobs so far, each at most as long as a run, of as many sessions as there is room for
use Rattle.std.proofs.Common.{◌≡◌, ◌*◌, ◌≤◌, take}
use Rattle.std.specs.List.{sum_by}
use Rattle.measured_orders.specs.Measures.{job_waited}
use Rattle.measured_orders.proofs.measure.waited_in_all.Given as goal

abbrev pub invariant-loop-job : goal.invariant-loop-job
invariant-loop-job g l =
    (l.waited ≡ sum_by (job_waited l.run.number) (take l.job l.run.jobs)) × (l.waited ≤ l.job * 79228162514264337593543950336)
