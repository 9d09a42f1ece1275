use Rattle.std.proofs.Common.{◌≡◌, ◌++◌, length, take}
use Rattle.std.specs.List.{flat_map, range_with_len}
use Rattle.explaining.specs.StateTexts.{job_text}
use Rattle.explaining.proofs.explanation.add_jobs.Given as goal

abbrev pub invariant-loop-job : goal.invariant-loop-job
invariant-loop-job g l = l.out.items ≡ l.fn.out.items
    ++ flat_map (job_text l.world.plan l.world.state) (take l.job (range_with_len 0 (length l.world.plan.jobs)))
