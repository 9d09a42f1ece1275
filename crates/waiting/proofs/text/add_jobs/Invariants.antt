use Rattle.std.proofs.Common.{◌≡◌, ◌++◌}
use Rattle.std.specs.List.{flat_map, range_with_len}
use Rattle.waiting.specs.Text.{job_text}
use Rattle.waiting.proofs.text.add_jobs.Given as goal

-- so many jobs are told
abbrev pub invariant-loop-job : goal.invariant-loop-job
invariant-loop-job g l = l.out.items ≡ l.fn.out.items ++ flat_map (job_text l.plan l.run) (range_with_len 0 l.job)
