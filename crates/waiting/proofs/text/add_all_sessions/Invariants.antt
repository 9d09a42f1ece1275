use Rattle.std.proofs.Common.{◌≡◌, ◌++◌}
use Rattle.std.specs.List.{flat_map, range_with_len}
use Rattle.waiting.specs.Text.{sessions_text}
use Rattle.waiting.proofs.text.add_all_sessions.Given as goal

-- so many jobs are told
abbrev pub invariant-loop-job : goal.invariant-loop-job
invariant-loop-job g l = l.out.items ≡ l.fn.out.items ++ flat_map (sessions_text l.plan l.run) (range_with_len 0 l.job)
