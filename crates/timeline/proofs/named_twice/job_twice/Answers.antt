use Rattle.std.proofs.Common.{sym, ◌∙◌}
use Rattle.timeline.proofs.Failing.{named_before}
use Rattle.timeline.proofs.named_twice.job_twice.Goals as goal

pub returns-then-ne : goal.returns-then-ne
returns-then-ne c = named_before c.args.jobs.now c.loop-number.number _ _ c.loop-number-test.true c.job_number.ensures (sym c.ne.ensures ∙ c.if-ne.true)
