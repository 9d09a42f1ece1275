use Rattle.std.proofs.Common.{arith}
use Rattle.arranging.proofs.Colourings.{other_job}
use Rattle.arranging.proofs.greedy.is_near.Goals as goal

pub returns : goal.returns
returns g c = (
  λ is. absurd (cc),
  λ near.
      let job = other_job c.args.plan.now c.args.job near.0 near.1 in
      let passed = c.loop-other-test.false in
      absurd (c.loop-other.invariant near.0 (omega (arith, job, passed, c.jobs-other-end.ensures.jobs)) near.1 near.2),
)
