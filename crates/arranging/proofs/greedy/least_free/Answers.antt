use Rattle.std.proofs.Common.{arith, below_more, inl, inr}
use Rattle.arranging.specs.Colours.{IsNear}
use Rattle.arranging.proofs.Colourings.{other_job}
use Rattle.arranging.proofs.greedy.least_free.Goals as goal

pub loop-colour-preserved : goal.loop-colour-preserved
loop-colour-preserved g c =
    below_more (IsNear c.args.plan.now c.args.colours.now c.args.job) c.loop-colour.colour c.loop-colour.invariant (c.is_near.ensures.0 c.if-not-is_near.false)

pub returns-clause-free : goal.returns-clause-free
returns-clause-free g c near =
    let job = other_job c.args.plan.now c.args.job near.0 near.1 in
    let is = near.2 in
    elim (c.requires.used near.0 0 (omega (arith, job, c.requires.one_each))) [
      | inl unset ↦ omega (arith, unset, is, c.requires.few)
      | inr less ↦ omega (arith, less, is)
    ]
