use Rattle.std.proofs.Common.{◌≡◌, ℕ, subst, arith}
use Rattle.chains.specs.Chains.{IsBestBelow}
use Rattle.chains.proofs.chain.best_below.Goals as goal

pub returns : goal.returns
returns g c =
    let all = c.loop-place-test.false in let end = c.loop-place.auto.place-end in let many = c.requires.below in
    let same : c.loop-place.place ≡ c.args.job = omega (arith, all, end, many) in
    subst (λ (n : ℕ). IsBestBelow c.args.plan.now c.args.chains.now c.args.job n c.loop-place.best) same c.loop-place.invariant
