use Rattle.std.proofs.Common.{◌≡◌, arith, inl, inr, subst}
use Rattle.std.proofs.lemmas.Bool.{cases_lt}
use Rattle.overtaking.specs.Ways.{HasNoBottleWayOf}
use Rattle.overtaking.proofs.Ways.{no_bottle_of}
use Rattle.overtaking.proofs.way.bottle_way.Goals as goal

pub loop-bottle-preserved : goal.loop-bottle-preserved
loop-bottle-preserved g c = λ k below. elim (cases_lt k c.loop-bottle.bottle) [
  | inl before ↦ c.loop-bottle.invariant k before
  | inr past ↦
      let w = c.args.world.now in
      let last : c.loop-bottle.bottle ≡ k = omega arith in
      subst (HasNoBottleWayOf w.plan w.state c.args.job c.args.edge) last (no_bottle_of w.plan w.state c.args.job c.args.edge c.loop-bottle.bottle
      (omega (arith, c.loop-bottle-test.true, c.bottles-bottle-end.ensures.few)) c.in_default.ensures.none)
]
