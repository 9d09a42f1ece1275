use Rattle.std.proofs.Common.{◌≡◌, arith, inl, inr, subst}
use Rattle.std.proofs.lemmas.Bool.{cases_lt}
use Rattle.overtaking.specs.Ways.{HasNoPhaseWay}
use Rattle.overtaking.proofs.way.any_phase.Goals as goal

pub loop-job-preserved : goal.loop-job-preserved
loop-job-preserved g c = λ j below. elim (cases_lt j c.loop-job.job) [
  | inl before ↦ c.loop-job.invariant j before
  | inr past ↦
      let last : c.loop-job.job ≡ j = omega arith in
      subst (HasNoPhaseWay c.args.world.now.plan c.args.world.now.state) last c.in_default.ensures.none
]
