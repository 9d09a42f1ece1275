use Rattle.std.proofs.Common.{sym, subst}
use Rattle.live_lab.specs.declared.kinds.Kind.{Kind}
use Rattle.live_lab.specs.Kinds.{IsOf}
use Rattle.live_lab.specs.Sets.{AreJobs}
use Rattle.live_lab.proofs.kinds.jobs_of.Goals as goal

pub waited_for_of-requires-clause-only : goal.waited_for_of-requires-clause-only
waited_for_of-requires-clause-only g c = λ j q. q.0

pub returns-in-Begins : goal.returns-in-Begins
returns-in-Begins g c =
    subst (λ (k : Kind). AreJobs c.args.world.now.plan c.waited_for_of.result (IsOf k c.args.waiting c.args.clocks.now c.args.world.now)) (sym c.in-Begins.is)
    c.waited_for_of.ensures

pub waited_for_of-requires-in-NoneLeft-clause-only : goal.waited_for_of-requires-in-NoneLeft-clause-only
waited_for_of-requires-in-NoneLeft-clause-only g c = λ j q. q.0

pub returns-in-NoneLeft : goal.returns-in-NoneLeft
returns-in-NoneLeft g c =
    subst (λ (k : Kind). AreJobs c.args.world.now.plan c.waited_for_of-in-NoneLeft.result (IsOf k c.args.waiting c.args.clocks.now c.args.world.now)) (sym c.in-NoneLeft.is)
    c.waited_for_of-in-NoneLeft.ensures
