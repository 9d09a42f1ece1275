use Rattle.std.proofs.Common.{take, refl, subst}
use Rattle.interleaving.specs.World.{WorldView, IsReachedBy}
use Rattle.lab_journal.proofs.Replayed.{resumed}
use Rattle.lab_journal.proofs.resuming.resume.Goals as goal

pub returns-clause-resumed : goal.returns-clause-resumed
returns-clause-resumed c =
    resumed c.args.journal.now (take c.whole_lines-n.result c.args.journal.now) c.whole_lines-n.result c.in_ok-world.world c.in_ok-lab.lab c.whole_lines-n.ensures refl
    c.in_ok-world.ensures.replayed c.in_ok-lab.ensures.kept
    (subst (λ (w : WorldView). IsReachedBy w.plan w.opening w.past w.state w.counts) c.world.ensures c.plan.ensures.past)
