use Rattle.std.proofs.Common.{sym, subst}
use Rattle.legal_steps.specs.State.{IsOwn}
use Rattle.legal_steps.proofs.FitsLaw.{own_is_job}
use Rattle.interleaving.specs.World.{WorldView}
use Rattle.interleaving.proofs.world.World.fork_mark.Goals as goal

pub fork_mark-requires-clause-is_job : goal.fork_mark-requires-clause-is_job
fork_mark-requires-clause-is_job g c = own_is_job _ _ _ (subst (λ (w : WorldView). IsOwn w.plan c.args.job c.args.edge) (sym c.self.view_is) c.requires)
