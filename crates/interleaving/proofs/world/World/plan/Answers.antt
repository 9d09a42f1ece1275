use Rattle.std.proofs.Common.{subst}
use Rattle.interleaving.specs.Kept.{IsKept}
use Rattle.interleaving.specs.World.{WorldView, IsReachedBy}
use Rattle.interleaving.proofs.WorldLemmas.{reached_by}
use Rattle.interleaving.proofs.world.World.plan.Goals as goal

pub returns-clause-reached : goal.returns-clause-reached
returns-clause-reached g c = reached_by _ _ _ _ _
    (subst (λ (w : WorldView). IsReachedBy w.plan w.opening w.past w.state w.counts) c.self.view_is c.self.invariant.reached)

pub returns-clause-past : goal.returns-clause-past
returns-clause-past g c = subst (λ (w : WorldView). IsReachedBy w.plan w.opening w.past w.state w.counts) c.self.view_is c.self.invariant.reached

pub returns-clause-kept : goal.returns-clause-kept
returns-clause-kept g c = subst (λ (w : WorldView). IsKept w.past w.kept) c.self.view_is c.self.invariant.kept
