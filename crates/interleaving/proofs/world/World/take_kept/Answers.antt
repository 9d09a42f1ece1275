use Rattle.std.proofs.Common.{sym, subst}
use Rattle.interleaving.specs.Kept.{IsKept}
use Rattle.interleaving.proofs.GoingOn.{kept_taken}
use Rattle.interleaving.proofs.world.World.take_kept.Goals as goal

pub invariant_of-self : goal.invariant_of-self
invariant_of-self g c = record {
  reached = c.self.invariant.reached;
  kept = subst (IsKept c.self.inside.past.events) (sym c.clear.ensures) (kept_taken c.self.inside.past.events c.self.inside.tape c.self.invariant.kept);
}
