use Rattle.std.proofs.Common.{sym, subst}
use Rattle.interleaving.specs.Kept.{IsKept}
use Rattle.interleaving.proofs.GoingOn.{kept_none}
use Rattle.interleaving.proofs.world.World.keep.Goals as goal

pub invariant_of-self : goal.invariant_of-self
invariant_of-self g c = record {
  reached = c.self.invariant.reached;
  kept = subst (IsKept c.self.inside.past.events) (sym c.in_ok-self-inside.ensures) (kept_none c.self.inside.past.events c.args.room);
}
