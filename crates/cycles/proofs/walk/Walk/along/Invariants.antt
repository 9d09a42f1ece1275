use Rattle.std.proofs.Common.{◌≡◌, ◌<◌, ℕ, length}
use Rattle.std.specs.Prelude.{count_by}
use Rattle.std.specs.List.{Contains}
use Rattle.cycles.specs.Cycles.{IsAmong}
use Rattle.cycles.specs.Peeling.{IsLeft, IsOut}
use Rattle.cycles.specs.Walks.{LeadsTo}
use Rattle.cycles.proofs.walk.Walk.along.Given as goal

abbrev pub invariant-loop-fresh : goal.invariant-loop-fresh
invariant-loop-fresh g l = record {
  len : length l.fresh.items ≡ length l.left;
  at : IsLeft l.left l.at;
  leads : LeadsTo (IsAmong l.pairs) l.jobs.items l.at;
  met : (job : ℕ) → job < length l.fresh.items → IsOut l.fresh.items job → Contains l.jobs.items job;
}

abbrev pub decreases-loop-fresh : goal.decreases-loop-fresh
decreases-loop-fresh g l = count_by (λ is_fresh. is_fresh) l.fresh.items
