use Rattle.std.proofs.Common.{[], sym, subst}
use Rattle.std.specs.Prelude.{IfOk}
use Rattle.lab_plan.specs.LabPlan.{LabPlan}
use Rattle.waiting.specs.Watching.{Watched}
use Rattle.waiting.proofs.watcher.watch.Goals as goal

pub drive-requires-clause-fresh : goal.drive-requires-clause-fresh
drive-requires-clause-fresh g c = subst (λ (p : LabPlan). g.W.Watcher.tells p c.args.watcher.now []) (sym c.in-Ok.ensures.0) c.requires

pub returns : goal.returns
returns g c =
    subst (λ (p : LabPlan). IfOk c.drive.result (λ done. Watched p c.args.limit done.0 done.1 (g.W.Watcher.tells p c.drive.new.watcher)))
    c.in-Ok.ensures.0 c.drive.ensures
