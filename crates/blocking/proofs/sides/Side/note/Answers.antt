use Rattle.std.proofs.Common.{subst}
use Rattle.rounds.specs.Company.{first_front}
use Rattle.blocking.specs.Watching.{rounds_then, block_then, IsWait}
use Rattle.blocking.specs.Owing.{SideView}
use Rattle.blocking.proofs.Owing.{same_change}
use Rattle.blocking.proofs.Waits.{at_all}
use Rattle.blocking.proofs.sides.Side.note.Goals as goal

pub returns : goal.returns
returns g c =
    let p = c.args.plan.now in let h = first_front c.args.desks.now in let b = c.args.before.now in let a = c.args.after.now in
    let s = c.args.self.now in let w = c.wait_on-wait.result in
    let wait : IsWait p h b a s.job s.edge w = subst (λ (x : SideView). IsWait p h b a x.job x.edge w) c.self.view_is c.wait_on-wait.ensures in
    same_change p (rounds_then p w 1) (block_then p h b a) s c.count.new.self (at_all p h b a s.job s.edge w wait) c.count.ensures
