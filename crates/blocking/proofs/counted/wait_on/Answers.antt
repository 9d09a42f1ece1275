use Rattle.rounds.specs.Company.{first_front}
use Rattle.rounds.specs.Rounds.{known_in}
use Rattle.blocking.specs.Watching.{AreWaitedFor}
use Rattle.blocking.proofs.Waited.{known_waits}
use Rattle.blocking.proofs.Waits.{waits_for_none, waits_for_some}
use Rattle.blocking.proofs.counted.wait_on.Goals as goal

pub returns-then-bottles-eq0 : goal.returns-then-bottles-eq0
returns-then-bottles-eq0 g c =
    let p = c.args.plan.now in let h = first_front c.args.desks.now in let j = c.args.job in let e = c.args.edge in
    let waited : AreWaitedFor p (known_in p h j) j e c.waited_on-bottles.result =
    known_waits p h c.args.desks.now c.requires.desks j c.requires.job c.index-desks-job.result _ c.index-desks-job.is (let v = c.job.view_is in cc) e
    c.waited_on-bottles.result c.waited_on-bottles.ensures in
    waits_for_none p h c.args.before.now c.args.after.now j e c.waited_on-bottles.result waited c.if-bottles-eq0.true

pub returns : goal.returns
returns g c =
    let p = c.args.plan.now in let h = first_front c.args.desks.now in let j = c.args.job in let e = c.args.edge in
    let waited : AreWaitedFor p (known_in p h j) j e c.waited_on-bottles.result =
    known_waits p h c.args.desks.now c.requires.desks j c.requires.job c.index-desks-job.result _ c.index-desks-job.is (let v = c.job.view_is in cc) e
    c.waited_on-bottles.result c.waited_on-bottles.ensures in
    waits_for_some p h c.args.before.now c.args.after.now j e c.waited_on-bottles.result c.held_across-held.result waited c.held_across-held.ensures
