use Rattle.blocking.proofs.CountsTell.{tell_none}
use Rattle.blocking.proofs.blocks.Counts.new.Goals as goal

pub returns : goal.returns
returns g c =
    let held = c.in_ok-held.held in
    tell_none c.args.plan.now c.jobs.result c.jobs.ensures.jobs held.before.items held.after.items c.in_ok-held.ensures.before c.in_ok-held.ensures.after
    c.in_ok-sides.sides.items c.in_ok-sides.ensures
