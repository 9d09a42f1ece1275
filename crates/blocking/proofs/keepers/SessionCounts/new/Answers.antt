use Rattle.blocking.proofs.SessionsTell.{tell_none}
use Rattle.blocking.proofs.keepers.SessionCounts.new.Goals as goal

pub returns : goal.returns
returns g c =
    let held = c.in_ok-held.held in
    tell_none c.args.plan.now c.jobs-jobs.result c.jobs-jobs.ensures.jobs held.before.items held.after.items c.in_ok-held.ensures.before
    c.in_ok-held.ensures.after c.in_ok-logs.logs.items c.in_ok-logs.ensures c.in_ok-tallies.tallies.items c.in_ok-tallies.ensures
