use Rattle.live_lab.proofs.Turns.{turned}
use Rattle.live_lab.proofs.turn.turn.Goals as goal

pub returns : goal.returns
returns g c = turned c.args.world.now c.visit_all-done.new.world c.act.new.world c.args.job c.args.waited c.visit_all-done.result c.act.result
    c.visit_all-done.ensures.visits c.act.ensures.acts
