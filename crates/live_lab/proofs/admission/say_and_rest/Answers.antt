use Rattle.settling.proofs.Worlds.{reached_fits}
use Rattle.live_lab.proofs.Admitted.{said_and_rested}
use Rattle.live_lab.proofs.admission.say_and_rest.Goals as goal

pub returns-clause-does : goal.returns-clause-does
returns-clause-does g c =
    said_and_rested c.args.word c.args.set c.args.world.now c.say_each-said.new.world c.come_to_rest.new.world c.say_each-said.result c.come_to_rest.result
    c.say_each-said.ensures.leads c.say_each-said.ensures.deeds c.come_to_rest.ensures.rests
    (reached_fits c.args.world.now c.plan.ensures.reached).seats_there
