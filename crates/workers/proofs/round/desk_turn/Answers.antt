use Rattle.session_layer.proofs.Grows.{one_turn}
use Rattle.workers.proofs.round.desk_turn.Goals as goal

pub returns : goal.returns
returns g c = one_turn c.args.desk.now c.turn.result c.turn.new.desk c.turn.ensures
