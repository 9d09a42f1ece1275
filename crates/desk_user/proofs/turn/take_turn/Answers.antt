use Rattle.desk_user.proofs.Owned.{turn_keeps}
use Rattle.desk_user.proofs.turn.take_turn.Goals as goal

pub returns-clause-keeps : goal.returns-clause-keeps
returns-clause-keeps g c = turn_keeps c.args.bench.now c.args.desk.now c.turn.result c.turn.new.desk c.requires.own c.turn.ensures
