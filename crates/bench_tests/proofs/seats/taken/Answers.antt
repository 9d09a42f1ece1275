use Rattle.bench_tests.proofs.Owned.{took_owned}
use Rattle.bench_tests.proofs.seats.taken.Goals as goal

pub returns : goal.returns
returns g c = took_owned c.args.bench.now c.args.desk.now c.turn.result c.turn.new.desk c.requires c.turn.ensures
