use Rattle.bench_tests.proofs.Owned.{rest_owned}
use Rattle.bench_tests.proofs.teams.take_rest.Goals as goal

pub returns : goal.returns
returns g c = rest_owned c.args.bench.now _ _ _ c.finish.ensures c.requires
