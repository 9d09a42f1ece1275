use Rattle.workers.proofs.TeamTurns.{worked_owns}
use Rattle.bench_tests.proofs.teams.begin.Goals as goal

pub returns : goal.returns
returns g c = worked_owns c.args.bench.now c.args.turns _ _ c.work.result c.work.ensures.worked c.requires.own
