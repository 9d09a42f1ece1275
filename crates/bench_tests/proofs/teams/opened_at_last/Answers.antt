use Rattle.bench_tests.proofs.Owned.{opened_owned}
use Rattle.bench_tests.proofs.teams.opened_at_last.Goals as goal

pub returns-in-Ok : goal.returns-in-Ok
returns-in-Ok g c = let t = c.in-Ok.ensures in opened_owned c.in-Ok.made.0 c.args.plan.now c.in-Ok.made.1.items t.0 t.1
