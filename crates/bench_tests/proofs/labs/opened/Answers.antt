use Rattle.bench_tests.proofs.Owned.{opened_owned}
use Rattle.bench_tests.proofs.labs.opened.Goals as goal

pub returns : goal.returns
returns g c = let t = c.in-Ok.ensures in opened_owned c.in-Ok.made.0 c.args.plan.now c.in-Ok.made.1.items t.0 t.1
