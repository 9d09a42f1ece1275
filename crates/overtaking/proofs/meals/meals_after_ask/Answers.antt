use Rattle.std.proofs.Common.{◌≡◌, arith}
use Rattle.std.proofs.lemmas.Grind.{common_steps}
use Rattle.overtaking.specs.Overtaking.{overtaking}
use Rattle.overtaking.proofs.OvertakenOnce.{overtaken_once}
use Rattle.overtaking.proofs.meals.meals_after_ask.Goals as goal

pub returns-clause-at_most_one : goal.returns-clause-at_most_one
returns-clause-at_most_one g c opening opens legal =
    let count : c.meals_before.result ≡ overtaking c.args.plan.now c.args.events.now c.args.place c.args.job c.args.edge = grind (arith, common_steps) in
    omega (arith, count, overtaken_once c.args.plan.now opening c.args.events.now c.args.place c.args.job c.args.edge opens legal c.requires.asks)
