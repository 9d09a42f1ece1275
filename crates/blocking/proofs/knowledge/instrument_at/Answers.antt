use Rattle.std.proofs.Common.{◌<◌, length, arith}
use Rattle.legal_steps.specs.Legal.{instrument_of}
use Rattle.blocking.proofs.Placing.{instrument_below}
use Rattle.blocking.proofs.knowledge.instrument_at.Goals as goal

pub returns-clause-few : goal.returns-clause-few
returns-clause-few g c =
    let p = c.args.plan.now in
    let inside : instrument_of p c.args.edge c.args.bottle < length p.instruments = instrument_below p c.args.edge c.args.bottle c.requires.bottle in
    let same = c.instrument_of.ensures in let few = c.instruments.ensures.few in let all = c.instruments.ensures.instruments in
    omega (arith, inside, same, few, all)
