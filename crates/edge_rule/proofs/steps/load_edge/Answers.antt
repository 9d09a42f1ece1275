use Rattle.edge_rule.proofs.SeenEdges.{see_requires, bottles_known, edge_there, spelled_there, see_told}
use Rattle.edge_rule.proofs.steps.load_edge.Goals as goal

pub load-word-requires : goal.load-word-requires
load-word-requires g0 c = see_requires c.bench.inside c.args.bench.now c.bench.view_is c.bench.invariant c.args.seat.now c.requires.rest c.requires.table c.requires.plan
    c.args.edge c.requires.edge c.edge_place.result c.edge_place.ensures.0

pub unpacked-seen-requires-clause-edge : goal.unpacked-seen-requires-clause-edge
unpacked-seen-requires-clause-edge g0 c = edge_there c.bench.inside c.args.bench.now c.bench.view_is c.bench.invariant c.args.seat.now c.requires.rest c.requires.table c.requires.plan
    c.args.edge c.requires.edge c.edge_place.result c.edge_place.ensures.0

pub unpacked-seen-requires-clause-spelled : goal.unpacked-seen-requires-clause-spelled
unpacked-seen-requires-clause-spelled g0 c = spelled_there c.bench.inside c.args.bench.now c.bench.view_is c.bench.invariant c.args.seat.now c.requires.rest c.requires.table c.requires.plan
    c.args.edge c.requires.edge c.edge_place.result c.edge_place.ensures.0
    c.load-word.new.seat c.load-word.result c.load-word.ensures.2

pub returns-clause-seat : goal.returns-clause-seat
returns-clause-seat g0 c = (c.load-word.ensures.0, c.load-word.ensures.2.4)

pub returns-clause-look : goal.returns-clause-look
returns-clause-look g0 c = see_told c.bench.inside c.args.bench.now c.bench.view_is c.bench.invariant c.args.seat.now c.requires.rest c.requires.table c.requires.plan
    c.args.edge c.requires.edge c.edge_place.result c.edge_place.ensures.0
    c.load-word.new.seat c.load-word.result c.unpacked-seen.result c.load-word.ensures.2 c.unpacked-seen.ensures.word c.unpacked-seen.ensures.fits

pub returns-clause-fits : goal.returns-clause-fits
returns-clause-fits g0 c = bottles_known c.bench.inside c.args.bench.now c.bench.view_is c.bench.invariant c.args.seat.now c.requires.rest c.requires.table c.requires.plan
    c.args.edge c.requires.edge c.edge_place.result c.edge_place.ensures.0
    c.unpacked-seen.result c.unpacked-seen.ensures.fits
