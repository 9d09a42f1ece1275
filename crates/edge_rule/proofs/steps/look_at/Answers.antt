use Rattle.std.proofs.lemmas.Bool.{false≢true}
use Rattle.std.proofs.Common.{refl}
use Rattle.edge_rule.proofs.LookedDesks.{seat_table, seat_plan, seat_own, field_own, in_forks, in_bottles, in_seen, in_calm, look_adds, shows, still_fits, still_calm, still_desk, looked_desk}
use Rattle.edge_rule.proofs.steps.look_at.Goals as goal

pub load_edge-word-requires-clause-table : goal.load_edge-word-requires-clause-table
load_edge-word-requires-clause-table g0 c = seat_table c.bench.inside c.args.bench.now c.bench.view_is c.bench.invariant c.desk.inside c.args.desk.now c.desk.view_is c.desk.invariant
    c.requires.own c.args.edge c.requires.edge

pub load_edge-word-requires-clause-rest : goal.load_edge-word-requires-clause-rest
load_edge-word-requires-clause-rest g0 c = c.desk.invariant.at_rest

pub load_edge-word-requires-clause-plan : goal.load_edge-word-requires-clause-plan
load_edge-word-requires-clause-plan g0 c = seat_plan c.bench.inside c.args.bench.now c.bench.view_is c.bench.invariant c.desk.inside c.args.desk.now c.desk.view_is c.desk.invariant
    c.requires.own c.args.edge c.requires.edge

pub load_edge-word-requires-clause-edge : goal.load_edge-word-requires-clause-edge
load_edge-word-requires-clause-edge g0 c = seat_own c.bench.inside c.args.bench.now c.bench.view_is c.bench.invariant c.desk.inside c.args.desk.now c.desk.view_is c.desk.invariant
    c.requires.own c.args.edge c.requires.edge

pub index-requires : goal.index-requires
index-requires g0 c = in_calm c.bench.inside c.args.bench.now c.bench.view_is c.bench.invariant c.desk.inside c.args.desk.now c.desk.view_is c.desk.invariant
    c.requires.own c.args.edge c.requires.edge
    c.number-place.result c.number-place.ensures.0

pub marks_of-fork-requires : goal.marks_of-fork-requires
marks_of-fork-requires g0 c = record {
  own = field_own c.bench.inside c.args.bench.now c.bench.view_is c.bench.invariant c.desk.inside c.args.desk.now c.desk.view_is c.desk.invariant
      c.requires.own c.args.edge c.requires.edge;
}

pub index_mut-requires : goal.index_mut-requires
index_mut-requires g0 c = in_forks c.bench.inside c.args.bench.now c.bench.view_is c.bench.invariant c.desk.inside c.args.desk.now c.desk.view_is c.desk.invariant
    c.requires.own c.args.edge c.requires.edge
    c.number-place.result c.number-place.ensures.0

pub index_mut-requires-2 : goal.index_mut-requires-2
index_mut-requires-2 g0 c = in_bottles c.bench.inside c.args.bench.now c.bench.view_is c.bench.invariant c.desk.inside c.args.desk.now c.desk.view_is c.desk.invariant
    c.requires.own c.args.edge c.requires.edge
    c.number-place.result c.number-place.ensures.0

pub index_mut-requires-3 : goal.index_mut-requires-3
index_mut-requires-3 g0 c = in_seen c.bench.inside c.args.bench.now c.bench.view_is c.bench.invariant c.desk.inside c.args.desk.now c.desk.view_is c.desk.invariant
    c.requires.own c.args.edge c.requires.edge
    c.number-place.result c.number-place.ensures.0

pub index_mut-requires-4 : goal.index_mut-requires-4
index_mut-requires-4 g0 c = in_calm c.bench.inside c.args.bench.now c.bench.view_is c.bench.invariant c.desk.inside c.args.desk.now c.desk.view_is c.desk.invariant
    c.requires.own c.args.edge c.requires.edge
    c.number-place.result c.number-place.ensures.0

-- the edge's word is the one that was noted
pub invariant_of-desk : goal.invariant_of-desk
invariant_of-desk g0 c = still_desk c.bench.inside c.args.bench.now c.bench.view_is c.bench.invariant c.desk.inside c.args.desk.now c.desk.view_is c.desk.invariant
    c.requires.own c.args.edge c.requires.edge
    c.load_edge-word.new.seat c.load_edge-word.result.1 c.load_edge-word.ensures.look c.load_edge-word.ensures.fits
    c.number-place.result c.index.result.now c.load_edge-word.result.0 c.number-place.ensures.0 c.index.ensures c.load_edge-word.ensures.word
    c.if-index-word.true
    _ c.load_edge-word.ensures.look c.load_edge-word.ensures.seat.1 refl refl refl refl refl

pub returns-then-index-word-clause-adds : goal.returns-then-index-word-clause-adds
returns-then-index-word-clause-adds g0 c = look_adds c.bench.inside c.args.bench.now c.bench.view_is c.bench.invariant c.desk.inside c.args.desk.now c.desk.view_is c.desk.invariant
    c.requires.own c.args.edge c.requires.edge
    c.load_edge-word.new.seat c.load_edge-word.result.1 c.load_edge-word.ensures.look c.load_edge-word.ensures.fits
    c.load_edge-word.ensures.seat.0

pub returns-then-index-word-clause-seen : goal.returns-then-index-word-clause-seen
returns-then-index-word-clause-seen g0 c = shows c.bench.inside c.args.bench.now c.bench.view_is c.bench.invariant c.desk.inside c.args.desk.now c.desk.view_is c.desk.invariant
    c.requires.own c.args.edge c.requires.edge
    c.load_edge-word.new.seat c.load_edge-word.result.1 c.load_edge-word.ensures.look c.load_edge-word.ensures.fits

pub returns-then-index-word-clause-fits : goal.returns-then-index-word-clause-fits
returns-then-index-word-clause-fits g0 c = still_fits c.bench.inside c.args.bench.now c.bench.view_is c.bench.invariant c.desk.inside c.args.desk.now c.desk.view_is c.desk.invariant
    c.requires.own c.args.edge c.requires.edge
    c.load_edge-word.new.seat c.load_edge-word.result.1 c.load_edge-word.ensures.look c.load_edge-word.ensures.fits

pub returns-then-index-word-clause-calm : goal.returns-then-index-word-clause-calm
returns-then-index-word-clause-calm g0 c = λ _. still_calm c.bench.inside c.args.bench.now c.bench.view_is c.bench.invariant c.desk.inside c.args.desk.now c.desk.view_is c.desk.invariant
    c.requires.own c.args.edge c.requires.edge
    c.load_edge-word.new.seat c.load_edge-word.result.1 c.load_edge-word.ensures.look c.load_edge-word.ensures.fits
    c.number-place.result c.index.result.now c.load_edge-word.result.0 c.number-place.ensures.0 c.index.ensures c.load_edge-word.ensures.word
    c.if-index-word.true

-- it is another
pub invariant_of-desk-2 : goal.invariant_of-desk-2
invariant_of-desk-2 g0 c = looked_desk c.bench.inside c.args.bench.now c.bench.view_is c.bench.invariant c.desk.inside c.args.desk.now c.desk.view_is c.desk.invariant
    c.requires.own c.args.edge c.requires.edge
    _ c.load_edge-word.result.1 c.number-place.result c.marks_of-fork.result.0 c.marks_of-fork.result.1 c.number-place.ensures.0
    c.load_edge-word.ensures.look c.load_edge-word.ensures.seat.1 c.load_edge-word.ensures.fits c.marks_of-fork.ensures.fork c.marks_of-fork.ensures.bottles
    refl refl refl refl refl refl refl

pub returns-clause-adds : goal.returns-clause-adds
returns-clause-adds g0 c = look_adds c.bench.inside c.args.bench.now c.bench.view_is c.bench.invariant c.desk.inside c.args.desk.now c.desk.view_is c.desk.invariant
    c.requires.own c.args.edge c.requires.edge
    c.load_edge-word.new.seat c.load_edge-word.result.1 c.load_edge-word.ensures.look c.load_edge-word.ensures.fits
    c.load_edge-word.ensures.seat.0

pub returns-clause-seen : goal.returns-clause-seen
returns-clause-seen g0 c = shows c.bench.inside c.args.bench.now c.bench.view_is c.bench.invariant c.desk.inside c.args.desk.now c.desk.view_is c.desk.invariant
    c.requires.own c.args.edge c.requires.edge
    c.load_edge-word.new.seat c.load_edge-word.result.1 c.load_edge-word.ensures.look c.load_edge-word.ensures.fits

pub returns-clause-fits : goal.returns-clause-fits
returns-clause-fits g0 c = still_fits c.bench.inside c.args.bench.now c.bench.view_is c.bench.invariant c.desk.inside c.args.desk.now c.desk.view_is c.desk.invariant
    c.requires.own c.args.edge c.requires.edge
    c.load_edge-word.new.seat c.load_edge-word.result.1 c.load_edge-word.ensures.look c.load_edge-word.ensures.fits

pub returns-clause-calm : goal.returns-clause-calm
returns-clause-calm g0 c = λ t. absurd (false≢true t)
