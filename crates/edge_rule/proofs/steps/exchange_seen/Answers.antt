use Rattle.std.proofs.Common.{[], refl, ◌∙◌}
use Rattle.edge_rule.proofs.DeskSteps.{desk_keeps}
use Rattle.edge_rule.proofs.LookedDesks.{in_forks, in_bottles, in_seen, in_calm}
use Rattle.edge_rule.proofs.MovedDesks.{sets_fit, may_try, spelled_found, lost, made_adds, moved_desk}
use Rattle.edge_rule.proofs.steps.exchange_seen.Goals as goal

pub moved-new-requires : goal.moved-new-requires
moved-new-requires g0 c = record {
  of_edge = sets_fit c.bench.inside c.args.bench.now c.bench.view_is c.bench.invariant c.desk.inside c.args.desk.now c.desk.view_is c.desk.invariant
      c.requires.own c.args.edge c.requires.edge c.args.moves c.requires.may;
}

pub compare_exchange-found-requires : goal.compare_exchange-found-requires
compare_exchange-found-requires g0 c = may_try c.bench.inside c.args.bench.now c.bench.view_is c.bench.invariant c.desk.inside c.args.desk.now c.desk.view_is c.desk.invariant
    c.requires.own c.args.edge c.requires.edge c.args.moves c.requires.may
    c.edge_place.result c.pack-expected.result c.pack-wanted.result c.args.seen c.moved-new.result c.edge_place.ensures.0 c.requires.seen
    c.moved-new.ensures.edge c.pack-expected.ensures c.pack-wanted.ensures

pub unpacked-requires-clause-spelled : goal.unpacked-requires-clause-spelled
unpacked-requires-clause-spelled g0 c = spelled_found c.bench.inside c.args.bench.now c.bench.view_is c.bench.invariant c.desk.inside c.args.desk.now c.desk.view_is c.desk.invariant
    c.requires.own c.args.edge c.requires.edge c.args.moves c.requires.may
    c.edge_place.result c.pack-expected.result c.pack-wanted.result c.args.seen c.moved-new.result c.edge_place.ensures.0 c.requires.seen
    c.moved-new.ensures.edge c.pack-expected.ensures c.pack-wanted.ensures
    c.compare_exchange-found.new.seat c.compare_exchange-found.result c.compare_exchange-found.ensures.2 c.compare_exchange-found.ensures.0
    c.if-found-expected.true

pub returns-then-found-expected : goal.returns-then-found-expected
returns-then-found-expected g0 c = lost c.bench.inside c.args.bench.now c.bench.view_is c.bench.invariant c.desk.inside c.args.desk.now c.desk.view_is c.desk.invariant
    c.requires.own c.args.edge c.requires.edge c.args.moves c.requires.may
    c.edge_place.result c.pack-expected.result c.pack-wanted.result c.args.seen c.moved-new.result c.edge_place.ensures.0 c.requires.seen
    c.moved-new.ensures.edge c.pack-expected.ensures c.pack-wanted.ensures
    c.compare_exchange-found.new.seat c.compare_exchange-found.result c.compare_exchange-found.ensures.2 c.compare_exchange-found.ensures.0
    c.if-found-expected.true c.unpacked.result c.unpacked.ensures.word c.unpacked.ensures.fits

pub index-requires : goal.index-requires
index-requires g0 c = in_forks c.bench.inside c.args.bench.now c.bench.view_is c.bench.invariant c.desk.inside c.args.desk.now c.desk.view_is c.desk.invariant
    c.requires.own c.args.edge c.requires.edge c.number-place.result c.number-place.ensures.0

pub index_mut-requires : goal.index_mut-requires
index_mut-requires g0 c = in_forks c.bench.inside c.args.bench.now c.bench.view_is c.bench.invariant c.desk.inside c.args.desk.now c.desk.view_is c.desk.invariant
    c.requires.own c.args.edge c.requires.edge c.number-place.result c.number-place.ensures.0

pub index-requires-2 : goal.index-requires-2
index-requires-2 g0 c = in_bottles c.bench.inside c.args.bench.now c.bench.view_is c.bench.invariant c.desk.inside c.args.desk.now c.desk.view_is c.desk.invariant
    c.requires.own c.args.edge c.requires.edge c.number-place.result c.number-place.ensures.0

pub index_mut-requires-2 : goal.index_mut-requires-2
index_mut-requires-2 g0 c = in_bottles c.bench.inside c.args.bench.now c.bench.view_is c.bench.invariant c.desk.inside c.args.desk.now c.desk.view_is c.desk.invariant
    c.requires.own c.args.edge c.requires.edge c.number-place.result c.number-place.ensures.0

pub index_mut-requires-3 : goal.index_mut-requires-3
index_mut-requires-3 g0 c = in_seen c.bench.inside c.args.bench.now c.bench.view_is c.bench.invariant c.desk.inside c.args.desk.now c.desk.view_is c.desk.invariant
    c.requires.own c.args.edge c.requires.edge c.number-place.result c.number-place.ensures.0

pub index_mut-requires-4 : goal.index_mut-requires-4
index_mut-requires-4 g0 c = in_calm c.bench.inside c.args.bench.now c.bench.view_is c.bench.invariant c.desk.inside c.args.desk.now c.desk.view_is c.desk.invariant
    c.requires.own c.args.edge c.requires.edge c.number-place.result c.number-place.ensures.0

pub invariant_of-desk-2 : goal.invariant_of-desk-2
invariant_of-desk-2 g0 c = moved_desk c.bench.inside c.args.bench.now c.bench.view_is c.bench.invariant c.desk.inside c.args.desk.now c.desk.view_is c.desk.invariant
    c.requires.own c.args.edge c.requires.edge c.args.moves c.requires.may
    c.edge_place.result c.pack-expected.result c.pack-wanted.result c.args.seen c.moved-new.result c.edge_place.ensures.0 c.requires.seen
    c.moved-new.ensures.edge c.pack-expected.ensures c.pack-wanted.ensures
    c.compare_exchange-found.new.seat c.compare_exchange-found.result c.compare_exchange-found.ensures.2 c.compare_exchange-found.ensures.0
    c.if-found-expected.false _ c.number-place.result c.fork_mark.result c.bottle_marks.result c.index.result.now c.index-2.result.now refl
    c.number-place.ensures.0 c.compare_exchange-found.ensures.2.2 refl refl c.index.ensures c.index-2.ensures c.fork_mark.ensures c.bottle_marks.ensures
    refl refl refl refl refl

pub returns : goal.returns
returns g0 c = made_adds c.bench.inside c.args.bench.now c.bench.view_is c.bench.invariant c.desk.inside c.args.desk.now c.desk.view_is c.desk.invariant
    c.requires.own c.args.edge c.requires.edge c.args.moves c.requires.may
    c.edge_place.result c.pack-expected.result c.pack-wanted.result c.args.seen c.moved-new.result c.edge_place.ensures.0 c.requires.seen
    c.moved-new.ensures.edge c.pack-expected.ensures c.pack-wanted.ensures
    c.compare_exchange-found.new.seat c.compare_exchange-found.result c.compare_exchange-found.ensures.2 c.compare_exchange-found.ensures.0
    c.if-found-expected.false

pub invariant_of-desk : goal.invariant_of-desk
invariant_of-desk g0 c = let ok = c.desk.invariant in let t = c.compare_exchange-found.ensures.2 in
    desk_keeps c.desk.inside ok _ [] tt (t.1 c.if-found-expected.true).0 (t.2 ∙ ok.empty) refl ok.own ok.seen ok.of_plan ok.calm ok.settled ok.rests
