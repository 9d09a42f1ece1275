use Rattle.std.proofs.Common.{◌<◌, length, sym, subst, arith}
use Rattle.rounds.specs.Company.{first_front}
use Rattle.blocking.specs.Watching.{block_then}
use Rattle.blocking.specs.Owing.{FitsSide, SideThen, no_side}
use Rattle.blocking.proofs.Changing.{none_changed, as_it_was, one_changed, all_zipped}
use Rattle.blocking.proofs.sides.count_round.Goals as goal

pub loop-place-init : goal.loop-place-init
loop-place-init g c =
    none_changed (λ _. SideThen c.args.plan.now (block_then c.args.plan.now (first_front c.args.desks.now) c.args.before.now c.args.after.now)) no_side
    c.args.sides.now

pub note-requires-clause-fits : goal.note-requires-clause-fits
note-requires-clause-fits g c =
    let p = c.args.plan.now in let l = c.loop-place-test.true in let m = c.loop-place.invariant.many in
    let inside : c.loop-place.place < length c.args.sides.now = omega (arith, l, m) in
    subst (FitsSide p)
    (sym (as_it_was (λ _. SideThen p (block_then p (first_front c.args.desks.now) c.args.before.now c.args.after.now)) no_side c.loop-place.place c.args.sides.now
    c.loop-place.sides c.index-sides-place.result c.loop-place.invariant inside))
    (c.requires.fit c.loop-place.place no_side inside)

pub loop-place-preserved : goal.loop-place-preserved
loop-place-preserved g c =
    let p = c.args.plan.now in let l = c.loop-place-test.true in let m = c.loop-place.invariant.many in
    let inside : c.loop-place.place < length c.args.sides.now = omega (arith, l, m) in
    one_changed (λ _. SideThen p (block_then p (first_front c.args.desks.now) c.args.before.now c.args.after.now)) no_side c.loop-place.place c.args.sides.now
    c.loop-place.sides c.index-sides-place.result c.note.new.self c.loop-place.invariant inside c.note.ensures

pub returns : goal.returns
returns g c =
    all_zipped (SideThen c.args.plan.now (block_then c.args.plan.now (first_front c.args.desks.now) c.args.before.now c.args.after.now)) no_side c.loop-place.place
    c.args.sides.now c.loop-place.sides c.loop-place.invariant (let l = c.loop-place-test.false in let m = c.loop-place.invariant.many in omega (arith, l, m))
