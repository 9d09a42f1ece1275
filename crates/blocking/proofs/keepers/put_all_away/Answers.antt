use Rattle.std.proofs.Common.{◌<◌, length, sym, subst, arith}
use Rattle.blocking.specs.Tallying.{FitsTally, IsPutAway, no_tally}
use Rattle.blocking.proofs.Changing.{none_changed, as_it_was, one_changed}
use Rattle.blocking.proofs.keepers.put_all_away.Goals as goal

pub loop-place-init : goal.loop-place-init
loop-place-init g c = none_changed (IsPutAway c.args.plan.now) no_tally c.args.tallies.now

pub put_away-requires : goal.put_away-requires
put_away-requires g c =
    let l = c.loop-place-test.true in let m = c.loop-place.invariant.many in
    let inside : c.loop-place.place < length c.args.tallies.now = omega (arith, l, m) in
    subst (FitsTally c.args.plan.now)
    (sym (as_it_was (IsPutAway c.args.plan.now) no_tally c.loop-place.place c.args.tallies.now c.loop-place.tallies c.index-tallies-place.result
    c.loop-place.invariant inside))
    (c.requires c.loop-place.place no_tally inside)

pub loop-place-preserved : goal.loop-place-preserved
loop-place-preserved g c =
    let l = c.loop-place-test.true in let m = c.loop-place.invariant.many in
    let inside : c.loop-place.place < length c.args.tallies.now = omega (arith, l, m) in
    one_changed (IsPutAway c.args.plan.now) no_tally c.loop-place.place c.args.tallies.now c.loop-place.tallies c.index-tallies-place.result
    c.put_away.new.self c.loop-place.invariant inside c.in_ok-put_away.ensures

pub returns : goal.returns
returns g c =
    let l = c.loop-place-test.false in let m = c.loop-place.invariant in record { many = m.many; each = λ j less. m.each j (omega (arith, l, less)) }
