use Rattle.std.proofs.Common.{◌<◌, ◌++◌, [], length, take, get_or, sym, ap, ◌∙◌, subst}
use Rattle.std.specs.List.{flat_map}
use Rattle.std.proofs.lemmas.List.{take_all, take_more, flat_map_more}
use Rattle.blocking.specs.Owing.{SideView, settled, all_settled, cleared_side, FitsSide, no_side}
use Rattle.blocking.proofs.Changing.{not_yet, one_mapped, all_mapped}
use Rattle.blocking.proofs.sides.take_counts.Goals as goal

pub take-requires : goal.take-requires
take-requires g c =
    let p = c.args.plan.now in let l = c.args.sides.now in let n = c.loop-place.place in let m = c.loop-place.invariant in
    let inside : n < length l = c.loop-place-test.true in
    subst (FitsSide p) (sym (not_yet (cleared_side p) l c.loop-place.sides n c.index-sides-place.result no_side inside m.cleared))
    (c.requires n no_side inside)

pub loop-place-preserved : goal.loop-place-preserved
loop-place-preserved g c =
    let p = c.args.plan.now in let l = c.args.sides.now in let n = c.loop-place.place in let m = c.loop-place.invariant in
    let inside : n < length l = c.loop-place-test.true in
    let x : SideView = get_or l n no_side in
    let read = not_yet (cleared_side p) l c.loop-place.sides n c.index-sides-place.result no_side inside m.cleared in
    record {
      counts = c.in_ok-take.ensures.counts ∙ ((λ i. m.counts i ++ settled p (read i))
          ∙ (flat_map_more (settled p) [] (take n l) x ∙ ap (flat_map (settled p)) (sym (take_more l n no_side inside))));
      cleared = one_mapped (cleared_side p) l c.loop-place.sides n c.index-sides-place.result c.take.new.self inside m.cleared c.in_ok-take.ensures.cleared;
    }

pub returns-clause-counts : goal.returns-clause-counts
returns-clause-counts g c =
    c.loop-place.invariant.counts ∙ ap (all_settled c.args.plan.now) (take_all c.loop-place.place c.args.sides.now c.loop-place-test.false)

pub returns-clause-cleared : goal.returns-clause-cleared
returns-clause-cleared g c =
    c.loop-place.invariant.cleared ∙ all_mapped (cleared_side c.args.plan.now) c.args.sides.now c.loop-place.place c.loop-place-test.false
