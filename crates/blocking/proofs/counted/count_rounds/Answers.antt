use Rattle.std.proofs.Common.{◌<◌, ◌+◌, length, map, set, refl, ap, ◌∙◌, arith}
use Rattle.std.specs.List.{range_with_len}
use Rattle.lab_plan.specs.LabPlan.{bottles}
use Rattle.blocking.specs.Blocks.{place}
use Rattle.blocking.specs.Watching.{rounds_then, each_by}
use Rattle.blocking.proofs.Bottles.{one_changed, passed_to}
use Rattle.blocking.proofs.Waits.{unmoved, raised}
use Rattle.blocking.proofs.counted.count_rounds.Goals as goal

pub loop-bottle-init : goal.loop-bottle-init
loop-bottle-init g c =
    let p = c.args.plan.now in let e = c.args.edge in let w = c.args.wait in let n = c.args.rounds in
    let first = c.next_in-bottle.result in let next = c.next_in-bottle.ensures in let high = next.high in
    let many = c.bottles-bottles.ensures.bottles in let all = c.requires.room in
    record {
      counted = λ j. passed_to (rounds_then p w n) j e 0 first c.args.blocks.now c.args.blocks.now refl next.low (omega (arith, high, many, all))
          (λ i low less. unmoved p w n j e i (next.passed i low less));
      inside = high;
      waits = next.found;
    }

pub loop-bottle-preserved : goal.loop-bottle-preserved
loop-bottle-preserved g c =
    let p = c.args.plan.now in let e = c.args.edge in let w = c.args.wait in let n = c.args.rounds in let k = c.loop-bottle.bottle in
    let less = c.loop-bottle-test.true in let many = c.bottles-bottles.ensures.bottles in let all = c.requires.room in
    let bottle : k < length (bottles p e) = omega (arith, less, many) in
    let inside : k < length c.args.blocks.now = omega (arith, bottle, all) in
    let next = c.next_in-bottle-in-loop-bottle.ensures in let high = next.high in
    record {
      counted = λ j. passed_to (rounds_then p w n) j e (k + 1) c.next_in-bottle-in-loop-bottle.result c.args.blocks.now
          (set c.loop-bottle.blocks k c.counted.result)
          (one_changed (rounds_then p w n) j e k c.args.blocks.now c.loop-bottle.blocks (c.loop-bottle.invariant.counted j) inside
          c.index-blocks-at.result c.index-blocks-at.result c.index-blocks-at.is c.counted.result
          (c.counted.ensures ∙ raised p w n j e k (c.loop-bottle.invariant.waits less) c.index-blocks-at.result))
          next.low (omega (arith, high, many, all)) (λ i low under. unmoved p w n j e i (next.passed i low under));
      inside = high;
      waits = next.found;
    }

pub returns : goal.returns
returns g c =
    let end = c.loop-bottle-test.false in let most = c.loop-bottle.invariant.inside in let many = c.bottles-bottles.ensures.bottles in
    λ j. c.loop-bottle.invariant.counted j
    ∙ ap (λ m. each_by (rounds_then c.args.plan.now c.args.wait c.args.rounds) (map (place j c.args.edge) (range_with_len 0 m)) c.args.blocks.now)
    (omega (arith, end, most, many))
