use Rattle.std.proofs.Common.{◌∙◌, arith}
use Rattle.std.proofs.Math.ListN.{length-set}
use Rattle.rounds.specs.Company.{first_front}
use Rattle.blocking.proofs.OneMore.{noted, one_set}
use Rattle.blocking.proofs.holdings.note_held.Goals as goal

pub loop-place-preserved : goal.loop-place-preserved
loop-place-preserved g c =
    let p = c.args.plan.now in let all = c.requires.desks in let i = c.loop-place.invariant in let n = c.loop-place.place in
    let test = c.loop-place-test.true in let long = i.0 in let many = all.many in (
      length-set c.loop-place.sets n c.held_by.result ∙ i.0,
      one_set p (first_front c.args.desks.now) c.loop-place.sets n c.held_by.result (omega (arith, test, long)) i.1
          (noted p (first_front c.args.desks.now) c.args.desks.now all n c.index-desks-place.result (omega (arith, test, many)) c.index-desks-place.is
          c.held_by.result c.held_by.ensures),
    )

pub returns : goal.returns
returns g c =
    let i = c.loop-place.invariant in let end = c.loop-place-test.false in let many = c.requires.desks.many in record {
      many = i.0 ∙ many;
      each = λ j inside. i.1 j (omega (arith, end, many, inside));
    }
