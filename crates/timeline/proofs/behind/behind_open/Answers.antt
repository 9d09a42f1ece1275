use Rattle.std.proofs.Common.{length, arith, refl, sym, ◌∙◌}
use Rattle.timeline.proofs.Marked.{none_open}
use Rattle.timeline.proofs.behind.behind_open.Goals as goal

pub loop-x-init : goal.loop-x-init
loop-x-init g c = record {
  long = sym c.in_ok-behind.behind.ok.0 ∙ c.in_ok-behind.ensures.len;
  only = λ y is. absurd (none_open (length c.args.marks.now) y c.in_ok-behind.behind.items (c.in_ok-behind.ensures.items_if_clones_equal (λ copy e. e)) is);
  all = λ k x y below. absurd (omega (arith, below));
}

pub mark_behind-requires : goal.mark_behind-requires
mark_behind-requires g c = c.loop-x.invariant.long

pub loop-x-preserved : goal.loop-x-preserved
loop-x-preserved g c = c.mark_behind.ensures c.args.pairs.now c.loop-x.x-index c.loop-x-test.true refl c.loop-x.invariant

pub returns : goal.returns
returns g c =
    let at = c.loop-x.invariant in
    record { long = at.long; only = at.only; all = λ k x y below. at.all k x y (omega (arith, below, c.loop-x-test.false)) }
