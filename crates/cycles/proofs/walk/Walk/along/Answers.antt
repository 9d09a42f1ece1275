use Rattle.std.proofs.Common.{◌<◌, length, true, arith, sym, ◌∙◌, subst, false, set}
use Rattle.std.proofs.Math.ListN.{length-set}
use Rattle.std.specs.List.{Contains}
use Rattle.cycles.specs.Cycles.{IsAmong}
use Rattle.cycles.specs.Peeling.{IsOut, IsSink}
use Rattle.cycles.specs.Walks.{LeadsTo}
use Rattle.cycles.proofs.Paths.{LeadsTo-snoc, walked_met}
use Rattle.cycles.proofs.Fewer.{in_range, read_left, fewer_left}
use Rattle.cycles.proofs.walk.Walk.along.Goals as goal

pub loop-fresh-preserved : goal.loop-fresh-preserved
loop-fresh-preserved g c =
    let pushed = c.in_ok-push.ensures.items in
    record {
      len = length-set c.loop-fresh.fresh.items c.at.inside.0 false ∙ c.loop-fresh.invariant.len;
      at = c.in-Some.ensures.is_left;
      leads = subst (λ jobs. LeadsTo (IsAmong c.args.pairs.now) jobs c.in-Some.next) (sym pushed)
          (LeadsTo-snoc (IsAmong c.args.pairs.now) c.loop-fresh.jobs.items c.loop-fresh.at c.in-Some.next c.loop-fresh.invariant.leads
          (subst (λ at. IsAmong c.args.pairs.now at c.in-Some.next) c.at-in-loop-fresh.view_is c.in-Some.ensures.pair));
      met = λ job l out. subst (λ jobs. Contains jobs job) (sym pushed)
          (walked_met c.loop-fresh.fresh.items c.loop-fresh.jobs.items c.loop-fresh.at c.loop-fresh.invariant.met job
          (subst (λ at. job < length (set c.loop-fresh.fresh.items at false)) c.at.view_is l)
          (subst (λ at. IsOut (set c.loop-fresh.fresh.items at false) job) c.at.view_is out));
    }

pub index-requires : goal.index-requires
index-requires g c =
    let inside = in_range c.args.left.now c.loop-fresh.at c.loop-fresh.invariant.at in
    let len = c.loop-fresh.invariant.len in
    let is = c.at.view_is in
    omega (arith, inside, len, is)

pub index_mut-requires : goal.index_mut-requires
index_mut-requires g c =
    let inside = in_range c.args.left.now c.loop-fresh.at c.loop-fresh.invariant.at in
    let len = c.loop-fresh.invariant.len in
    let is = c.at.view_is in
    omega (arith, inside, len, is)

pub loop-fresh-smaller : goal.loop-fresh-smaller
loop-fresh-smaller g c =
    let inside = in_range c.args.left.now c.loop-fresh.at c.loop-fresh.invariant.at in
    let len = c.loop-fresh.invariant.len in
    let is = c.at.view_is in
    fewer_left c.loop-fresh.fresh.items c.at.inside.0
    (read_left c.loop-fresh.fresh.items c.at.inside.0 c.index.result.now true (omega (arith, inside, len, is)) c.index.ensures c.loop-fresh-test.true)

pub unreachable-requires : goal.unreachable-requires
unreachable-requires g c = c.requires.each c.loop-fresh.at c.loop-fresh.invariant.at
    (subst (λ at. IsSink c.args.pairs.now c.args.left.now at) c.at-in-loop-fresh.view_is c.in-None.ensures)

pub returns : goal.returns
returns g c =
    let inside = in_range c.args.left.now c.loop-fresh.at c.loop-fresh.invariant.at in
    let len = c.loop-fresh.invariant.len in
    let is = c.at.view_is in
    let out = read_left c.loop-fresh.fresh.items c.at.inside.0 c.index.result.now false (omega (arith, inside, len, is)) c.index.ensures c.loop-fresh-test.false in
    record {
      leads = c.loop-fresh.invariant.leads;
      met = c.loop-fresh.invariant.met c.loop-fresh.at (omega (arith, inside, len)) (subst (IsOut c.loop-fresh.fresh.items) is out);
    }
