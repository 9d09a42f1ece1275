use Rattle.std.proofs.Common.{arith}
use Rattle.edge_rule.proofs.OpenedDesks.{written_spelled}
use Rattle.edge_rule.proofs.open.fresh_words.Goals as goal

pub returns : goal.returns
returns g0 c =
    let n = c.edges-edge-end.ensures.edges in
    let m = c.loop-edge-test.false in
    let a = c.loop-edge.auto.edge-end in
    written_spelled c.args.plan.now c.loop-edge.edge c.loop-edge.words.items (omega arith) (omega arith) c.loop-edge.invariant
