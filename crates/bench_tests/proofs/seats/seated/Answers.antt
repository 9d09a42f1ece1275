use Rattle.std.proofs.Common.{subst}
use Rattle.turns.specs.Lists.{Each}
use Rattle.edge_rule.specs.DeskView.{Owns}
use Rattle.bench_tests.proofs.Owned.{each_last}
use Rattle.bench_tests.proofs.seats.seated.Goals as goal

pub loop-desk-preserved : goal.loop-desk-preserved
loop-desk-preserved g c =
    let P = Owns c.args.bench.now in
    (each_last P c.pop.new.self.items c.in-Some.desk (subst (Each P) c.in-Some.ensures.items c.loop-desk.invariant)).0

pub invariant_of-push : goal.invariant_of-push
invariant_of-push g c = record {
  own = let P = Owns c.args.bench.now in (each_last P c.pop.new.self.items c.in-Some.desk (subst (Each P) c.in-Some.ensures.items c.loop-desk.invariant)).1;
}
