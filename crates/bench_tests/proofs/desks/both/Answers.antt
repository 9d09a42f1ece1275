use Rattle.std.proofs.Common.{◌∷◌, [], ◌++◌, subst}
use Rattle.turns.specs.Lists.{Each}
use Rattle.edge_rule.specs.DeskView.{Owns}
use Rattle.bench_tests.proofs.Owned.{each_last}
use Rattle.bench_tests.proofs.desks.both.Goals as goal

pub returns : goal.returns
returns g c = let own = Owns c.args.bench.now in
    let all : Each own (c.pop.new.self.items ++ c.in-Some.second ∷ []) = subst (Each own) c.in-Some.ensures.items c.requires.own in
    let back = each_last own c.pop.new.self.items c.in-Some.second all in
    let others : Each own (c.pop-2.new.self.items ++ c.in-Some-pop.first ∷ []) = subst (Each own) c.in-Some-pop.ensures.items back.0 in
    ((each_last own c.pop-2.new.self.items c.in-Some-pop.first others).1, back.1)
