use Rattle.std.proofs.Common.{◌≡◌, List, [], ◌++◌, vec_len}
use Rattle.edge_rule.specs.DeskView.{DeskView}
use Rattle.turns.specs.Lists.{Each}
use Rattle.edge_rule.specs.Ending.{gathered, RestsInGroups}
use Rattle.edge_rule.proofs.close.gather.Given as goal

abbrev pub invariant-loop-desk : goal.invariant-loop-desk
invariant-loop-desk g0 l =
    (l.keeper.table_id ≡ l.initial.keeper.table_id)
    × ((done : List DeskView) × (l.fn.desks.items ≡ l.desks.items ++ done) × (l.keeper.me ≡ (gathered done, [])) × Each RestsInGroups done)

abbrev pub decreases-loop-desk : goal.decreases-loop-desk
decreases-loop-desk g0 l = vec_len l.desks
