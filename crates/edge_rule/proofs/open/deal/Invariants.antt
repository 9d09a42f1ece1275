use Rattle.std.proofs.Common.{◌≡◌, []}
use Rattle.one_history.specs.Seating.{undealt}
use Rattle.edge_rule.specs.DeskView.{fresh_desks}
use Rattle.edge_rule.proofs.open.deal.Given as goal

abbrev pub invariant-loop-job : goal.invariant-loop-job
invariant-loop-job g0 l = record {
  table : l.keeper.table_id ≡ l.initial.keeper.table_id;
  left : l.keeper.me ≡ (undealt l.plan [] l.job, []);
  desks : l.desks.items ≡ fresh_desks l.initial.keeper.table_id l.plan l.job;
}
