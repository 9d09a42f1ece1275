use Rattle.turns.specs.Acts.{IsSettled}
use Rattle.edge_rule.specs.DeskView.{DeskView, known}
use Rattle.edge_rule.proofs.DeskSteps.{of_seat}
use Rattle.edge_rule.proofs.desk.Desk.note_settled.Goals as goal

pub invariant_of-self : goal.invariant_of-self
invariant_of-self g c = let ok = c.self.invariant in record {
  at_rest = ok.at_rest;
  empty = ok.empty;
  job = ok.job;
  counts = ok.counts;
  own = ok.own;
  seen = ok.seen;
  of_plan = ok.of_plan;
  calm = ok.calm;
  settled = λ _. of_seat (λ (z : DeskView). IsSettled z.plan (known z) z.job) c.self.inside _ c.self.view_is c.requires;
  needed = ok.needed;
  rests = ok.rests;
}
