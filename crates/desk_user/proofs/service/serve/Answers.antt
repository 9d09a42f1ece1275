use Rattle.std.proofs.Common.{ℕ, ◌+◌, subst}
use Rattle.session_layer.specs.Turn.{Says}
use Rattle.desk_user.proofs.service.serve.Goals as goal

pub returns-clause-served : goal.returns-clause-served
returns-clause-served g c = let a = c.visit_all-done.ensures.along in let m = c.meal.ensures in record {
  visits = a.visits;
  edges = a.edges;
  visited = c.visit_all-done.new.desk;
  all = a.all;
  acts = m.events;
  due = m.due;
  does = m.does;
  says = subst (λ (z : ℕ × ℕ). Says c.of.result z.0 z.1) (λ i. (a.done_is i + m.says i, a.lost_is i)) c.of.ensures;
}
