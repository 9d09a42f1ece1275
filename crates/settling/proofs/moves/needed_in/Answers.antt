use Rattle.std.proofs.Common.{sym, ◌∙◌}
use Rattle.std.proofs.lemmas.Bool.{false≢true}
use Rattle.edge_rule.proofs.NotedNeeds.{named_needed, none_at}
use Rattle.settling.proofs.moves.needed_in.Goals as goal

pub returns-then-is_in_session : goal.returns-then-is_in_session
returns-then-is_in_session g c =
    named_needed c.args.plan.now c.args.job c.args.edge c.needed_bottles.result c.args.phase
    (c.is_in_session.ensures.0 c.if-is_in_session.true) c.needed_bottles.ensures

pub returns-else-is_in_session : goal.returns-else-is_in_session
returns-else-is_in_session g c = none_at c.args.plan.now c.args.job c.args.edge c.args.phase
    (λ h. false≢true (sym c.if-is_in_session.false ∙ c.is_in_session.ensures.1 h))
