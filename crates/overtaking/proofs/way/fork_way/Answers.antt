use Rattle.std.proofs.Common.{sym, subst, ◌∙◌}
use Rattle.std.proofs.lemmas.Bool.{false≢true}
use Rattle.legal_steps.specs.declared.edge_state.EdgeState.{EdgeState}
use Rattle.legal_steps.specs.declared.event.Event.TheVariants.{Look}
use Rattle.overtaking.specs.Stuck.{IsWayOn}
use Rattle.overtaking.proofs.Worlds.{world_look}
use Rattle.overtaking.proofs.way.fork_way.Goals as goal

pub returns-then-not-is_up_to_date-clause-leads_on : goal.returns-then-not-is_up_to_date-clause-leads_on
returns-then-not-is_up_to_date-clause-leads_on g c =
    let w = c.args.world.now in
    subst (λ (seen : EdgeState). IsWayOn w.plan w.state (Look c.args.job c.args.edge seen)) (sym c.edge.ensures)
    (world_look w.plan w.state w.counts c.args.job c.args.edge c.plan.ensures.reached c.requires (λ fresh. false≢true (sym c.if-not-is_up_to_date.true
    ∙ c.is_up_to_date.ensures.1 fresh)))
