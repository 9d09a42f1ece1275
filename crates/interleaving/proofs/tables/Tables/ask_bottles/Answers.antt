use Rattle.std.proofs.Common.{length, sym, ap, ◌∙◌, subst}
use Rattle.std.proofs.lemmas.Nat.{xor_lt}
use Rattle.lab_plan.specs.LabPlan.{bottles}
use Rattle.legal_steps.specs.declared.edge_state.EdgeState.{EdgeState}
use Rattle.legal_steps.specs.State.{IsOfEdge}
use Rattle.legal_steps.specs.Legal.{with_edge, bottles_asked}
use Rattle.interleaving.proofs.tables.Tables.ask_bottles.Goals as goal

pub set_edge-requires-clause-is_edge : goal.set_edge-requires-clause-is_edge
set_edge-requires-clause-is_edge g c = c.requires.0.is_edge

pub set_edge-requires-clause-bottles : goal.set_edge-requires-clause-bottles
set_edge-requires-clause-bottles g c =
    subst (λ (x : EdgeState). IsOfEdge c.args.self.now.plan c.args.edge x.bottles) (sym c.bottles_asked.ensures) c.edge.ensures.bottles

pub set_edge-requires-clause-tokens : goal.set_edge-requires-clause-tokens
set_edge-requires-clause-tokens g c =
    let plan = c.args.self.now.plan in
    subst (λ (x : EdgeState). IsOfEdge plan c.args.edge x.bottle_tokens) (sym c.bottles_asked.ensures)
    (xor_lt (length (bottles plan c.args.edge)) c.edge.result.bottle_tokens c.args.set c.edge.ensures.tokens c.requires.2.of_edge)

pub returns-clause-state : goal.returns-clause-state
returns-clause-state g c =
    c.set_edge.ensures.state
    ∙ ap (with_edge c.args.self.now.state c.args.edge) (c.bottles_asked.ensures ∙ ap (bottles_asked c.args.set) c.edge.ensures.edge)

pub returns-clause-plan : goal.returns-clause-plan
returns-clause-plan g c = c.set_edge.ensures.plan
