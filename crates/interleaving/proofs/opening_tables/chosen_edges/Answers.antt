use Rattle.std.proofs.Common.{◌<◌, [], ◌∷◌, ◌++◌, length, take, arith, sym, ap, ◌∙◌}
use Rattle.legal_steps.specs.declared.edge_state.EdgeState.{EdgeState}
use Rattle.legal_steps.specs.Opening.{opening_of}
use Rattle.interleaving.proofs.OpeningTables.{chosen_more}
use Rattle.interleaving.proofs.opening_tables.chosen_edges.Goals as goal

pub loop-edge-preserved : goal.loop-edge-preserved
loop-edge-preserved g c =
    let plan = c.args.plan.now in
    let choices = c.args.choices.now in
    let before = take c.loop-edge.edge (opening_of plan choices).edges in
    let inside : c.loop-edge.edge < length choices = omega (arith, c.requires.one_each, c.edges-edge-end.ensures.edges) in
    c.in_ok-push.ensures.items
    ∙ (ap (λ xs. xs ++ c.chosen_edge.result ∷ []) c.loop-edge.invariant
    ∙ (ap (λ (x : EdgeState). before ++ x ∷ []) c.chosen_edge.ensures ∙ sym (chosen_more plan choices c.loop-edge.edge _ inside)))
