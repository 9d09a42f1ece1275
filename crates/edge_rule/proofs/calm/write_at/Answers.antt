use Rattle.std.proofs.Common.{◌≡◌, ℕ, ◌+◌, List, [], ◌∷◌, ◌++◌, take, set, ap, sym, ◌∙◌}
use Rattle.std.proofs.lemmas.List.{take_more}
use Rattle.edge_rule.specs.CalmEdges.{written_at}
use Rattle.edge_rule.proofs.WrittenLists.{written_more}
use Rattle.edge_rule.proofs.calm.write_at.Goals as goal

pub loop-edge-preserved : goal.loop-edge-preserved
loop-edge-preserved g c =
    let es : List ℕ = c.args.edges.now in
    let i : ℕ = c.loop-edge.edge-index in
    let e : ℕ = c.edge-item.result in
    let more : take i es ++ e ∷ [] ≡ take (i + 1) es =
    ap (λ n. take i es ++ n ∷ []) c.edge-item.is ∙ sym (take_more es i e c.loop-edge-test.true) in
    (λ k. set (c.loop-edge.invariant k) (c.number.ensures.0 k) c.args.what)
    ∙ (sym (written_more (take i es) e c.args.what c.args.list.now.items) ∙ ap (λ (z : List ℕ). written_at z c.args.what c.args.list.now.items) more)
