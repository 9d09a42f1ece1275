use Rattle.std.proofs.Common.{◌≡◌, ◌<◌, ℕ, length, ap, ◌∙◌, subst, arith}
use Rattle.std.proofs.lemmas.List.{get_or_read}
use Rattle.lab_plan.specs.LabPlan.{edges}
use Rattle.edge_word.specs.Words.{word_of}
use Rattle.legal_steps.specs.State.{no_edge}
use Rattle.edge_rule.specs.Standing.{AreEdgeWords}
use Rattle.edge_rule.proofs.StoodWords.{edge_word_more}
use Rattle.edge_rule.proofs.open_at.write_edges.Goals as goal

pub loop-edge-init : goal.loop-edge-init
loop-edge-init g c = record { wide = c.requires.wide; written = λ e l. absurd (omega arith) }

pub loop-edge-preserved : goal.loop-edge-preserved
loop-edge-preserved g c =
    let n = c.edges-edge-end.ensures.edges in
    let inside : c.loop-edge.edge < length (edges c.args.plan.now) = (let l = c.loop-edge-test.true in omega arith) in
    edge_word_more c.args.plan.now c.args.there.now c.loop-edge.edge c.edge_place.result c.pack-word.result c.loop-edge.words.items inside
    c.edge_place.ensures.0
    (c.pack-word.ensures ∙ ap word_of (get_or_read c.args.there.now _ _ (let m = c.requires.one_each in omega arith) c.index-there-edge.is no_edge))
    c.loop-edge.invariant

pub returns : goal.returns
returns g c =
    let n = c.edges-edge-end.ensures.edges in
    let a = c.loop-edge.auto.edge-end in
    let t = c.loop-edge-test.false in
    let all : c.loop-edge.edge ≡ length (edges c.args.plan.now) = omega arith in
    subst (λ (z : ℕ). AreEdgeWords c.args.plan.now c.args.there.now z c.loop-edge.words.items) all c.loop-edge.invariant
