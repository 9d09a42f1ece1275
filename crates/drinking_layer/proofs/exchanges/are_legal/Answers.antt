use Rattle.std.proofs.Common.{◌↔◌, IsTrue, sym, ◌∙◌, subst}
use Rattle.std.proofs.lemmas.Bool.{false≢true}
use Rattle.legal_steps.specs.declared.end.End.{End}
use Rattle.legal_steps.specs.declared.phase.Dining.{Dining}
use Rattle.legal_steps.specs.declared.edge_state.EdgeState.{EdgeState}
use Rattle.edge_rule.specs.DeskView.{DeskView, known}
use Rattle.drinking_layer.proofs.AddedSets.{edge_there, seat_there}
use Rattle.drinking_layer.specs.Exchanging.{AreForkMovesLegal}
use Rattle.drinking_layer.proofs.Groups.{legal_moves, fork_moves, gifts_part, wishes_part}
use Rattle.drinking_layer.proofs.exchanges.are_legal.Goals as goal

pub returns-then-not-are_fork_moves : goal.returns-then-not-are_fork_moves
returns-then-not-are_fork_moves g c =
    let a = c.at_edge-at.ensures in
    let d : DeskView = c.args.desk.now in
    let e = c.args.edge in
    let own = c.requires.edge in
    let all = legal_moves d.plan (known d) d.job e c.args.moves in
    let forks = fork_moves d.plan (known d) d.job e c.args.moves (edge_there d e a.known own) (seat_there d e a.known own) own in
    let test = subst (λ (q : Dining × End × EdgeState). IsTrue c.are_fork_moves.result ↔ AreForkMovesLegal q.0 q.1 q.2 c.args.moves)
    (λ i. ((a.phase i).dining, a.here i, a.seen i)) c.are_fork_moves.ensures in
    (λ t. absurd (false≢true t), λ legal. absurd (false≢true (sym c.if-not-are_fork_moves.true ∙ test.1 (forks.1 (all.0 legal).0))))

pub returns-then-not-is_part : goal.returns-then-not-is_part
returns-then-not-is_part g c =
    let d : DeskView = c.args.desk.now in
    let e = c.args.edge in
    let all = legal_moves d.plan (known d) d.job e c.args.moves in
    let gives = gifts_part d.plan (known d) d.job e c.args.moves c.greatest_sets-gifts.result.0 c.requires.edge c.greatest_sets-gifts.ensures.gifts in
    (λ t. absurd (false≢true t), λ legal. absurd (false≢true (sym c.if-not-is_part.true ∙ (c.is_part.ensures ∙ gives.1 (all.0 legal).1.0))))

pub returns : goal.returns
returns g c =
    let a = c.at_edge-at.ensures in
    let d : DeskView = c.args.desk.now in
    let e = c.args.edge in
    let own = c.requires.edge in
    let he = edge_there d e a.known own in
    let hj = seat_there d e a.known own in
    let sets = c.greatest_sets-gifts.ensures in
    let all = legal_moves d.plan (known d) d.job e c.args.moves in
    let forks = fork_moves d.plan (known d) d.job e c.args.moves he hj own in
    let test = subst (λ (q : Dining × End × EdgeState). IsTrue c.are_fork_moves.result ↔ AreForkMovesLegal q.0 q.1 q.2 c.args.moves)
    (λ i. ((a.phase i).dining, a.here i, a.seen i)) c.are_fork_moves.ensures in
    let gives = gifts_part d.plan (known d) d.job e c.args.moves c.greatest_sets-gifts.result.0 own sets.gifts in
    let asks = wishes_part d.plan (known d) d.job e c.args.moves c.greatest_sets-gifts.result.1 he hj own sets.wishes in (
      λ t. all.1 (
        forks.0 (test.0 c.if-not-are_fork_moves.false),
        (gives.0 (sym c.is_part.ensures ∙ c.if-not-is_part.false), asks.0 (sym c.is_part-2.ensures ∙ t)),
      ),
      λ legal. c.is_part-2.ensures ∙ asks.1 (all.0 legal).1.1,
    )
