use Rattle.std.proofs.Common.{◌≡◌, ◌∙◌}
use Rattle.legal_steps.specs.declared.edge_state.EdgeState.{EdgeState}
use Rattle.legal_steps.specs.State.{phase, edge, end_of}
use Rattle.edge_word.specs.declared.moves.EdgeMoves.{EdgeMoves}
use Rattle.edge_rule.specs.DeskView.{DeskView, known}
use Rattle.dining_layer.specs.Turned.{turned}
use Rattle.drinking_layer.specs.Local.{gifts, wishes}
use Rattle.drinking_layer.proofs.AddedSets.{edge_there, seat_there}
use Rattle.drinking_layer.proofs.BottleMoves.{gifts_greatest, wishes_greatest}
use Rattle.drinking_layer.proofs.bottles.greatest_sets.Goals as goal

pub returns : goal.returns
returns g c = let a = c.at_edge-at.ensures in let k = a.known in let d : DeskView = c.args.desk.now in let e = c.args.edge in
    let m : EdgeMoves = c.args.moves in
    let mine : EdgeState = turned d.plan e (end_of d.plan d.job e) (edge (known d) e) in
    let n = c.needed-needed.result in let w = c.needed-needed.ensures in
    let f = k.edges_fit e c.requires.edge.is_edge in
    let one : c.gifts-given.result ≡ gifts (phase (known d) d.job) n mine m.give_fork =
    c.gifts-given.ensures ∙ (λ i. gifts (a.phase i) n (a.mine i) m.give_fork) in
    let two : c.wishes-asked.result ≡ wishes (phase (known d) d.job) n mine m.give_bottles =
    c.wishes-asked.ensures ∙ (λ i. wishes (a.phase i) n (a.mine i) m.give_bottles) in
    let he = edge_there d e k c.requires.edge in
    let hj = seat_there d e k c.requires.edge in
    record {
      gifts = gifts_greatest d.plan (known d) d.job e he hj n w.of_edge f.bottles_fit f.tokens_fit w.just (record m { give_bottles = c.gifts-given.result }) one;
      wishes = wishes_greatest d.plan (known d) d.job e he hj n w.of_edge f.bottles_fit f.tokens_fit w.just (record m { ask_bottles = c.wishes-asked.result }) two;
    }
