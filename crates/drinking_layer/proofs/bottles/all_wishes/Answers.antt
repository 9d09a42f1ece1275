use Rattle.std.proofs.Common.{◌≡◌, false, ◌∙◌}
use Rattle.legal_steps.specs.State.{phase, edge, end_of}
use Rattle.edge_rule.specs.DeskView.{DeskView, known}
use Rattle.dining_layer.specs.Turned.{turned}
use Rattle.drinking_layer.specs.Local.{wishes}
use Rattle.drinking_layer.proofs.AddedSets.{edge_there, seat_there}
use Rattle.drinking_layer.proofs.BottleMoves.{wishes_greatest}
use Rattle.drinking_layer.proofs.bottles.all_wishes.Goals as goal

pub returns : goal.returns
returns g c = let a = c.at_edge-at.ensures in let k = a.known in let d : DeskView = c.args.desk.now in let e = c.args.edge in
    let n = c.needed-needed.result in let w = c.needed-needed.ensures in
    let f = k.edges_fit e c.requires.edge.is_edge in
    let two : c.wishes.result ≡ wishes (phase (known d) d.job) n (turned d.plan e (end_of d.plan d.job e) (edge (known d) e)) 0 =
    c.wishes.ensures ∙ (λ i. wishes (a.phase i) n (a.mine i) 0) in
    wishes_greatest d.plan (known d) d.job e (edge_there d e k c.requires.edge) (seat_there d e k c.requires.edge) n w.of_edge f.bottles_fit f.tokens_fit w.just
    (record { give_fork = false; give_bottles = 0; ask_fork = false; ask_bottles = c.wishes.result; soil = false }) two
