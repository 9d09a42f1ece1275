use Rattle.std.proofs.Common.{◌≡◌, rules}
use Rattle.edge_word.specs.Moves.{after_moves}
use Rattle.edge_word.proofs.MoveLaws.{after_moves-leads}
use Rattle.edge_word.proofs.edge.EdgeWord.moved.Goals as goal

pub returns-clause-events : goal.returns-clause-events
returns-clause-events c =
    let same : c.flipped.result ≡ after_moves c.args.moves c.args.self = search rules in
    after_moves-leads c.args.moves c.args.self c.flipped.result same
