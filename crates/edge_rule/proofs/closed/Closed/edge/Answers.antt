use Rattle.edge_rule.proofs.ClosedWords.{edge_inside, edge_word_there, edge_spelled, edge_read, edge_fits_there}
use Rattle.edge_rule.proofs.closed.Closed.edge.Goals as goal

pub word-word-requires : goal.word-word-requires
word-word-requires g0 c = (edge_word_there c.self.inside _ c.self.view_is c.self.invariant c.args.edge _ c.edge_place.ensures.0 c.requires, c.self.invariant.full.0)

pub unpacked-requires-clause-edge : goal.unpacked-requires-clause-edge
unpacked-requires-clause-edge g0 c = edge_inside c.self.inside _ c.self.view_is c.self.invariant c.args.edge c.requires

pub unpacked-requires-clause-spelled : goal.unpacked-requires-clause-spelled
unpacked-requires-clause-spelled g0 c =
    edge_spelled c.self.inside _ c.self.view_is c.self.invariant c.args.edge _ _ c.edge_place.ensures.0 c.requires c.word-word.ensures

pub returns : goal.returns
returns g0 c = record {
  edge = edge_read c.self.inside _ c.self.view_is c.self.invariant c.args.edge _ _ c.unpacked.result
      c.edge_place.ensures.0 c.requires c.word-word.ensures c.unpacked.ensures.word c.unpacked.ensures.fits;
  fits = edge_fits_there c.self.inside _ c.self.view_is c.self.invariant c.args.edge c.unpacked.result c.unpacked.ensures.fits;
}
