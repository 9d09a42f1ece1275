use Rattle.edge_rule.proofs.open_at.words_of.Goals as goal

pub write_phases-requires-clause-few : goal.write_phases-requires-clause-few
write_phases-requires-clause-few g c = c.requires.few

pub returns : goal.returns
returns g c = c.write_phases.ensures
