use Rattle.session_layer.proofs.Grows as grows
use Rattle.session_layer.proofs.growth.no_turn.Goals as goal

pub returns-clause-glances : goal.returns-clause-glances
returns-clause-glances c = grows.glances_alone

pub returns-clause-hearing : goal.returns-clause-hearing
returns-clause-hearing c = grows.hearing_alone
