use Rattle.session_layer.proofs.LostPlaces as places
use Rattle.session_layer.proofs.growth.loses_in_between.Goals as goal

pub returns : goal.returns
returns c = places.loses_in_between
