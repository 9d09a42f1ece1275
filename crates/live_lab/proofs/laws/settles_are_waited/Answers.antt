use Rattle.live_lab.proofs.Waited as waited
use Rattle.live_lab.proofs.laws.settles_are_waited.Goals as goal

pub returns : goal.returns
returns c = record { lettings_in = waited.lettings_in; settles = waited.settles }
