use Rattle.rounds.proofs.Opened.{never_ends_quiet}
use Rattle.rounds.proofs.laws.never_ends_quiet.Goals as goal

pub returns : goal.returns
returns c = never_ends_quiet
