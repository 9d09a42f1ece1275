use Rattle.turns.proofs.Whole.{fits_after_every, truthful_after_every, exclusive_after_every, acyclic_after_every}
use Rattle.turns.proofs.locality.after_every_history.Goals as goal

pub returns-clause-fits : goal.returns-clause-fits
returns-clause-fits c = fits_after_every

pub returns-clause-truthful : goal.returns-clause-truthful
returns-clause-truthful c = truthful_after_every

pub returns-clause-exclusive : goal.returns-clause-exclusive
returns-clause-exclusive c = exclusive_after_every

pub returns-clause-acyclic : goal.returns-clause-acyclic
returns-clause-acyclic c = acyclic_after_every
