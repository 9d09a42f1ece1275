use Rattle.bay.proofs.Given.{writes_give}
use Rattle.bay.proofs.log_laws.writes_give.Goals as goal

pub returns : goal.returns
returns c = writes_give
