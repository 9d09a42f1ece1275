use Rattle.lab_views.proofs.Printed.{printed_is_drawn}
use Rattle.lab_views.proofs.laws.printed_is_drawn.Goals as goal

pub returns : goal.returns
returns c = printed_is_drawn
