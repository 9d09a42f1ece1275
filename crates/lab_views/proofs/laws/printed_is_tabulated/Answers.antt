use Rattle.lab_views.proofs.Printed.{printed_is_tabulated}
use Rattle.lab_views.proofs.laws.printed_is_tabulated.Goals as goal

pub returns : goal.returns
returns c = printed_is_tabulated
