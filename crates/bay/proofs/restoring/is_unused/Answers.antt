use Rattle.std.proofs.Common.{not, ap}
use Rattle.bay.proofs.Restored.{unused_by}
use Rattle.bay.proofs.Refused.{used_by}
use Rattle.bay.proofs.restoring.is_unused.Goals as goal

pub returns-clause-unused : goal.returns-clause-unused
returns-clause-unused c = λ h. unused_by c.args.book.now.asks c.in_use.result c.args.needs c.in_use.ensures (ap not h)

pub returns-clause-used : goal.returns-clause-used
returns-clause-used c = λ h. used_by c.args.book.now.asks c.in_use.result c.args.needs c.in_use.ensures (ap not h)
