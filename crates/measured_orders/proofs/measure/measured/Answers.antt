use Rattle.std.proofs.Common.{◌∙◌, sym}
use Rattle.waiting.proofs.Known.{many}
use Rattle.measured_orders.proofs.measure.measured.Goals as goal

pub waited_in_all-waited-requires-clause-all : goal.waited_in_all-waited-requires-clause-all
waited_in_all-waited-requires-clause-all g c = c.jobs.ensures.jobs ∙ sym (many c.args.plan.now c.args.limit c.in_ok-run.run' c.in_ok-run.ensures)
