use Rattle.script_reader.proofs.EdgeNumbers.{edge_found}
use Rattle.script_reader.proofs.step.edge_between.Goals as goal

pub returns-in-Some : goal.returns-in-Some
returns-in-Some g c = edge_found c.args.plan.now c.args.job c.args.other c.in-Some.edge c.in-Some.ensures.found
