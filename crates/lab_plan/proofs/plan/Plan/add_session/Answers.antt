use Rattle.std.proofs.Common.{rules}
use Rattle.lab_plan.specs.Longer.{session_of}
use Rattle.lab_plan.proofs.OneMore.{granted, is_own}
use Rattle.lab_plan.proofs.plan.Plan.add_session.Goals as goal

pub returns-clause-own : goal.returns-clause-own
returns-clause-own g c =
    let session = session_of c.args.patience c.args.commands.now in
    is_own c.args.self.now c.args.job session (granted c.args.self.now c.args.job session (search rules)).own
