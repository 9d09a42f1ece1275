use Rattle.refused_steps.proofs.Refused.{told_refused}
use Rattle.refused_steps.proofs.why.why_not.Goals as goal

pub returns : goal.returns
returns g c = let w = c.args.world.now in record {
  explains = c.cause_of.ensures;
  refused = told_refused w.plan w.state c.args.event.now c.cause_of.result c.cause_of.ensures;
}
