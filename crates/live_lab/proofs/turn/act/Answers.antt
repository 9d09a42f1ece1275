use Rattle.std.proofs.Common.{[], refl, subst}
use Rattle.turns.specs.Acts.{AreActs}
use Rattle.round_trace.specs.Doing.{first_events}
use Rattle.settling.proofs.Nothing.{leads_none}
use Rattle.live_lab.proofs.turn.act.Goals as goal

pub returns-in-None-clause-acts : goal.returns-in-None-clause-acts
returns-in-None-clause-acts g c = let w = c.args.world.now in record {
  acts = [];
  due = subst (λ r. AreActs w.plan w.state c.args.job c.args.waited (first_events r)) c.in-None.is c.first_act.ensures.first;
  says = refl;
  leads = leads_none w;
}
