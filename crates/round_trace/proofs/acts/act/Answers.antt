use Rattle.std.proofs.Common.{[], subst}
use Rattle.std.proofs.lemmas.Result.{IfOk-weaker}
use Rattle.turns.specs.Acts.{AreActs, whole_act}
use Rattle.round_trace.specs.Doing.{first_events}
use Rattle.round_trace.proofs.Doing.{does_none}
use Rattle.round_trace.proofs.acts.act.Goals as goal

pub do_act-requires : goal.do_act-requires
do_act-requires g c = rw c.in-Some.is at c.first_act.ensures.may

pub returns-in-Some : goal.returns-in-Some
returns-in-Some g c =
    let w = c.args.world.now in
    IfOk-weaker c.do_act.result _ _ (λ done did. record {
      acts = whole_act c.in-Some.event;
      due = subst (λ r. AreActs w.plan w.state c.args.job c.args.waited (first_events r)) c.in-Some.is c.first_act.ensures.first;
      does = did;
    }) c.do_act.ensures

pub returns-in-None : goal.returns-in-None
returns-in-None g c = let w = c.args.world.now in record {
  acts = [];
  due = subst (λ r. AreActs w.plan w.state c.args.job c.args.waited (first_events r)) c.in-None.is c.first_act.ensures.first;
  does = does_none w c.args.events.now.items;
}
