use Rattle.std.proofs.Common.{refl, inl, inr}
use Rattle.legal_steps.specs.declared.event.Event.TheVariants.{Withdraw}
use Rattle.edge_rule.specs.DeskView.{DeskView, known}
use Rattle.turns.specs.Acts.{Counts}
use Rattle.turns.proofs.Firsts.{refused}
use Rattle.session_layer.proofs.Settled.{settled_acts}
use Rattle.session_layer.proofs.phase.settled_due.Goals as goal

pub returns-then-withdraws-clause-first : goal.returns-then-withdraws-clause-first
returns-then-withdraws-clause-first g c =
    let d : DeskView = c.args.desk.now in
    settled_acts d.plan (known d) d.job c.args.waited _ c.requires.settled (inl (c.withdraws.ensures.0 c.if-withdraws.true, refl))

pub returns-else-withdraws-clause-first : goal.returns-else-withdraws-clause-first
returns-else-withdraws-clause-first g c = let d : DeskView = c.args.desk.now in settled_acts d.plan (known d) d.job c.args.waited _ c.requires.settled
    (inr (refused c.withdraws.result (Counts d.plan (known d) d.job c.args.waited (Withdraw d.job)) c.withdraws.ensures c.if-withdraws.false, refl))
