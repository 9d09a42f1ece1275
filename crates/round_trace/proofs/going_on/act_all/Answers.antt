use Rattle.std.proofs.Common.{sym, subst}
use Rattle.legal_steps.specs.Run.{IsLegalFrom}
use Rattle.round_trace.proofs.InHand.{never_stops}
use Rattle.round_trace.proofs.going_on.act_all.Goals as goal

pub unreachable-requires : goal.unreachable-requires
unreachable-requires g c =
    let w = c.args.world.now in
    let stops = c.in_default.ensures.0 in
    never_stops w.plan w.state _ c.deref.result.now _
    (subst (IsLegalFrom w.plan w.state) (sym c.deref.ensures.value) c.in_ok-acts.ensures.rests.legal) stops
