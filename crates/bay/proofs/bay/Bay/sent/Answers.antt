use Rattle.std.proofs.Common.{refl, sym, subst}
use Rattle.bay_log.specs.Logs.{sending}
use Rattle.bay.specs.Ended.{AreInLog}
use Rattle.bay.proofs.LoggedCalls.{logged_lines}
use Rattle.bay.proofs.bay.Bay.sent.Goals as goal

pub invariant_of-self : goal.invariant_of-self
invariant_of-self c =
    let x = c.self.inside in let i = c.self.invariant in
    subst (AreInLog x.room.book) (sym c.send.ensures) (record { held = logged_lines x.room.book x.log (sending x.log) refl i.held; ended = i.ended })
