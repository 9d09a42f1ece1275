use Rattle.std.proofs.Common.{refl, sym, subst}
use Rattle.bay_book.specs.Books.{reach}
use Rattle.bay_log.specs.Logs.{reaching}
use Rattle.bay.specs.Views.{RoomView}
use Rattle.bay.specs.Ended.{AreInLog}
use Rattle.bay.proofs.LoggedCalls.{logged_lines}
use Rattle.bay.proofs.Ended.{ended_reach}
use Rattle.bay.proofs.bay.Bay.durable.Goals as goal

pub invariant_of-self : goal.invariant_of-self
invariant_of-self c =
    let x = c.self.inside in let i = c.self.invariant in
    subst (λ (r : RoomView). AreInLog r.book c.reach.new.self) (sym c.reach-2.ensures)
    (subst (AreInLog (reach x.room.book c.durable.result)) (sym c.reach.ensures) (record {
      held = logged_lines x.room.book x.log (reaching x.log c.args.position) refl i.held;
      ended = ended_reach x.room.book x.log.lines c.durable.result i.ended;
    }))
