use Rattle.bay.specs.Rooms.{Asks}
use Rattle.bay.proofs.LoggedCalls.{after_asks, logged_result}
use Rattle.bay_book.specs.Books.{BookView}
use Rattle.bay.specs.Ended.{IsEnded}
use Rattle.bay.proofs.Through.{through_asks, through_result}
use Rattle.bay.proofs.Ended.{ended_kept}
use Rattle.bay.proofs.bay.Bay.ask.Goals as goal

pub invariant_of-self : goal.invariant_of-self
invariant_of-self c =
    let x = c.self.inside in let i = c.self.invariant in
    let room = c.ask.new.self in
    record {
      held = logged_result (Asks c.args.sets.now c.args.request c.args.now x.room room) c.ask.result x.room room x.log c.ask.ensures.asks
          (after_asks c.args.sets.now c.args.request c.args.now x.room room x.log) c.ask.ensures.refused i.held;
      ended = through_result (λ (b : BookView). IsEnded b x.log.lines) (Asks c.args.sets.now c.args.request c.args.now x.room room) c.ask.result x.room room c.ask.ensures.asks
          (through_asks (λ (b : BookView). IsEnded b x.log.lines) x.room (ended_kept x.room.terms.keeps x.log.lines) c.args.sets.now c.args.request c.args.now room) c.ask.ensures.refused i.ended;
    }
