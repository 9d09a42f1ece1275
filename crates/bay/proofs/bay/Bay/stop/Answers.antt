use Rattle.bay.proofs.LoggedCalls.{after_stops}
use Rattle.bay_book.specs.Books.{BookView}
use Rattle.bay.specs.Ended.{IsEnded}
use Rattle.bay.proofs.Through.{through_stops}
use Rattle.bay.proofs.Ended.{ended_kept}
use Rattle.bay.proofs.bay.Bay.stop.Goals as goal

pub invariant_of-self : goal.invariant_of-self
invariant_of-self c =
    let x = c.self.inside in let i = c.self.invariant in
    record {
      held = after_stops c.args.now x.room c.stop.new.self x.log c.stop.ensures i.held;
      ended = through_stops (λ (b : BookView). IsEnded b x.log.lines) x.room (ended_kept x.room.terms.keeps x.log.lines) c.args.now c.stop.new.self c.stop.ensures i.ended;
    }
