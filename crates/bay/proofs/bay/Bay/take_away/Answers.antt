use Rattle.bay_book.specs.declared.ask.End.TheVariants.{TakenAway}
use Rattle.bay.specs.Rooms.{Ends}
use Rattle.bay.proofs.LoggedCalls.{after_ends, logged_result}
use Rattle.bay_book.specs.Books.{BookView}
use Rattle.bay.specs.Ended.{IsEnded}
use Rattle.bay.proofs.Through.{through_ends, through_result}
use Rattle.bay.proofs.Ended.{ended_kept}
use Rattle.bay.proofs.bay.Bay.take_away.Goals as goal

pub invariant_of-self : goal.invariant_of-self
invariant_of-self c =
    let x = c.self.inside in let i = c.self.invariant in
    let room = c.take_away.new.self in
    record {
      held = logged_result (Ends TakenAway c.args.number c.args.now x.room room) c.take_away.result x.room room x.log c.take_away.ensures.ends
          (after_ends TakenAway c.args.number c.args.now x.room room x.log) c.take_away.ensures.refused i.held;
      ended = through_result (λ (b : BookView). IsEnded b x.log.lines) (Ends TakenAway c.args.number c.args.now x.room room) c.take_away.result x.room room c.take_away.ensures.ends
          (through_ends (λ (b : BookView). IsEnded b x.log.lines) x.room (ended_kept x.room.terms.keeps x.log.lines) TakenAway c.args.number c.args.now room) c.take_away.ensures.refused i.ended;
    }
