use Rattle.bay.proofs.LoggedCalls.{after_tells}
use Rattle.bay_book.specs.Books.{BookView}
use Rattle.bay.specs.Ended.{IsEnded}
use Rattle.bay.proofs.Through.{through_tells}
use Rattle.bay.proofs.Ended.{ended_kept}
use Rattle.bay.proofs.bay.Bay.tell.Goals as goal

pub invariant_of-self : goal.invariant_of-self
invariant_of-self c =
    let x = c.self.inside in let i = c.self.invariant in
    record {
      held = after_tells c.args.done x.room c.tell.new.self c.tell.result x.log c.tell.ensures i.held;
      ended = through_tells (λ (b : BookView). IsEnded b x.log.lines) x.room (ended_kept x.room.terms.keeps x.log.lines) c.args.done c.tell.new.self c.tell.result c.tell.ensures i.ended;
    }
