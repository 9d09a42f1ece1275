use Rattle.bay.proofs.LoggedCalls.{after_leaves}
use Rattle.bay_book.specs.Books.{BookView}
use Rattle.bay.specs.Ended.{IsEnded}
use Rattle.bay.proofs.Through.{through_leaves}
use Rattle.bay.proofs.Ended.{ended_kept}
use Rattle.bay.proofs.bay.Bay.leave.Goals as goal

pub invariant_of-self : goal.invariant_of-self
invariant_of-self c =
    let x = c.self.inside in let i = c.self.invariant in
    record {
      held = after_leaves c.args.number c.args.now x.room c.leave.new.self x.log c.leave.ensures i.held;
      ended = through_leaves (λ (b : BookView). IsEnded b x.log.lines) x.room (ended_kept x.room.terms.keeps x.log.lines) c.args.number c.args.now c.leave.new.self c.leave.ensures i.ended;
    }
