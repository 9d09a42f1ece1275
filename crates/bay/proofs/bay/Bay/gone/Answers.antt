use Rattle.bay.proofs.LoggedCalls.{after_goes}
use Rattle.bay_book.specs.Books.{BookView}
use Rattle.bay.specs.Ended.{IsEnded}
use Rattle.bay.proofs.Through.{through_goes}
use Rattle.bay.proofs.Ended.{ended_kept}
use Rattle.bay.proofs.bay.Bay.gone.Goals as goal

pub invariant_of-self : goal.invariant_of-self
invariant_of-self c =
    let x = c.self.inside in let i = c.self.invariant in
    record {
      held = after_goes c.args.number c.args.now x.room c.gone.new.self x.log c.gone.ensures i.held;
      ended = through_goes (λ (b : BookView). IsEnded b x.log.lines) x.room (ended_kept x.room.terms.keeps x.log.lines) c.args.number c.args.now c.gone.new.self c.gone.ensures i.ended;
    }
