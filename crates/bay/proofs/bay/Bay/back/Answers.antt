use Rattle.bay.proofs.LoggedCalls.{after_comes_back}
use Rattle.bay_book.specs.Books.{BookView}
use Rattle.bay.specs.Ended.{IsEnded}
use Rattle.bay.proofs.Through.{through_comes_back}
use Rattle.bay.proofs.Ended.{ended_kept}
use Rattle.bay.proofs.bay.Bay.back.Goals as goal

pub invariant_of-self : goal.invariant_of-self
invariant_of-self c =
    let x = c.self.inside in let i = c.self.invariant in
    record {
      held = after_comes_back c.args.number c.args.owner c.args.now x.room c.back.new.self c.back.result x.log c.back.ensures i.held;
      ended = through_comes_back (λ (b : BookView). IsEnded b x.log.lines) x.room (ended_kept x.room.terms.keeps x.log.lines) c.args.number c.args.owner c.args.now c.back.new.self c.back.result c.back.ensures i.ended;
    }
