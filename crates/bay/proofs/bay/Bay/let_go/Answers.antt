use Rattle.bay_book.specs.declared.ask.End.TheVariants.{LetGo}
use Rattle.bay.specs.Rooms.{Ends}
use Rattle.bay.proofs.LoggedCalls.{after_ends, logged_result}
use Rattle.bay_book.specs.Books.{BookView}
use Rattle.bay.specs.Ended.{IsEnded}
use Rattle.bay.proofs.Through.{through_ends, through_result}
use Rattle.bay.proofs.Ended.{ended_kept}
use Rattle.bay.proofs.bay.Bay.let_go.Goals as goal

pub invariant_of-self : goal.invariant_of-self
invariant_of-self c =
    let x = c.self.inside in let i = c.self.invariant in
    let room = c.let_go.new.self in
    record {
      held = logged_result (Ends LetGo c.args.number c.args.now x.room room) c.let_go.result x.room room x.log c.let_go.ensures.ends
          (after_ends LetGo c.args.number c.args.now x.room room x.log) c.let_go.ensures.refused i.held;
      ended = through_result (λ (b : BookView). IsEnded b x.log.lines) (Ends LetGo c.args.number c.args.now x.room room) c.let_go.result x.room room c.let_go.ensures.ends
          (through_ends (λ (b : BookView). IsEnded b x.log.lines) x.room (ended_kept x.room.terms.keeps x.log.lines) LetGo c.args.number c.args.now room) c.let_go.ensures.refused i.ended;
    }
