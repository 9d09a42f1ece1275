use Rattle.bay.proofs.LoggedCalls.{logged_noted}
use Rattle.bay.proofs.Ended.{ended_noted}
use Rattle.bay.proofs.bay.Bay.note.Goals as goal

pub invariant_of-self : goal.invariant_of-self
invariant_of-self c =
    let x = c.self.inside in let i = c.self.invariant in let standing = c.position.ensures.standing in
    record {
      held = logged_noted c.add.result x.room.book x.log c.add.new.self c.args.number c.in-Ok.text standing c.add.ensures.added c.add.ensures.same i.held;
      ended = ended_noted c.add.result x.room.book x.log c.add.new.self c.args.number c.in-Ok.text standing.begun c.add.ensures.added c.add.ensures.same i.ended;
    }
