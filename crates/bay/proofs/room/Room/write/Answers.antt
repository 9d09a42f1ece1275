use Rattle.bay.specs.Pages.{pages}
use Rattle.bay.proofs.LoggedCalls.{written_tied}
use Rattle.bay.proofs.room.Room.write.Goals as goal

pub invariant_of-self : goal.invariant_of-self
invariant_of-self c =
    let x = c.self.inside in
    record {
      few = c.self.invariant.few;
      tied = written_tied x.classes.items x.line c.write_owed.result (pages x.book c.args.log.now) (pages c.write_owed.new.book c.write_owed.new.log)
          c.write_owed.ensures.writes c.self.invariant.tied;
    }
