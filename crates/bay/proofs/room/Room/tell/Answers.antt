use Rattle.bay.proofs.Alike.{told_tied}
use Rattle.bay.proofs.room.Room.tell.Goals as goal

pub invariant_of-self : goal.invariant_of-self
invariant_of-self c =
    let x = c.self.inside in let r = c.tell_next-telling.result in
    record {
      few = c.self.invariant.few;
      tied = told_tied x.classes.items x.line x.serial r.1 x.book c.tell_next-telling.new.book r.0 c.is_sound.ensures c.tell_next-telling.ensures
          c.self.invariant.tied;
    }
