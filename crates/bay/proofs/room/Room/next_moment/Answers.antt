use Rattle.std.proofs.Common.{List, subst}
use Rattle.bay.specs.declared.classes.Class.{Class}
use Rattle.bay.specs.Cores.{core}
use Rattle.bay.specs.Following.{IsNextMoment}
use Rattle.bay.specs.Views.{RoomView, core_of}
use Rattle.bay.proofs.room.Room.next_moment.Goals as goal

pub returns : goal.returns
returns c =
    let x = c.self.inside in
    subst (λ (v : RoomView). IsNextMoment v.classes v.terms (core_of v) c.next_moment.result) c.self.view_is
    (subst (λ (k : List Class). IsNextMoment k x.terms (core x.line x.book) c.next_moment.result) c.deref.ensures.value c.next_moment.ensures)
