use Rattle.std.proofs.Common.{Some, refl, sym, subst, List}
use Rattle.bay.specs.declared.classes.Class.{Class}
use Rattle.bay.specs.Cores.{core, IsTied}
use Rattle.bay.specs.Following.{Follows}
use Rattle.bay.specs.Views.{RoomView}
use Rattle.bay.specs.Rooms.{ComesBack}
use Rattle.bay.proofs.Alike.{back_tied}
use Rattle.bay.proofs.room.Room.back.Goals as goal

pub follow-requires-clause-tied : goal.follow-requires-clause-tied
follow-requires-clause-tied c =
    let x = c.self.inside in
    subst (λ (k : List Class). IsTied k (core x.line c.mark_back.new.book)) (sym c.deref.ensures.value)
    (back_tied x.classes.items x.line c.args.number c.args.owner x.book c.mark_back.new.book c.in-Some.needs c.in-Some.ensures c.self.invariant.tied)

pub returns : goal.returns
returns c =
    let x = c.self.inside in let book = c.mark_back.new.book in
    let new : RoomView = record {
      classes = x.classes.items;
      terms = x.terms;
      line = c.follow.new.line;
      book = c.follow.new.book;
      moment = c.max-self-inside.result;
      stopped = x.stopped;
      telling = x.telling;
      serial = x.serial;
    } in
    subst (λ (v : RoomView). ComesBack c.args.number c.args.owner c.args.now v (Some c.in-Some.needs) new) c.self.view_is (
      book,
      c.in-Some.ensures,
      record {
        moment_is = c.max-self-inside.ensures;
        follows = subst (λ (k : List Class). Follows k x.terms c.max-self-inside.result (core x.line book) (core c.follow.new.line c.follow.new.book))
            c.deref.ensures.value c.follow.ensures.follows;
        same = refl;
      },
    )
