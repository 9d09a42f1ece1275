use Rattle.std.proofs.Common.{refl, sym, subst, List, None}
use Rattle.bay.specs.declared.classes.Class.{Class}
use Rattle.bay.specs.Cores.{core, IsTied}
use Rattle.bay.specs.Following.{Follows}
use Rattle.bay.specs.Views.{RoomView, core_of}
use Rattle.bay.specs.Turning.{IsWhoMayNot, Changes}
use Rattle.bay.proofs.NewFile.{tied_by}
use Rattle.bay.proofs.room.Room.change.Goals as goal

pub follow-requires-clause-tied : goal.follow-requires-clause-tied
follow-requires-clause-tied c =
    let x = c.self.inside in let classes = c.args.classes.items in
    let may = subst (λ (v : RoomView). IsWhoMayNot classes (core_of v) None) (sym c.self.view_is) c.requires.may in
    let tied = tied_by x.classes.items classes (core x.line x.book) may c.self.invariant.tied in
    subst (λ (k : List Class). IsTied k (core x.line x.book)) (sym c.deref.ensures.value)
    tied

pub returns : goal.returns
returns c =
    let x = c.self.inside in let classes = c.args.classes.items in
    let new : RoomView = record {
      classes = classes;
      terms = x.terms;
      line = c.follow.new.line;
      book = c.follow.new.book;
      moment = c.max-self-inside.result;
      stopped = x.stopped;
      telling = x.telling;
      serial = x.serial;
    } in
    let core_is = core c.follow.new.line c.follow.new.book in
    subst (λ (v : RoomView). Changes classes c.args.now v.book v new) c.self.view_is
    (record {
      moment_is = c.max-self-inside.ensures;
      follows = subst (λ (k : List Class). Follows k x.terms c.max-self-inside.result (core x.line x.book) core_is) c.deref.ensures.value
          c.follow.ensures.follows;
      same = refl;
    })
