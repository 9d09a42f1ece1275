use Rattle.std.proofs.Common.{subst}
use Rattle.bay.specs.Following.{IsNextMoment}
use Rattle.bay.specs.Views.{core_of}
use Rattle.bay.specs.Bays.{BayView}
use Rattle.bay.proofs.bay.Bay.next_moment.Goals as goal

pub returns : goal.returns
returns c =
    subst (λ (v : BayView). IsNextMoment v.room.classes v.room.terms (core_of v.room) c.next_moment.result) c.self.view_is c.next_moment.ensures
