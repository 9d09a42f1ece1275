use Rattle.std.proofs.Common.{Err, refl, sym, subst}
use Rattle.lab_views.specs.Pictures.{DrawsFor, Pictures, HasNoTimeline}
use Rattle.lab_views.proofs.Refused.{refused_for}
use Rattle.lab_views.proofs.pictures.draw_input.Goals as goal

pub returns-in-Err-clause-answer : goal.returns-in-Err-clause-answer
returns-in-Err-clause-answer g c =
    let old = g.W.Sink.taken c.args.sink.now in
    subst (λ f. DrawsFor c.args.input.now old old
    (Err f)) (sym c.for_report.ensures) (refused_for Pictures HasNoTimeline c.args.input.now old c.in-Err.fault c.in-Err.fault.cause refl c.in-Err.ensures)
