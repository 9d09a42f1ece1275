use Rattle.std.proofs.Common.{arith, ap, Err, None}
use Rattle.lab_program.specs.declared.input.ReadFault.{ReadFault}
use Rattle.lab_views.proofs.Answered.{at_source, tells_none, unread}
use Rattle.lab_views.proofs.views.run_view.Goals as goal

pub returns-in-Err-clause-told : goal.returns-in-Err-clause-told
returns-in-Err-clause-told g c = tells_none c.args.view

pub returns-in-Err-clause-answer : goal.returns-in-Err-clause-answer
returns-in-Err-clause-answer g c =
    unread c.args.view None (g.R.Source.left c.args.source.now) (g.W.Sink.taken c.args.sink.now) c.in-Err.fault c.not_read.result c.not_read.ensures
    (λ is. c.in-Err.ensures.long (ap (λ (e : ReadFault). Err e) is))

pub returns-clause-answer : goal.returns-clause-answer
returns-clause-answer g c =
    let input = c.in-Ok.input in
    at_source c.args.view c.view_input.new.gain (g.R.Source.left c.args.source.now) (g.W.Sink.taken c.args.sink.now) (g.W.Sink.taken c.view_input.new.sink)
    c.deref.result.now input.items c.view_input.result c.deref.ensures.value c.in-Ok.ensures.whole (omega (arith, input.ok.0, c.in-Ok.ensures.limit))
    c.view_input.ensures.answer
