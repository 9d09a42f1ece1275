use Rattle.std.proofs.Common.{List, subst}
use Rattle.timeline.specs.declared.span.Span.{Span}
use Rattle.timeline.specs.Orders.{AreOwnPairs, AreRight}
use Rattle.timeline.specs.Timelines.{TimelineView, AllAgree}
use Rattle.timeline.proofs.Complete.{own_order}
use Rattle.timeline.proofs.timeline.timeline_of.Goals as goal

pub returns-then-all_right : goal.returns-then-all_right
returns-then-all_right g c =
    let report = c.args.report.now in
    let own = c.in-Ok.own.items in
    let spans = c.in-Ok-place.spans.items in
    let view : List Span → TimelineView = λ columns. record { spans = columns; columns = c.in-Ok-place.columns } in
    let agree = c.all_agree.ensures c.if-all_agree.true in
    let agree_jobs = subst (λ j. AllAgree j (view c.deref-2.result.now) c.logs-3.result.now) c.jobs-3.ensures agree in
    let agree_spans = subst (λ s. AllAgree report.jobs (view s) c.logs-3.result.now) c.deref-2.ensures.value agree_jobs in
    let all = subst (λ l. AllAgree report.jobs (view spans) l) c.logs-3.ensures agree_spans in
    let are_jobs = subst (λ j. AreOwnPairs j c.logs.result.now own) c.jobs.ensures c.in-Ok.ensures in
    let are = subst (λ l. AreOwnPairs report.jobs l own) c.logs.ensures are_jobs in
    let right = c.all_right.ensures c.if-all_right.true in
    let right_spans = subst (λ s. AreRight s c.deref-then-all_agree.result.now) c.deref-then-all_agree-2.ensures.value right in
    let right_own = subst (λ p. AreRight spans p) c.deref-then-all_agree.ensures.value right_spans in
    record {
      few_jobs = c.in_ok-check.ensures.few.0;
      few_instruments = c.in_ok-check.ensures.few.1;
      agree = all;
      own_order = own_order report.jobs report.logs own (view spans) all are right_own;
    }
