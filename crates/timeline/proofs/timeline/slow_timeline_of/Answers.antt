use Rattle.std.proofs.Common.{List, Bool, sym, subst}
use Rattle.std.specs.Prelude.{MatchOption}
use Rattle.timeline.specs.Orders.{ArePairs, AreSlots, AreStuck, AreOrdered}
use Rattle.timeline.proofs.Complete.{below, is_timeline, none}
use Rattle.timeline.proofs.timeline.slow_timeline_of.Goals as goal

pub order_beside-requires : goal.order_beside-requires
order_beside-requires g c =
    let report = c.args.report.now in
    let pairs = c.in-Ok.pairs.items in
    let jobs = subst (λ j. ArePairs j c.logs.result.now pairs) c.jobs.ensures c.in-Ok.ensures in
    let are = subst (λ l. ArePairs report.jobs l pairs) c.logs.ensures jobs in
    subst AreSlots (sym c.deref.ensures.value) (below report.jobs report.logs pairs are)

pub returns-in-Ok-Some : goal.returns-in-Ok-Some
returns-in-Ok-Some g c =
    let report = c.args.report.now in
    let pairs = c.in-Ok.pairs.items in
    let jobs = subst (λ j. ArePairs j c.logs.result.now pairs) c.jobs.ensures c.in-Ok.ensures in
    let are = subst (λ l. ArePairs report.jobs l pairs) c.logs.ensures jobs in
    let found = subst (λ p. MatchOption c.in-Ok-Some.field-0 ((x : List Bool) × AreStuck p x) (λ x. AreOrdered p x.0.items x.1)) c.deref.ensures.value c.in-Ok-Some.ensures in
    let ordered = subst (λ o. MatchOption o ((x : List Bool) × AreStuck pairs x) (λ x. AreOrdered pairs x.0.items x.1)) c.in-Ok-Some.field-0-is found in
    is_timeline report pairs c.in-Ok-Some.spans.items c.in-Ok-Some.columns c.requires.0 c.requires.1 c.requires.2 are ordered

pub contradiction-requires : goal.contradiction-requires
contradiction-requires g c =
    let report = c.args.report.now in
    let pairs = c.in-Ok.pairs.items in
    let jobs = subst (λ j. ArePairs j c.logs.result.now pairs) c.jobs.ensures c.in-Ok.ensures in
    let are = subst (λ l. ArePairs report.jobs l pairs) c.logs.ensures jobs in
    let found = subst (λ p. MatchOption c.in-Ok-None.field-0 ((x : List Bool) × AreStuck p x) (λ x. AreOrdered p x.0.items x.1)) c.deref.ensures.value c.in-Ok-None.ensures in
    let stuck = subst (λ o. MatchOption o ((x : List Bool) × AreStuck pairs x) (λ x. AreOrdered pairs x.0.items x.1)) c.in-Ok-None.field-0-is found in
    none report pairs stuck.0 are stuck.1
