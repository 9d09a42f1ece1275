use Rattle.std.proofs.Common.{map, length, refl, subst}
use Rattle.std.proofs.lemmas.Option.{slice_get_read}
use Rattle.report_reader.specs.Form.{job_text}
use Rattle.timeline.specs.Orders.{Adds}
use Rattle.timeline.proofs.Pairs.{pairs_start, pairs_next, pairs_end}
use Rattle.timeline.proofs.behind.pairs_of.Goals as goal

pub loop-log-init : goal.loop-log-init
loop-log-init g c = pairs_start (map job_text c.args.jobs.now) c.args.logs.now c.in_ok-pairs.pairs.items

pub loop-log-preserved : goal.loop-log-preserved
loop-log-preserved g c =
    let jobs = map job_text c.args.jobs.now in
    let logs = c.args.logs.now in
    let n = c.loop-log.log-index in
    let log = c.log-item.result in
    let old = c.loop-log.pairs.items in
    let new = c.add_log.new.pairs.items in
    let added = subst (λ e. Adds jobs e old new) c.entries.ensures c.in_ok-add_log.ensures in
    pairs_next jobs logs c.in_ok-pairs.pairs.items n log old new (slice_get_read logs (length logs) n log refl c.loop-log-test.true c.log-item.is) added
    c.loop-log.invariant

pub returns : goal.returns
returns g c =
    pairs_end (map job_text c.args.jobs.now) c.args.logs.now c.in_ok-pairs.pairs.items c.loop-log.log-index c.loop-log.pairs.items c.loop-log-test.false
    c.in_ok-pairs.ensures c.loop-log.invariant
