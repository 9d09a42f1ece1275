use Rattle.std.proofs.Common.{map, length, refl, sym, ◌∙◌, subst}
use Rattle.std.proofs.lemmas.Option.{slice_get_read}
use Rattle.report_reader.specs.Form.{job_text}
use Rattle.timeline.specs.Orders.{Marks}
use Rattle.timeline.proofs.OwnPairs.{used_start, used_next, used_end}
use Rattle.timeline.proofs.own.used_slots.Goals as goal

pub loop-log-init : goal.loop-log-init
loop-log-init g c =
    used_start (map job_text c.args.jobs.now) c.args.logs.now c.in_ok-used.used.items (c.in_ok-used.ensures.items_if_clones_equal (λ copy e. e))
    (sym c.in_ok-used.used.ok.0 ∙ c.in_ok-used.ensures.len)

pub mark_log-requires : goal.mark_log-requires
mark_log-requires g c = c.loop-log.invariant.long

pub loop-log-preserved : goal.loop-log-preserved
loop-log-preserved g c =
    let jobs = map job_text c.args.jobs.now in
    let logs = c.args.logs.now in
    let n = c.loop-log.log-index in
    let log = c.log-item.result in
    let old = c.loop-log.used.items in
    let new = c.mark_log.new.used.items in
    let marked = subst (λ e. Marks jobs e old new) c.entries.ensures c.mark_log.ensures in
    used_next jobs logs n log old new (slice_get_read logs (length logs) n log refl c.loop-log-test.true c.log-item.is) marked c.loop-log.invariant

pub returns : goal.returns
returns g c = used_end (map job_text c.args.jobs.now) c.args.logs.now c.loop-log.log-index c.loop-log.used.items c.loop-log-test.false c.loop-log.invariant
