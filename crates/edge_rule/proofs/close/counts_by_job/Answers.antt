use Rattle.std.proofs.Common.{◌≡◌, length, arith, sym, ◌∙◌, subst, length-set}
use Rattle.std.proofs.lemmas.List.{take_all}
use Rattle.edge_rule.specs.DeskView.{DeskView}
use Rattle.edge_rule.specs.Ending.{AreCounted}
use Rattle.edge_rule.proofs.Endings.{counted_more, each_at}
use Rattle.edge_rule.proofs.close.counts_by_job.Goals as goal

pub index_mut-requires : goal.index_mut-requires
index_mut-requires g0 c =
    let there = c.loop-desk.invariant.there in
    let ok = c.loop-desk.counts.ok.0 in
    let known = c.job.ensures.known.is_job in
    let job = c.job.ensures.job in
    let place = c.job_number-place.ensures.0 in
    let jobs : length c.desk-item.result.plan.jobs ≡ c.args.jobs =
    each_at (λ (d : DeskView). length d.plan.jobs ≡ c.args.jobs) c.args.desks.now
    c.loop-desk.desk-index c.desk-item.result c.loop-desk-test.true c.desk-item.is c.requires.inside in
    omega arith

pub loop-desk-init : goal.loop-desk-init
loop-desk-init g0 c = record { there = sym c.in_ok-counts.counts.ok.0 ∙ c.in_ok-counts.ensures.len; counted = tt }

pub loop-desk-preserved : goal.loop-desk-preserved
loop-desk-preserved g0 c = let there = c.loop-desk.invariant.there in let known = c.job.ensures.known.is_job in let job = c.job.ensures.job in
    let jobs : length c.desk-item.result.plan.jobs ≡ c.args.jobs =
    each_at (λ (d : DeskView). length d.plan.jobs ≡ c.args.jobs) c.args.desks.now
    c.loop-desk.desk-index c.desk-item.result c.loop-desk-test.true c.desk-item.is c.requires.inside in
    record {
      there = length-set _ _ _ ∙ there;
      counted = counted_more c.loop-desk.counts.items c.job_number-place.result c.counts.result c.desk-item.result
          c.args.desks.now c.loop-desk.desk-index (c.job_number-place.ensures.0 ∙ job) c.counts.ensures
          (omega arith) c.loop-desk-test.true c.desk-item.is c.requires.once c.loop-desk.invariant.counted;
    }

pub returns : goal.returns
returns g0 c = (
  c.loop-desk.invariant.there,
  subst (AreCounted c.loop-desk.counts.items)
      (take_all c.loop-desk.desk-index c.args.desks.now (let past = c.loop-desk-test.false in omega arith)) c.loop-desk.invariant.counted,
)
