use Rattle.std.proofs.Common.{refl, sym, subst, take, ◌+◌, arith}
use Rattle.std.proofs.lemmas.List.{get_or_read, length-take}
use Rattle.std.proofs.lemmas.Result.{IfOk-from_err}
use Rattle.lab_plan.specs.LabPlan.{no_job}
use Rattle.lab_plan.specs.NamedBy.{HasSmall}
use Rattle.lab_plan.specs.SessionTables.{AreJobTables, IsJobTable, no_table}
use Rattle.lab_plan.proofs.Relations.{related_more, related_all}
use Rattle.lab_plan.proofs.session_table.job_tables.Goals as goal

pub loop-job-init : goal.loop-job-init
loop-job-init g c = record {
  tables = subst (AreJobTables (take 0 c.args.jobs.now)) (sym c.in_ok-tables.ensures.items) (refl, λ k inside. absurd (omega (arith, inside)));
  room = c.in_ok-tables.ensures.capacity;
}

pub new-requires : goal.new-requires
new-requires g c =
    let k = c.loop-job.job-index in
    let read = get_or_read c.args.jobs.now k c.job-item.result c.loop-job-test.true c.job-item.is no_job in
    subst HasSmall (sym read) (c.requires k no_job c.loop-job-test.true)

pub push_reserved-requires : goal.push_reserved-requires
push_reserved-requires g c =
    let before = c.loop-job.invariant in
    omega (arith, before.tables.0, length-take c.loop-job.job-index c.args.jobs.now, c.loop-job-test.true, before.room)

pub returns-in_err-tables : goal.returns-in_err-tables
returns-in_err-tables g c = IfOk-from_err c.from_residual.result _ c.from_residual.ensures.0

pub returns-in_err-new : goal.returns-in_err-new
returns-in_err-new g c = IfOk-from_err c.from_residual-in_err-new.result _ c.from_residual-in_err-new.ensures.0

pub loop-job-preserved : goal.loop-job-preserved
loop-job-preserved g c =
    let jobs = c.args.jobs.now in
    let k = c.loop-job.job-index in
    let read = get_or_read jobs k c.job-item.result c.loop-job-test.true c.job-item.is no_job in
    let one = subst (λ job. IsJobTable job c.in_ok-new.field-0) read c.in_ok-new.ensures in
    record {
      tables = subst (AreJobTables (take (k + 1) jobs)) (sym c.push_reserved.ensures.items)
          (related_more IsJobTable no_job no_table jobs c.loop-job.tables.items k c.in_ok-new.field-0 c.loop-job-test.true one c.loop-job.invariant.tables);
      room = omega (arith, c.push_reserved.ensures.capacity, c.loop-job.invariant.room);
    }

pub returns : goal.returns
returns g c =
    related_all IsJobTable no_job no_table c.args.jobs.now c.loop-job.tables.items c.loop-job.job-index c.loop-job-test.false c.loop-job.invariant.tables
