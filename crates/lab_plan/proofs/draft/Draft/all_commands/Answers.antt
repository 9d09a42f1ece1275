use Rattle.std.proofs.Common.{◌≡◌, ◌<◌, List, length, slice_index_or, arith, ap, ◌∙◌, subst}
use Rattle.lab_plan.specs.LabPlan.{JobPlan, LabPlan}
use Rattle.lab_plan.proofs.Counted.{count_fits, count_more, count_all}
use Rattle.lab_plan.proofs.draft.Draft.all_commands.Goals as goal

pub overflow_add-count : goal.overflow_add-count
overflow_add-count g c =
    let jobs = c.args.self.now.jobs in
    let k = c.loop-job.job-index in
    let items = c.deref-job-items.ensures.value ∙ ap (λ (d : LabPlan). d.jobs) c.self.view_is in
    let within : k < length jobs = subst (λ (l : List JobPlan). k < length l) items c.loop-job-test.true in
    let is : c.job-item.result ≡ slice_index_or jobs k c.job-item.result =
    c.job-item.is ∙ ap (λ (l : List JobPlan). slice_index_or l k c.job-item.result) items in
    omega (arith, c.loop-job.invariant, count_fits jobs k c.job-item.result within is, ap (λ l. length l) c.all_commands.ensures, c.requires)

pub loop-job-preserved : goal.loop-job-preserved
loop-job-preserved g c =
    let jobs = c.args.self.now.jobs in
    let k = c.loop-job.job-index in
    let items = c.deref-job-items.ensures.value ∙ ap (λ (d : LabPlan). d.jobs) c.self.view_is in
    let within : k < length jobs = subst (λ (l : List JobPlan). k < length l) items c.loop-job-test.true in
    let is : c.job-item.result ≡ slice_index_or jobs k c.job-item.result =
    c.job-item.is ∙ ap (λ (l : List JobPlan). slice_index_or l k c.job-item.result) items in
    omega (arith, c.loop-job.invariant, count_more jobs k c.job-item.result within is, ap (λ l. length l) c.all_commands.ensures)

pub returns : goal.returns
returns g c =
    let jobs = c.args.self.now.jobs in
    let items = c.deref-job-items.ensures.value ∙ ap (λ (d : LabPlan). d.jobs) c.self.view_is in
    let long = ap (λ (l : List JobPlan). length l) items in
    let done = c.loop-job-test.false in
    c.loop-job.invariant ∙ count_all jobs c.loop-job.job-index (omega (arith, long, done))
