use Rattle.std.proofs.Common.{sym, refl, ap, length, subst, ◌∙◌, arith, length-set}
use Rattle.std.specs.List.{All}
use Rattle.std.proofs.lemmas.List.{get_or_read, take_all}
use Rattle.lab_plan.specs.LabPlan.{no_job}
use Rattle.lab_plan.specs.NamedBy.{AreNaming, HasSmall}
use Rattle.lab_plan.proofs.Names.{naming_more, naming_none}
use Rattle.lab_plan.proofs.named_sets.Naming.new.Goals as goal

pub loop-j-init : goal.loop-j-init
loop-j-init g c = record { naming = naming_none c.all_jobs-job-items.result.now 32 c.empty-sets.result c.empty-sets.ensures; length = refl }

pub named_by-requires : goal.named_by-requires
named_by-requires g c =
    let read = get_or_read c.all_jobs-job-items.result.now c.loop-j.j c.job-item.result c.loop-j-test.true c.job-item.is no_job in
    subst HasSmall (sym read) (subst (All HasSmall) (sym c.all_jobs-job-items.ensures) c.requires.small c.loop-j.j no_job c.loop-j-test.true)

pub bounds-sets-j : goal.bounds-sets-j
bounds-sets-j g c = omega (arith, c.loop-j-test.true, ap length c.all_jobs-job-items.ensures, c.requires.few)

pub offset_bounds-sets-j : goal.offset_bounds-sets-j
offset_bounds-sets-j g c = omega (arith, c.loop-j-test.true, ap length c.all_jobs-job-items.ensures, c.requires.few)

pub overflow_cast-result : goal.overflow_cast-result
overflow_cast-result g c = omega (arith, c.jobs.ensures, c.requires.few)

pub overflow_cast-result-2 : goal.overflow_cast-result-2
overflow_cast-result-2 g c = omega (arith, c.instruments.ensures, c.requires.few_instruments)

pub returns-clause-naming : goal.returns-clause-naming
returns-clause-naming g c = let all = take_all c.loop-j.j c.all_jobs-job-items.result.now c.loop-j-test.false in
    subst (λ jobs. AreNaming jobs c.loop-j.sets) (all ∙ c.all_jobs-job-items.ensures) c.loop-j.invariant.naming

pub returns-clause-jobs : goal.returns-clause-jobs
returns-clause-jobs g c = c.jobs.ensures

pub returns-clause-instruments : goal.returns-clause-instruments
returns-clause-instruments g c = c.instruments.ensures

pub loop-j-preserved : goal.loop-j-preserved
loop-j-preserved g c =
    let read = sym (get_or_read c.all_jobs-job-items.result.now c.loop-j.j c.job-item.result c.loop-j-test.true c.job-item.is no_job) in
    record {
      naming = naming_more c.loop-j.sets c.all_jobs-job-items.result.now c.loop-j.j c.named_by.result c.job-item.result
          (omega (arith, ap length c.all_jobs-job-items.ensures)) read c.named_by.ensures c.loop-j.invariant.naming;
      length = length-set c.loop-j.sets c.loop-j.j c.named_by.result ∙ c.loop-j.invariant.length;
    }
