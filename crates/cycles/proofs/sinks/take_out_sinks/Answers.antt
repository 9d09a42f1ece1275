use Rattle.std.proofs.Common.{◌∙◌, subst, false}
use Rattle.std.proofs.Math.ListN.{length-set}
use Rattle.cycles.specs.Peeling.{IsLeft, IsSink}
use Rattle.cycles.proofs.Fewer.{fewer_left}
use Rattle.cycles.proofs.Peeled.{taken_out}
use Rattle.cycles.proofs.sinks.take_out_sinks.Goals as goal

pub loop-job-smaller : goal.loop-job-smaller
loop-job-smaller g c = fewer_left c.loop-job.left.items c.in-Some.job
    (subst (λ left. IsLeft left c.in-Some.job) c.deref.ensures.value c.in-Some.ensures.found.is_left)

pub loop-job-preserved : goal.loop-job-preserved
loop-job-preserved g c = record {
  len = length-set c.loop-job.left.items c.in-Some.job false ∙ c.loop-job.invariant.len;
  out = taken_out c.args.pairs.now c.loop-job.left.items c.in-Some.job c.loop-job.invariant.out
      (subst (λ left. IsSink c.args.pairs.now left c.in-Some.job) c.deref.ensures.value c.in-Some.ensures.found.sink);
}
