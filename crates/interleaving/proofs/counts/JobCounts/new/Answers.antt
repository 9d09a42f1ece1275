use Rattle.std.proofs.Common.{◌≡◌, List, [], ◌∷◌, ◌++◌, replicate, arith, ap, ◌∙◌, subst}
use Rattle.std.proofs.lemmas.List.{replicate_more}
use Rattle.legal_steps.specs.declared.counts.Counts.{Counts}
use Rattle.legal_steps.specs.Counting.{no_counts}
use Rattle.interleaving.proofs.counts.JobCounts.new.Goals as goal

pub loop-job-preserved : goal.loop-job-preserved
loop-job-preserved g c =
    c.in_ok-push.ensures.items ∙ (ap (λ (xs : List Counts). xs ++ no_counts ∷ []) c.loop-job.invariant ∙ replicate_more c.loop-job._job no_counts)

pub returns : goal.returns
returns g c = subst (λ n. c.loop-job.counts.items ≡ replicate n no_counts) (omega arith) c.loop-job.invariant
