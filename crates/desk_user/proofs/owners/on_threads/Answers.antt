use Rattle.std.proofs.Common.{subst, rules}
use Rattle.edge_rule.specs.DeskView.{DeskView, BenchView}
use Rattle.desk_user.specs.Use.{Keeps}
use Rattle.desk_user.proofs.Owned.{kept_jobs}
use Rattle.desk_user.proofs.owners.on_threads.Goals as goal

pub returns-clause-jobs : goal.returns-clause-jobs
returns-clause-jobs g c = let b : BenchView = c.args.bench.now in kept_jobs b c.args.desks.now c.for_each_mut.new.s (search rules)
    (λ i d l. let x = (c.for_each_mut.ensures i d l).1 in let w : Keeps b x.argument.now x.after_call.now = search rules in
    subst (λ (z : DeskView × DeskView). Keeps b z.0 z.1) (λ k. (x.argument_is k, x.left k)) w)
