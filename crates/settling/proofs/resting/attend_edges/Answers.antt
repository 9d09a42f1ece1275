use Rattle.std.proofs.Common.{◌≡◌, ◌+◌, ℕ, IfSome, Option, subst}
use Rattle.legal_steps.specs.State.{IsOwn}
use Rattle.settling.specs.Left.{only_at}
use Rattle.settling.proofs.Rested.{edges_one}
use Rattle.settling.proofs.resting.attend_edges.Goals as goal

pub returns-in-Some-clause-attends : goal.returns-in-Some-clause-attends
returns-in-Some-clause-attends g c =
    let j = c.args.job in
    edges_one c.args.world.now c.attend_edge.new.world c.args.due.now c.attend_edge.new.due j c.in-Some.edge c.attend_edge.result
    (subst (λ (o : Option ℕ). IfSome o (λ e. IsOwn c.args.world.now.plan j e)) c.in-Some.is c.only_edge.ensures.own)
    (subst (λ (o : Option ℕ). IfSome o (λ e. only_at c.args.due.now j ≡ e + 1)) c.in-Some.is c.only_edge.ensures.only) c.attend_edge.ensures.attends
