use Rattle.std.proofs.Common.{◌≡◌, ◌<◌, length, sym, ◌∙◌, subst, arith}
use Rattle.settling.specs.Left.{DueView}
use Rattle.settling.specs.Attending.{not_due}
use Rattle.settling.proofs.Members.{length_members, members_without}
use Rattle.settling.proofs.due.clear.Goals as goal

pub overflow_shl-due : goal.overflow_shl-due
overflow_shl-due g c =
    let x = c.due.inside in let few = c.due.invariant in let long = length_members x.jobs x.many in let is : c.job.inside.0 ≡ c.args.job = c.job.view_is in
    let below = subst (λ (d : DueView). c.args.job < length d.jobs) (sym c.due.view_is) c.requires in omega (arith, few, long, below, is)

pub returns : goal.returns
returns g c =
    let x = c.due.inside in let few = c.due.invariant in let long = length_members x.jobs x.many in let is : c.job.inside.0 ≡ c.args.job = c.job.view_is in
    let below = subst (λ (d : DueView). c.args.job < length d.jobs) (sym c.due.view_is) c.requires in
    (λ i. record { jobs = members_without x.jobs x.many c.job.inside.0 (omega (arith, long, below, is)) few i; only = x.only.items; lower = x.lower.items; higher = x.higher.items })
    ∙ (λ i. not_due (c.due.view_is i) (is i))
