use Rattle.std.proofs.Common.{◌≡◌, ◌<◌, length, true, sym, ◌∙◌, subst, arith}
use Rattle.settling.specs.Left.{DueView, is_due}
use Rattle.settling.proofs.Members.{length_members, member_at}
use Rattle.settling.proofs.due.is_due.Goals as goal

pub has-requires : goal.has-requires
has-requires g c =
    let x = c.due.inside in let few = c.due.invariant in let long = length_members x.jobs x.many in let is : c.job.inside.0 ≡ c.args.job = c.job.view_is in
    let below = subst (λ (d : DueView). c.args.job < length d.jobs) (sym c.due.view_is) c.requires in omega (arith, few, long, below, is)

pub returns : goal.returns
returns g c =
    let x = c.due.inside in let long = length_members x.jobs x.many in let is : c.job.inside.0 ≡ c.args.job = c.job.view_is in
    let below = subst (λ (d : DueView). c.args.job < length d.jobs) (sym c.due.view_is) c.requires in
    c.has.ensures ∙ (sym (member_at x.jobs x.many c.job.inside.0 true (omega (arith, long, below, is))) ∙ (λ i. is_due (c.due.view_is i) (is i)))
