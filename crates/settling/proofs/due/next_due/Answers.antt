use Rattle.std.proofs.Common.{◌≤◌, length, true, sym, ap, ◌∙◌, subst, arith}
use Rattle.settling.specs.Left.{DueView, is_due}
use Rattle.settling.proofs.Members.{length_members, member_at}
use Rattle.settling.proofs.due.next_due.Goals as goal

pub next_of-requires-clause-few : goal.next_of-requires-clause-few
next_of-requires-clause-few g c =
    let x = c.due.inside in let few = c.due.invariant in let long = length_members x.jobs x.many in
    let below = subst (λ (d : DueView). c.args.end ≤ length d.jobs) (sym c.due.view_is) c.requires.jobs in omega (arith, few, long, below)

pub returns-clause-passed : goal.returns-clause-passed
returns-clause-passed g c = λ k low high.
    let x = c.due.inside in let long = length_members x.jobs x.many in
    let below = subst (λ (d : DueView). c.args.end ≤ length d.jobs) (sym c.due.view_is) c.requires.jobs in
    let end = c.next_of.ensures.high in
    sym (ap (λ (d : DueView). is_due d k) c.due.view_is) ∙ (member_at x.jobs x.many k true (omega (arith, long, below, end, high)) ∙ c.next_of.ensures.passed k low high)

pub returns-clause-found : goal.returns-clause-found
returns-clause-found g c = λ less.
    let x = c.due.inside in let long = length_members x.jobs x.many in
    let below = subst (λ (d : DueView). c.args.end ≤ length d.jobs) (sym c.due.view_is) c.requires.jobs in
    sym (ap (λ (d : DueView). is_due d c.next_of.result) c.due.view_is)
    ∙ (member_at x.jobs x.many c.next_of.result true (omega (arith, long, below, less)) ∙ c.next_of.ensures.found less)
