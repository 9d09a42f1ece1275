use Rattle.std.proofs.Common.{arith, refl, subst}
use Rattle.std.proofs.lemmas.Option.{slice_get_within}
use Rattle.timeline.specs.Faults.{IsNamedBefore}
use Rattle.timeline.proofs.faulty.check.Goals as goal

pub overflow_add-job : goal.overflow_add-job
overflow_add-job g c =
    let found = subst (λ j. IsNamedBefore j c.in-Some.number) c.jobs.ensures c.in-Some.ensures in
    omega (arith, slice_get_within _ c.in-Some.number found.job found.stands)

pub returns-in-Some-clause-fault : goal.returns-in-Some-clause-fault
returns-in-Some-clause-fault g c = (c.in-Some.number, refl, subst (λ j. IsNamedBefore j c.in-Some.number) c.jobs.ensures c.in-Some.ensures)

pub returns-then-not-is_small-clause-fault : goal.returns-then-not-is_small-clause-fault
returns-then-not-is_small-clause-fault g c = c.is_small.ensures.no c.if-not-is_small.true
