use Rattle.std.proofs.Common.{◌≤◌, ◌<◌, refl, ap, ◌∙◌, subst}
use Rattle.std.proofs.lemmas.Bool.{false≢true}
use Rattle.edge_rule.specs.Company.{jobs_of}
use Rattle.edge_rule.proofs.Rosters.{times, seldom_more, apart_at_last, not_apart}
use Rattle.edge_rule.proofs.roster.are_apart.Goals as goal

pub loop-desk-preserved : goal.loop-desk-preserved
loop-desk-preserved g0 c = let desks = c.args.desks.now in let once = c.if-desks_of-gt1.false in
    seldom_more desks c.loop-desk.desk-index c.desk-item.result c.loop-desk-test.true c.desk-item.is c.loop-desk.invariant
    (subst (λ z. z ≤ 1) (c.desks_of.ensures ∙ ap (λ j. times j (jobs_of desks)) c.job.ensures.job) once)

pub returns-then-desks_of-gt1 : goal.returns-then-desks_of-gt1
returns-then-desks_of-gt1 g0 c =
    let often = c.if-desks_of-gt1.true in
    (λ t. absurd (false≢true t), λ d. absurd (not_apart c.args.desks.now c.job.result (subst (λ z. 1 < z) c.desks_of.ensures often) d))

pub returns : goal.returns
returns g0 c = (λ t. apart_at_last c.args.desks.now c.loop-desk.desk-index c.loop-desk-test.false c.loop-desk.invariant, λ d. refl)
