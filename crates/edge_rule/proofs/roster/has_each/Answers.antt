use Rattle.std.proofs.Common.{◌≡◌, arith, inl, inr, refl, sym, ◌∙◌, subst}
use Rattle.std.proofs.lemmas.Bool.{cases_eq, false≢true}
use Rattle.edge_rule.specs.DeskView.{DeskView}
use Rattle.edge_rule.specs.Ending.{Any}
use Rattle.edge_rule.proofs.Rosters.{none_there, some_there}
use Rattle.edge_rule.proofs.roster.has_each.Goals as goal

pub loop-job-preserved : goal.loop-job-preserved
loop-job-preserved g0 c = λ j below. elim (cases_eq j c.loop-job.job) [
  | inl is ↦ subst (λ z. Any (λ (d : DeskView). d.job ≡ z) c.args.desks.now) (sym is)
      (some_there c.loop-job.job c.args.desks.now (λ e. c.if-desks_of-eq0.false (c.desks_of.ensures ∙ e)))
  | inr other ↦ c.loop-job.invariant j (omega arith)
]

pub returns-then-desks_of-eq0 : goal.returns-then-desks_of-eq0
returns-then-desks_of-eq0 g0 c = (
  λ t. absurd (false≢true t),
  λ all. absurd (none_there c.loop-job.job c.args.desks.now (sym c.desks_of.ensures ∙ c.if-desks_of-eq0.true) (all c.loop-job.job c.loop-job-test.true)),
)

pub returns : goal.returns
returns g0 c = let past = c.loop-job-test.false in (λ t j below. c.loop-job.invariant j (omega arith), λ all. refl)
