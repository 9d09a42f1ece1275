use Rattle.std.proofs.Common.{◌≡◌, List, length, refl, sym, ap, ◌∙◌, subst}
use Rattle.std.proofs.lemmas.Bool.{false≢true}
use Rattle.lab_plan.specs.LabPlan.{LabPlan}
use Rattle.turns.specs.Lists.{Each}
use Rattle.turns.proofs.Runs.{each_map}
use Rattle.edge_rule.specs.DeskView.{DeskView, BenchView, Owns}
use Rattle.edge_rule.specs.Company.{Distinct, jobs_of}
use Rattle.edge_rule.specs.Ending.{HasAll, AreCounted}
use Rattle.edge_rule.proofs.bench.Bench.close.Goals as goal

pub counts_by_job-requires-clause-inside : goal.counts_by_job-requires-clause-inside
counts_by_job-requires-clause-inside g0 c =
    let same : c.args.self.plan ≡ c.self.inside.plan.now = sym (ap (λ (z : BenchView). z.plan) c.self.view_is) ∙ c.self.invariant.plan in
    subst (Each (λ (d : DeskView). length d.plan.jobs ≡ c.jobs.result)) (sym c.as_slice-2.ensures.value)
    (each_map (Owns c.args.self) (λ (d : DeskView). length d.plan.jobs ≡ c.jobs.result)
    (λ d o. ap (λ (z : LabPlan). length z.jobs) (o.1 ∙ same) ∙ sym c.jobs.ensures.jobs) c.args.desks.items c.requires.own)

pub counts_by_job-requires-clause-once : goal.counts_by_job-requires-clause-once
counts_by_job-requires-clause-once g0 c =
    subst (λ (z : List DeskView). Distinct (jobs_of z))
    (c.as_slice.ensures.value ∙ sym c.as_slice-2.ensures.value) (c.has_all.ensures.0 c.if-not-has_all.false).once

pub taken_apart-requires-clause-all : goal.taken_apart-requires-clause-all
taken_apart-requires-clause-all g0 c = subst (HasAll c.args.self.plan) c.as_slice.ensures.value (c.has_all.ensures.0 c.if-not-has_all.false)

pub taken_apart-requires-clause-counts : goal.taken_apart-requires-clause-counts
taken_apart-requires-clause-counts g0 c =
    let same : c.args.self.plan ≡ c.self.inside.plan.now = sym (ap (λ (z : BenchView). z.plan) c.self.view_is) ∙ c.self.invariant.plan in (
      c.in-Ok.ensures.0 ∙ (c.jobs.ensures.jobs ∙ sym (ap (λ (z : LabPlan). length z.jobs) same)),
      subst (AreCounted c.in-Ok.counts.items) c.as_slice-2.ensures.value c.in-Ok.ensures.1,
    )

pub returns : goal.returns
returns g0 c = record {
  ok = (subst (HasAll c.args.self.plan) c.as_slice.ensures.value (c.has_all.ensures.0 c.if-not-has_all.false), c.taken_apart.ensures);
  cause = tt;
  back = tt;
}

pub returns-then-not-has_all : goal.returns-then-not-has_all
returns-then-not-has_all g0 c = record {
  ok = tt;
  cause = (
    λ e all. false≢true (sym c.if-not-has_all.true ∙ c.has_all.ensures.1 (subst (HasAll c.args.self.plan) (sym c.as_slice.ensures.value) all)),
    λ none. refl,
  );
  back = (refl, refl);
}

pub returns-in_default : goal.returns-in_default
returns-in_default g0 c = record {
  ok = tt;
  cause = (λ e. absurd (cc), λ none. absurd (none (subst (HasAll c.args.self.plan) c.as_slice.ensures.value (c.has_all.ensures.0 c.if-not-has_all.false))));
  back = (refl, refl);
}
