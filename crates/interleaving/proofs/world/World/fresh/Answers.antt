use Rattle.std.proofs.Common.{length, ap, ◌∙◌}
use Rattle.lab_plan.specs.LabPlan.{LabPlan}
use Rattle.interleaving.proofs.OpeningTables.{reached_opened, kept_opened, is_at_start}
use Rattle.interleaving.proofs.world.World.fresh.Goals as goal

pub invariant_of-result : goal.invariant_of-result
invariant_of-result g c =
    let jobs = c.jobs.ensures.jobs ∙ ap (λ (p : LabPlan). length p.jobs) c.plan.ensures.plan in
    record {
      kept = kept_opened c.none-2.result.events c.none.result c.none.ensures;
      reached = reached_opened c.args.tables _ _ jobs c.in_ok-tally.ensures c.plan.ensures.is_plan c.requires.opening c.requires.acyclic
          c.of-start.result.value c.none-2.result.events c.of-start.ensures c.none-2.ensures;
    }

pub returns : goal.returns
returns g c =
    let jobs = c.jobs.ensures.jobs ∙ ap (λ (p : LabPlan). length p.jobs) c.plan.ensures.plan in
    is_at_start c.args.tables c.in_ok-tally.tally c.jobs.result jobs c.in_ok-tally.ensures
    c.of-start.result.value c.none-2.result.events c.none.result c.of-start.ensures c.none-2.ensures c.none.ensures
