use Rattle.std.proofs.Common.{rules, ◌∙◌}
use Rattle.settling.specs.Members.{members}
use Rattle.settling.proofs.Marks.{fresh}
use Rattle.settling.proofs.Members.{length_members, all_members}
use Rattle.settling.proofs.due.Due.all.Goals as goal

pub returns-clause-fits : goal.returns-clause-fits
returns-clause-fits g c = record {
  jobs_there = length_members 4294967295 c.jobs.result ∙ (search rules);
  only_there = search rules;
  lower_there = search rules;
  higher_there = search rules;
}

pub returns-clause-marked : goal.returns-clause-marked
returns-clause-marked g c s =
    fresh c.args.plan.now s c.jobs.result c.jobs-2.result c.edges-edges.result
    (record { jobs = members 4294967295 c.jobs.result; only = c.in_ok-from_elem.field-0.items; lower = c.in_ok-from_elem-2.field-0.items; higher = c.in_ok-from_elem-3.field-0.items })
    (record {
      jobs_there = length_members 4294967295 c.jobs.result ∙ (search rules);
      only_there = search rules;
      lower_there = search rules;
      higher_there = search rules;
    })
    (all_members c.jobs.result (search rules))
    (c.in_ok-from_elem.ensures.items_if_clones_equal (search rules))
    (c.in_ok-from_elem-2.ensures.items_if_clones_equal (search rules))
    (c.in_ok-from_elem-3.ensures.items_if_clones_equal (search rules))
