use Rattle.std.proofs.Common.{rules, false, replicate, refl, sym, ap, ◌∙◌}
use Rattle.legal_steps.specs.State.{idle_phase}
use Rattle.edge_rule.proofs.OpenedDesks.{opening_seat, opening_is}
use Rattle.edge_rule.proofs.open.fresh_knowledge.Goals as goal

pub returns : goal.returns
returns g0 c = record {
  own = opening_seat c.args.plan.now c.args.job c.requires ∙ sym (λ i. record {
    phase = idle_phase;
    fork_marks = (c.in_ok-fork_marks.ensures.items_if_clones_equal (search rules) ∙ ap (λ n. replicate n false) c.edges-count.ensures.edges) i;
    bottle_marks = (c.in_ok-bottle_marks.ensures.items_if_clones_equal (search rules) ∙ ap (λ n. replicate n 0) c.edges-count.ensures.edges) i;
  });
  seen = opening_is c.args.plan.now ∙ sym c.in_ok-seen.ensures;
  counts = refl;
  rests = λ e. (cc);
}
