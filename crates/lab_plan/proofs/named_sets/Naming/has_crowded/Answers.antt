use Rattle.std.proofs.Common.{arith, sym, ◌∙◌}
use Rattle.lab_plan.specs.NamedBy.{are_crowded}
use Rattle.lab_plan.proofs.Pairs.{any_rows_found}
use Rattle.lab_plan.proofs.named_sets.Naming.has_crowded.Goals as goal

pub returns-then-has_crowded_with : goal.returns-then-has_crowded_with
returns-then-has_crowded_with c =
    any_rows_found (are_crowded c.args.self.now.sets c.args.self.now.instruments) c.args.self.now.jobs c.loop-low.low
    (omega arith) (sym c.if-has_crowded_with.true ∙ c.has_crowded_with.ensures)
