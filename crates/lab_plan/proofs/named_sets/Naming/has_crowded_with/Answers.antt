use Rattle.std.proofs.Common.{arith, sym, ◌∙◌}
use Rattle.lab_plan.specs.NamedBy.{are_crowded}
use Rattle.lab_plan.proofs.Pairs.{any_row_found}
use Rattle.lab_plan.proofs.named_sets.Naming.has_crowded_with.Goals as goal

pub returns-then-are_crowded : goal.returns-then-are_crowded
returns-then-are_crowded c =
    any_row_found (are_crowded c.args.self.now.sets c.args.self.now.instruments) c.args.low c.loop-high.high c.args.self.now.jobs
    (omega arith) (omega arith) (sym c.if-are_crowded.true ∙ c.are_crowded.ensures)
