use Rattle.std.proofs.Common.{◌≡◌, ℕ, ◌<◌}
use Rattle.edge_rule.specs.DeskView.{DeskView}
use Rattle.edge_rule.specs.Ending.{Any}
use Rattle.edge_rule.proofs.roster.has_each.Given as goal

abbrev pub invariant-loop-job : goal.invariant-loop-job
invariant-loop-job g0 l = (j : ℕ) → j < l.job → Any (λ (d : DeskView). d.job ≡ j) l.desks
