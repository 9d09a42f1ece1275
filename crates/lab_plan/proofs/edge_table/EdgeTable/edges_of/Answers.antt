use Rattle.std.proofs.Common.{◌≡◌, ℕ, ◌<◌, List, length, arith, ap, ◌∙◌}
use Rattle.lab_plan.specs.LabPlan.{pairs_with}
use Rattle.lab_plan.proofs.PairNumbers.{list_at}
use Rattle.lab_plan.proofs.edge_table.EdgeTable.edges_of.Goals as goal

pub index-requires : goal.index-requires
index-requires g c =
    let long : length c.self.inside.lists.items ≡ 32 = ap (λ (l : List (List ℕ)). length l) c.self.invariant.lists_are in
    omega (arith, c.requires, c.job.view_is, long, c.self.inside.lists.ok.0)

pub returns : goal.returns
returns g c =
    let below : c.job.inside.0 < 32 = omega (arith, c.requires, c.job.view_is) in
    c.as_slice.ensures ∙ c.index.ensures
    ∙ list_at c.self.inside.pairs.items c.self.inside.lists.items c.job.inside.0 _ c.self.invariant.lists_are below
    ∙ ap (λ (l : List (ℕ × ℕ)). pairs_with l c.job.inside.0) c.self.view_is
    ∙ ap (λ (n : ℕ). pairs_with c.args.self.now n) c.job.view_is
