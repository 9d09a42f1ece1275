use Rattle.std.proofs.Common.{◌≡◌, ℕ, ◌<◌, List, length, slice_index_or, arith, sym, ap, ◌∙◌, subst}
use Rattle.lab_plan.specs.LabPlan.{LabPlan, edges, ends}
use Rattle.lab_plan.proofs.Edges.{ends_are_pair}
use Rattle.lab_plan.proofs.plan.Plan.ends.Goals as goal

-- what is read of the pairs that are kept
ends_of : (plan draft : LabPlan) (kept found : List (ℕ × ℕ)) (e : ℕ) (pair : ℕ × ℕ) → found ≡ kept → kept ≡ edges draft → draft ≡ plan
    → pair ≡ slice_index_or found e (0, 0) → pair ≡ ends plan e
ends_of plan draft kept found e pair same are is read = read ∙ ap (λ l. slice_index_or l e (0, 0)) (same ∙ are ∙ ap edges is)

pub ends-requires : goal.ends-requires
ends-requires g c =
    omega (
      arith,
      c.requires,
      ap (λ (l : List (ℕ × ℕ)). length l) (c.edges.ensures ∙ c.self.invariant.tables_are.pairs_are ∙ ap edges c.self.view_is),
    )

pub returns-clause-ends : goal.returns-clause-ends
returns-clause-ends g c =
    ends_of c.args.self.now c.self.inside.draft c.self.inside.tables.pairs c.edges.result.now c.args.edge c.ends.result
    c.edges.ensures c.self.invariant.tables_are.pairs_are c.self.view_is c.ends.ensures

pub returns-clause-ordered : goal.returns-clause-ordered
returns-clause-ordered g c =
    let is = ends_of c.args.self.now c.self.inside.draft c.self.inside.tables.pairs c.edges.result.now c.args.edge c.ends.result
    c.edges.ensures c.self.invariant.tables_are.pairs_are c.self.view_is c.ends.ensures in
    subst (λ (pair : ℕ × ℕ). pair.0 < pair.1) (sym is) (ends_are_pair c.args.self.now c.args.edge c.requires).0

pub returns-clause-jobs : goal.returns-clause-jobs
returns-clause-jobs g c =
    let is = ends_of c.args.self.now c.self.inside.draft c.self.inside.tables.pairs c.edges.result.now c.args.edge c.ends.result
    c.edges.ensures c.self.invariant.tables_are.pairs_are c.self.view_is c.ends.ensures in
    subst (λ (pair : ℕ × ℕ). pair.1 < length c.args.self.now.jobs) (sym is) (ends_are_pair c.args.self.now c.args.edge c.requires).1
