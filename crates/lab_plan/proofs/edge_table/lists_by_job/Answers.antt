use Rattle.std.proofs.Common.{ℕ, List, [], ◌∷◌, ◌++◌, map, zero-add, sym, ap, ◌∙◌}
use Rattle.std.specs.List.{range_with_len}
use Rattle.std.proofs.lemmas.List.FromFn.{map-range_with_len_more}
use Rattle.lab_plan.specs.LabPlan.{pairs_with}
use Rattle.lab_plan.proofs.edge_table.lists_by_job.Goals as goal

pub loop-job-preserved : goal.loop-job-preserved
loop-job-preserved g c =
    let lists : ℕ → List ℕ = pairs_with c.args.pairs.now in
    let job = c.loop-job.job in
    c.in_ok-push.ensures.items
    ∙ ap (λ (l : List (List ℕ)). l ++ c.in_ok-new.field-0 ∷ []) c.loop-job.invariant
    ∙ ap (λ (list : List ℕ). map lists (range_with_len 0 job) ++ list ∷ []) c.in_ok-new.ensures
    ∙ sym (map-range_with_len_more lists 0 job job (zero-add job))
