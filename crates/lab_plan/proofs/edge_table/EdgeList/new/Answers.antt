use Rattle.std.proofs.Common.{◌≡◌, ℕ, List, [], ◌∷◌, ◌++◌, length, filter, arith, sym, ap, ◌∙◌}
use Rattle.std.specs.List.{range_with_len}
use Rattle.std.proofs.lemmas.Result.{IfOk-from_err}
use Rattle.lab_plan.specs.LabPlan.{has_end}
use Rattle.lab_plan.proofs.Ranges.{kept_yes, kept_no}
use Rattle.lab_plan.proofs.edge_table.EdgeList.new.Goals as goal
use Rattle.lab_plan.proofs.edge_table.EdgeList.new.Goals.{then-has_end+in_ok-push, else-has_end}

pub loop-e-init : goal.loop-e-init
loop-e-init g c = c.new-edges.ensures.items

pub overflow_cast-e : goal.overflow_cast-e
overflow_cast-e g c = omega (arith, c.requires, c.loop-e-test.true)

pub returns-in_err-push : goal.returns-in_err-push
returns-in_err-push g c = IfOk-from_err c.from_residual.result _ c.from_residual.ensures.0

pub has_end-requires : goal.has_end-requires
has_end-requires g c = c.loop-e-test.true

pub returns : goal.returns
returns g c =
    let end : c.loop-e.e ≡ length c.args.pairs.now = omega (arith, c.loop-e-test.false, c.loop-e.auto.e-end) in
    c.loop-e.invariant ∙ ap (λ (n : ℕ). filter (has_end c.args.pairs.now c.args.job) (range_with_len 0 n)) end

pub loop-e-preserved : goal.loop-e-preserved
loop-e-preserved g c =
    let p = has_end c.args.pairs.now c.args.job in
    let e = c.loop-e.e in
    elim c.if-has_end.branch [
      | then-has_end+in_ok-push w ↦
          let more = kept_yes p e (sym w.if-has_end.true ∙ c.has_end.ensures) in
          rw w.edges-is (w.in_ok-push.ensures.items ∙ ap (λ (l : List ℕ). l ++ e ∷ []) c.loop-e.invariant ∙ sym more)
      | else-has_end w ↦
          rw w.edges-is (c.loop-e.invariant ∙ sym (kept_no p e (sym w.if-has_end.false ∙ c.has_end.ensures)))
    ]
