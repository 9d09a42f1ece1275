use Rattle.std.proofs.Common.{ℕ, List, arith, sym, ap, ◌∙◌, append_assoc, [], ◌∷◌, ◌++◌, filter}
use Rattle.lab_plan.specs.NamedBy.{meet, row}
use Rattle.lab_plan.proofs.Pairs.{kept_row_yes, kept_row_no}
use Rattle.lab_plan.proofs.edge_table.push_row.Goals as goal
use Rattle.lab_plan.proofs.edge_table.push_row.Goals.{then-meet+in_ok-push, else-meet}

pub loop-high-preserved : goal.loop-high-preserved
loop-high-preserved g c =
    let p = meet c.args.naming.now.sets c.args.naming.now.instruments in
    let old = c.args.found.now.items in
    let low = c.args.low in
    let high = c.loop-high.high in
    elim c.if-meet.branch [
      | then-meet+in_ok-push w ↦
          let more = kept_row_yes p low high (omega arith) (sym w.if-meet.true ∙ c.meet.ensures) in
          rw w.found-is (w.in_ok-push.ensures.items
          ∙ ap (λ (l : List (ℕ × ℕ)). l ++ (low, high) ∷ []) c.loop-high.invariant
          ∙ append_assoc old (filter p (row low high)) ((low, high) ∷ [])
          ∙ ap (λ (l : List (ℕ × ℕ)). old ++ l) (sym more))
      | else-meet w ↦
          let same = kept_row_no p low high (omega arith) (sym w.if-meet.false ∙ c.meet.ensures) in
          rw w.found-is (c.loop-high.invariant ∙ ap (λ (l : List (ℕ × ℕ)). old ++ l) (sym same))
    ]
