use Rattle.std.proofs.Common.{◌≡◌, ◌++◌, List, ℕ, ◌∙◌, append_assoc}
use Rattle.std.specs.Prelude.{codes, decimal}
use Rattle.std.proofs.lemmas.Result.{IfOk-weaker}
use Rattle.waiting.specs.Text.{holder_text, longest_line}
use Rattle.waiting.proofs.Pieces.{two}
use Rattle.waiting.proofs.text.add_longest.Goals as goal

pub returns : goal.returns
unfolding longest_line
returns g c =
    let plan = c.args.plan.now in let old : List ℕ = c.args.out.now.items in
    let before : List ℕ = c.add_number.new.out.items in let end : List ℕ = c.add_holder.new.out.items in
    IfOk-weaker c.add_holder.result (λ _. end ≡ before ++ holder_text plan c.args.longest) (λ _. end ≡ old ++ longest_line plan c.args.longest)
    (λ _ last. two old before end (codes "longest wait " ++ decimal c.args.longest.wait) (holder_text plan c.args.longest)
    (c.in_ok-add_number.ensures ∙ append_assoc old (codes "longest wait ") (decimal c.args.longest.wait)) last)
    c.add_holder.ensures
