use Rattle.std.proofs.Common.{◌≡◌, ◌++◌, List, ℕ, ap, ◌∙◌}
use Rattle.std.specs.Prelude.{codes}
use Rattle.std.proofs.lemmas.Result.{IfOk-weaker}
use Rattle.lab_plan.specs.Texts.{instrument_name}
use Rattle.block_lines.specs.Text.{counts_text, instrument_line}
use Rattle.block_lines.proofs.Pieces.{three}
use Rattle.block_lines.proofs.text.add_instrument.Goals as goal

pub returns : goal.returns
unfolding instrument_line
returns g c =
    let plan = c.args.plan.now in let i = c.args.instrument in let old : List ℕ = c.args.out.now.items in
    let first : List ℕ = c.extend_from_slice.new.self.items in let before : List ℕ = c.extend_from_slice-2.new.self.items in
    let end : List ℕ = c.add_counts.new.out.items in
    let counts = counts_text (codes " blocked ") c.args.rounds c.args.held in
    IfOk-weaker c.add_counts.result (λ _. end ≡ before ++ counts) (λ _. end ≡ old ++ instrument_line plan i c.args.rounds c.args.held)
    (λ _ last. three old first before end (codes "instrument ") (instrument_name plan i) counts c.in_ok-extend_from_slice.ensures.items
    (c.in_ok-extend_from_slice-2.ensures.items ∙ ap (λ l. first ++ l) c.instrument_name.ensures.value) last)
    c.add_counts.ensures
