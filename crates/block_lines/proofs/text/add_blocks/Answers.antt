use Rattle.std.proofs.Common.{◌≡◌, ◌++◌, List, ℕ, length, map, ap, ◌∙◌}
use Rattle.std.specs.List.{flat_map, range_with_len}
use Rattle.std.proofs.lemmas.Result.{IfOk-weaker}
use Rattle.std.proofs.lemmas.List.FromFn.{length-map-range_with_len}
use Rattle.lab_plan.specs.LabPlan.{instrument_numbers}
use Rattle.block_lines.specs.Ranking.{count_at, ranked}
use Rattle.block_lines.specs.Sums.{rounds_of, rounds_on, held_on}
use Rattle.block_lines.specs.Text.{rounds_line, block_line, block_at, instrument_line, all_blocks_text, instruments_text, blocks_text}
use Rattle.block_lines.proofs.Pieces.{three}
use Rattle.block_lines.proofs.text.add_blocks.Goals as goal

pub add_all_instruments-requires-clause-counts : goal.add_all_instruments-requires-clause-counts
add_all_instruments-requires-clause-counts g c =
    ap length (c.deref-4.ensures.value ∙ c.in_ok-instruments.ensures)
    ∙ (length-map-range_with_len (rounds_on c.args.blocks.now) 0 c.instruments.result ∙ c.instruments.ensures.instruments)

pub returns : goal.returns
unfolding blocks_text
returns g c =
    let plan = c.args.plan.now in let blocks = c.args.blocks.now in let old : List ℕ = c.args.out.now.items in
    let first : List ℕ = c.add_rounds.new.out.items in let second : List ℕ = c.add_all_blocks.new.out.items in
    let end : List ℕ = c.add_all_instruments.new.out.items in
    let counts : List ℕ = map (rounds_on blocks) (instrument_numbers plan) in
    let told : List ℕ → List ℕ → List ℕ = λ counts order. flat_map (λ i. instrument_line plan i (count_at counts i) (held_on blocks i)) order in
    let order : c.deref-3.result.now ≡ ranked (map rounds_of blocks) =
    c.deref-3.ensures.value ∙ (c.in_ok-order.ensures.0 ∙ ap ranked (c.deref.ensures.value ∙ c.in_ok-counts.ensures)) in
    let sums : c.in_ok-instruments.instruments.items ≡ counts =
    c.in_ok-instruments.ensures ∙ ap (λ n. map (rounds_on blocks) (range_with_len 0 n)) c.instruments.ensures.instruments in
    let sums_order : c.deref-5.result.now ≡ ranked counts =
    c.deref-5.ensures.value ∙ (c.in_ok-instrument_order.ensures.0 ∙ ap ranked (c.deref-2.ensures.value ∙ sums)) in
    let seen : List ℕ = told c.deref-4.result.now c.deref-5.result.now in
    IfOk-weaker c.add_all_instruments.result (λ _. end ≡ second ++ seen) (λ _. end ≡ old ++ blocks_text plan c.args.number c.args.retired blocks)
    (λ _ last. three old first second end (rounds_line c.args.number c.args.retired) (all_blocks_text plan blocks) (instruments_text plan blocks counts)
    c.in_ok-add_rounds.ensures
    (c.in_ok-add_all_blocks.ensures ∙ ap (λ l. first ++ flat_map (λ place. block_line plan (block_at blocks place)) l) order)
    (last ∙ (λ i. second ++ told ((c.deref-4.ensures.value ∙ sums) i) (sums_order i))))
    c.add_all_instruments.ensures
