use Rattle.std.proofs.Common.{◌≡◌, ℕ, List, [], ◌++◌, length, map, take, sym, ap, ◌∙◌, subst, arith, Bor}
use Rattle.std.specs.Prelude.{slice_index_or}
use Rattle.std.specs.List.{flat_map}
use Rattle.std.proofs.lemmas.List.{length-map}
use Rattle.bstr.specs.Text.{lines_of}
use Rattle.arranged_scripts.specs.Cutting.{EndBefore, AreCutInto}
use Rattle.arranged_scripts.proofs.Cut.{below_begins, has_others, moves}
use Rattle.arranged_scripts.proofs.blocks.moved.Goals as goal

pub blocks_of-requires : goal.blocks_of-requires
blocks_of-requires g c =
    subst (λ (l : List ℕ). EndBefore [] (lines_of l)) (sym c.split_at.ensures.back) (below_begins c.args.text.now c.up_to_job.result c.up_to_job.ensures.up)

pub returns-then-len-order : goal.returns-then-len-order
returns-then-len-order g c =
    let text = c.args.text.now in
    let blocks = c.in_ok-blocks.blocks in
    let texts = map (λ (b : Bor (List ℕ)). b.now) blocks.items in
    let below = subst (λ (l : List ℕ). AreCutInto (lines_of l) texts) c.split_at.ensures.back c.in_ok-blocks.ensures in
    has_others text c.up_to_job.result c.up_to_job.ensures.up texts below (length c.args.order.now)
    (λ same. c.if-len-order.true (omega (arith, c.len.ensures, blocks.ok.0, length-map blocks.items (λ (b : Bor (List ℕ)). b.now), same)))

pub returns : goal.returns
returns g c =
    let text = c.args.text.now in
    let len = c.up_to_job.result in
    let order = c.args.order.now in
    let blocks = c.in_ok-blocks.blocks in
    let now = λ (b : Bor (List ℕ)). b.now in
    let texts = map now blocks.items in
    let below = subst (λ (l : List ℕ). AreCutInto (lines_of l) texts) c.split_at.ensures.back c.in_ok-blocks.ensures in
    let each : length texts ≡ length order = omega (arith, c.len.ensures, blocks.ok.0, length-map blocks.items now, c.if-len-order.false) in
    moves text len c.up_to_job.ensures.up texts below order c.in_ok-made.made.items each
    (c.in_ok-made.ensures
    ∙ ap (λ (l : List ℕ). l ++ flat_map (λ job. slice_index_or (map now c.deref.result.now) job []) order) c.split_at.ensures.front
    ∙ ap (λ (l : List (Bor (List ℕ))). take len text ++ flat_map (λ job. slice_index_or (map now l) job []) order) c.deref.ensures.value)
