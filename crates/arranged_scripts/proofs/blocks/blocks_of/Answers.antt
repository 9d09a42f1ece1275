use Rattle.std.proofs.Common.{◌≡◌, ℕ, ◌<◌, List, [], ◌∷◌, ◌++◌, length, map, take, sym, ap, ◌∙◌, subst, rules, Bor}
use Rattle.std.proofs.lemmas.List.{map_push}
use Rattle.bstr.specs.Text.{lines_of}
use Rattle.bstr.proofs.lemmas.LineLemmas.{lines-empty}
use Rattle.arranged_scripts.proofs.Cut.{AreCutOff, none_cut_off, begins_next, next_cut_off, all_cut, some_lines}
use Rattle.arranged_scripts.proofs.blocks.blocks_of.Goals as goal

pub loop-rest-init : goal.loop-rest-init
loop-rest-init g c =
    let lines = lines_of c.args.text.now in
    subst (λ (l : List (Bor (List ℕ))). AreCutOff lines (map (λ block. block.now) l) lines) (sym c.new-pieces.ensures.items) (none_cut_off lines c.requires)

pub block_len-requires : goal.block_len-requires
block_len-requires g c =
    let texts = map (λ (b : Bor (List ℕ)). b.now) c.loop-rest.pieces.items in
    let rest = c.loop-rest.rest.now in
    let some : 0 < length rest = search rules in
    begins_next (lines_of c.args.text.now) texts (lines_of rest) c.loop-rest.invariant (some_lines rest some)

pub loop-rest-preserved : goal.loop-rest-preserved
loop-rest-preserved g c =
    let now : Bor (List ℕ) → List ℕ = λ block. block.now in
    let lines = lines_of c.args.text.now in
    let texts = map now c.loop-rest.pieces.items in
    let rest = c.loop-rest.rest.now in
    let len = c.block_len.result in
    let block = c.split_at.result.0 in
    let all : map now c.push.new.self.items ≡ texts ++ block.now ∷ [] = ap (map now) c.in_ok-push.ensures.items ∙ map_push now c.loop-rest.pieces.items block in
    let same : map now c.push.new.self.items ≡ texts ++ take len rest ∷ [] = all ∙ ap (λ (l : List ℕ). texts ++ l ∷ []) c.split_at.ensures.front in
    subst (λ (l : List (List ℕ)). AreCutOff lines l (lines_of c.split_at.result.1.now)) (sym same)
    (subst (λ (l : List ℕ). AreCutOff lines (texts ++ take len rest ∷ []) (lines_of l)) (sym c.split_at.ensures.back)
    (next_cut_off lines texts rest c.loop-rest.invariant len c.block_len.ensures.block))

pub returns : goal.returns
returns g c =
    let texts = map (λ (b : Bor (List ℕ)). b.now) c.loop-rest.pieces.items in
    let rest = c.loop-rest.rest.now in
    let none : length rest ≡ 0 = search rules in
    all_cut (lines_of c.args.text.now) texts (lines_of rest) c.loop-rest.invariant (lines-empty rest none)
