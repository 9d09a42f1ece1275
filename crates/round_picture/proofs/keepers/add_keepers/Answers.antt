use Rattle.std.proofs.Common.{◌≡◌, ◌≤◌, ℕ, List, [], ◌∷◌, ◌++◌, length, get_or, take, drop, ◌-◌, codes, Result, Ok, Err, OnOk, ap, ◌∙◌, arith}
use Rattle.std.specs.List.{flat_map}
use Rattle.std.proofs.lemmas.List.{take_all}
use Rattle.lab_plan.specs.LabPlan.{LabPlan}
use Rattle.block_lines.specs.declared.block.Block.{Block}
use Rattle.round_picture.specs.Keepers.{keeper_text, further_text, keepers_text}
use Rattle.round_picture.proofs.Pieces.{two}
use Rattle.round_picture.proofs.keepers.add_keepers.Goals as goal

through : {T E : Type 0} (r : Result T E) (P Q : Type 0) → (P → Q) → OnOk r P → OnOk r Q
through (Ok x) P Q f p = f p
through (Err e) P Q f p = p

told : (plan : LabPlan) (blocks : List Block) (first : Block) (out a b new : List ℕ) → 1 ≤ length blocks → first ≡ get_or blocks 0 first
    → a ≡ out ++ codes "; kept waiting" → b ≡ a ++ keeper_text plan first → new ≡ b ++ flat_map (further_text plan) (take (length blocks - 1) (drop 1 blocks))
    → new ≡ out ++ keepers_text plan blocks
told plan [] first out a b new some is p q r = absurd (omega (arith, some))
told plan (x ∷ later) first out a b new some is p q r =
    two out b new (codes "; kept waiting" ++ keeper_text plan x) (flat_map (further_text plan) later)
    (two out a b (codes "; kept waiting") (keeper_text plan x) p (q ∙ ap (λ (y : Block). a ++ keeper_text plan y) is))
    (r ∙ ap (λ (l : List Block). b ++ flat_map (further_text plan) l) (take_all (length (x ∷ later) - 1) later (omega arith)))

pub returns-in_ok-add_keeper-in-len1-up : goal.returns-in_ok-add_keeper-in-len1-up
returns-in_ok-add_keeper-in-len1-up g c =
    let plan = c.args.plan.now in let l : List Block = c.args.blocks.now in
    let out : List ℕ = c.args.out.now.items in let b : List ℕ = c.add_keeper.new.out.items in let new : List ℕ = c.add_further.new.out.items in
    through c.add_further.result (new ≡ b ++ flat_map (further_text plan) (take (length l - 1) (drop 1 l))) (new ≡ out ++ keepers_text plan l)
    (λ r. told plan l c.first-item.result out c.extend_from_slice.new.self.items b new c.in-len1-up.len_at_least c.first-item.is
    c.in_ok-extend_from_slice-in-len1-up.ensures.items c.in_ok-add_keeper-in-len1-up.ensures r) c.add_further.ensures
