-- Counts that are changed place by place.
use Rattle.std.proofs.Common.{◌≡◌, suc, List, [], ◌∷◌, ◌++◌, length, refl, ap, arith}
use Rattle.std.specs.List.{All}
use Rattle.std.proofs.lemmas.List.Elements.{All-head, All-tail}
use Rattle.block_lines.specs.declared.block.Block.{Block}
use Rattle.blocking.specs.declared.places.Place.{Place}
use Rattle.blocking.specs.Watching.{each_by}

module _ (f g : Place → Block → Block) where
  -- two changes that are one at each place
  pub same_by : (places : List Place) → All (λ (x : Place). (b : Block) → f x b ≡ g x b) places → (blocks : List Block)
      → each_by f places blocks ≡ each_by g places blocks
  same_by [] all blocks = refl
  same_by (x ∷ places) all [] = refl
  same_by (x ∷ places) all (b ∷ blocks) =
      let P : Place → Type 0 = λ x. (b : Block) → f x b ≡ g x b in
      λ i. All-head P x places all b i ∷ same_by places (All-tail P x places all) blocks i

  -- one change after the other
  pub both : (places : List Place) (blocks : List Block) → each_by (λ x b. f x (g x b)) places blocks ≡ each_by f places (each_by g places blocks)
  both [] blocks = refl
  both (x ∷ places) [] = refl
  both (x ∷ places) (b ∷ blocks) = ap (λ l. f x (g x b) ∷ l) (both places blocks)

module _ (f : Place → Block → Block) where
  pub long : (places : List Place) (blocks : List Block) → length (each_by f places blocks) ≡ length blocks
  long [] blocks = refl
  long (x ∷ places) [] = refl
  long (x ∷ places) (b ∷ blocks) = ap suc (long places blocks)

  -- one list of places after the other
  pub joined : (xs ys : List Place) (first blocks : List Block) → length first ≡ length xs
      → each_by f (xs ++ ys) (first ++ blocks) ≡ each_by f xs first ++ each_by f ys blocks
  joined [] ys [] blocks same = refl
  joined [] ys (b ∷ first) blocks same = absurd (omega (arith, same))
  joined (x ∷ xs) ys [] blocks same = absurd (omega (arith, same))
  joined (x ∷ xs) ys (b ∷ first) blocks same = ap (λ l. f x b ∷ l) (joined xs ys first blocks (omega (arith, same)))
