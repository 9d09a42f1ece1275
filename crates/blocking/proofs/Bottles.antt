-- Counts on an edge, changed bottle by bottle.
use Rattle.std.proofs.Common.{◌≡◌, ℕ, zero, suc, ◌+◌, ◌<◌, ◌≤◌, List, [], ◌∷◌, ◌++◌, length, map, get_or, set, ◌-◌, sym, refl, ap, ◌∙◌, arith}
use Rattle.std.specs.List.{range_with_len}
use Rattle.std.proofs.lemmas.List.{set-get_or}
use Rattle.std.proofs.lemmas.List.FromFn.{map-range_with_len_more, length-map-range_with_len}
use Rattle.lab_plan.specs.LabPlan.{LabPlan, bottles}
use Rattle.block_lines.specs.declared.block.Block.{Block}
use Rattle.blocking.specs.declared.places.Place.{Place}
use Rattle.blocking.specs.Blocks.{place, places_on}
use Rattle.blocking.specs.Watching.{each_by}

pub on_edge : (plan : LabPlan) (j e : ℕ) → length (places_on plan j e) ≡ length (bottles plan e)
on_edge plan j e = length-map-range_with_len (place j e) 0 (length (bottles plan e))

module _ (change : Place → Block → Block) where
  -- one place more
  next : (places : List Place) (x : Place) (blocks : List Block) (p : ℕ) (d : Block) → p ≡ length places → p < length blocks
      → set (each_by change places blocks) p (change x (get_or (each_by change places blocks) p d)) ≡ each_by change (places ++ x ∷ []) blocks
  next [] x [] p d at inside = absurd (omega (arith, inside))
  next [] x (b ∷ blocks) zero d at inside = refl
  next [] x (b ∷ blocks) (suc p) d at inside = absurd (omega (arith, at))
  next (y ∷ places) x [] p d at inside = absurd (omega (arith, inside))
  next (y ∷ places) x (b ∷ blocks) zero d at inside = absurd (omega (arith, at))
  next (y ∷ places) x (b ∷ blocks) (suc p) d at inside =
      ap (λ l. change y b ∷ l) (next places x blocks p d (omega (arith, at)) (omega (arith, inside)))

  -- the first bottles, so many
  abbrev first : ℕ → ℕ → ℕ → List Block → List Block
  first j e k blocks = each_by change (map (place j e) (range_with_len 0 k)) blocks

  one_more : (j e k : ℕ) (old : List Block) (d : Block) → k < length old
      → set (first j e k old) k (change (place j e k) (get_or (first j e k old) k d)) ≡ first j e (k + 1) old
  one_more j e k old d inside =
      next (map (place j e) (range_with_len 0 k)) (place j e k) old k d (sym (length-map-range_with_len (place j e) 0 k)) inside
      ∙ ap (λ l. each_by change l old) (sym (map-range_with_len_more (place j e) 0 k k (omega arith)))

  -- one that is changed
  pub one_changed : (j e k : ℕ) (old now : List Block) → now ≡ first j e k old → k < length old
      → (b d : Block) → b ≡ get_or now k d → (y : Block) → y ≡ change (place j e k) b → set now k y ≡ first j e (k + 1) old
  one_changed j e k old now is inside b d b_is y made =
      ap (set now k) (made ∙ ap (change (place j e k)) b_is)
      ∙ (ap (λ l. set l k (change (place j e k) (get_or l k d))) is ∙ one_more j e k old d inside)

  -- one that stays
  one_passed : (j e k : ℕ) (old now : List Block) → now ≡ first j e k old → k < length old
      → ((b : Block) → change (place j e k) b ≡ b) → now ≡ first j e (k + 1) old
  one_passed j e k old now is inside still =
      let d : Block = record { job = 0; neighbour = 0; instrument = 0; rounds = 0; held = 0 } in
      is ∙ (sym (set-get_or (first j e k old) k d)
      ∙ (ap (set (first j e k old) k) (sym (still (get_or (first j e k old) k d))) ∙ one_more j e k old d inside))

  passed_on : (j e k more : ℕ) (old now : List Block) → now ≡ first j e k old → k + more ≤ length old
      → ((i : ℕ) → k ≤ i → i < k + more → (b : Block) → change (place j e i) b ≡ b) → now ≡ first j e (k + more) old
  passed_on j e k zero old now is few still = is ∙ ap (λ q. first j e q old) (omega arith)
  passed_on j e k (suc more) old now is few still =
      one_passed j e (k + more) old now (passed_on j e k more old now is (omega (arith, few)) (λ i low less. still i low (omega (arith, less))))
      (omega (arith, few)) (still (k + more) (omega arith) (omega arith))
      ∙ ap (λ q. first j e q old) (omega arith)

  -- further ones that stay
  pub passed_to : (j e k m : ℕ) (old now : List Block) → now ≡ first j e k old → k ≤ m → m ≤ length old
      → ((i : ℕ) → k ≤ i → i < m → (b : Block) → change (place j e i) b ≡ b) → now ≡ first j e m old
  passed_to j e k m old now is up few still =
      passed_on j e k (m - k) old now is (omega (arith, up, few)) (λ i low less. still i low (omega (arith, up, less)))
      ∙ ap (λ q. first j e q old) (omega (arith, up))
