-- Wishes that are passed by one after another.
use Rattle.std.proofs.Common.{◌≡◌, ℕ, zero, suc, List, [], ◌∷◌, ◌++◌, length, set, refl, ap}
use Rattle.bay_line.specs.declared.wish.Wish.{Wish}
use Rattle.bay_line.specs.Wishes.{wish_at, passed_by}
use Rattle.bay_line.specs.Turns.{pass_to, pass_all}

pub one_more : (most free needs k : ℕ) (wishes : List Wish)
    → set (pass_to most free needs k wishes) k (passed_by most free needs (wish_at (pass_to most free needs k wishes) k)) ≡ pass_to most free needs (suc k) wishes
one_more most free needs zero [] = refl
one_more most free needs zero (w ∷ wishes) = refl
one_more most free needs (suc k) [] = refl
one_more most free needs (suc k) (w ∷ wishes) = ap (λ (l : List Wish). passed_by most free needs w ∷ l) (one_more most free needs k wishes)

pub all_of : (most free needs : ℕ) (wishes : List Wish) → pass_to most free needs (length wishes) wishes ≡ pass_all most free needs wishes
all_of most free needs [] = refl
all_of most free needs (w ∷ wishes) = ap (λ (l : List Wish). passed_by most free needs w ∷ l) (all_of most free needs wishes)

pub as_many : (most free needs : ℕ) (wishes : List Wish) → length (pass_all most free needs wishes) ≡ length wishes
as_many most free needs [] = refl
as_many most free needs (w ∷ wishes) = ap suc (as_many most free needs wishes)

pub in_parts : (most free needs : ℕ) (xs ys : List Wish) → pass_all most free needs (xs ++ ys) ≡ pass_all most free needs xs ++ pass_all most free needs ys
in_parts most free needs [] ys = refl
in_parts most free needs (x ∷ xs) ys = ap (λ (l : List Wish). passed_by most free needs x ∷ l) (in_parts most free needs xs ys)
