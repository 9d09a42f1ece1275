-- Orders that are moved.
use Rattle.std.proofs.Common.{◌≡◌, ℕ, ◌<◌, List, ◌∷◌, length, slice_index_or, subst, sym}
use Rattle.std.specs.List.{insert, remove}
use Rattle.std.specs.List.Sorted.{IsPermutation}
use Rattle.std.proofs.lemmas.List.Sorted.{IsPermutation-trans, IsPermutation-remove, IsPermutation-insert}

-- one element is taken out and put in at another place
pub put_back : (xs between ys : List ℕ) (i k x : ℕ) → i < length xs → x ≡ slice_index_or xs i x → between ≡ remove xs i → ys ≡ insert between k x
    → IsPermutation xs ys
put_back xs between ys i k x here is taken put =
    let out : IsPermutation xs (x ∷ between) = subst (λ l. IsPermutation xs (x ∷ l)) (sym taken) (IsPermutation-remove xs i x here is) in
    let back : IsPermutation (x ∷ between) ys = subst (λ l. IsPermutation (x ∷ between) l) (sym put) (IsPermutation-insert between k x) in
    IsPermutation-trans xs (x ∷ between) ys out back
