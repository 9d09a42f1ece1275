-- A text cut at a byte: words that lack the byte are its parts.
use Rattle.std.proofs.Common.{◌≡◌, ℕ, Bool, true, false, ◌&&◌, List, [], ◌∷◌, ◌++◌, refl, ap, ◌∙◌}
use Rattle.std.specs.List.{list_all, slice_split, onto_first}
use Rattle.std.proofs.lemmas.Bool.{and_parts}
use Rattle.std.proofs.lemmas.List.Folds.{list_all-append}
use Rattle.std.proofs.lemmas.List.Splits.{slice_split-cons_yes, slice_split-cons_no}

-- each byte of a word passes a test that the byte of the cut doesn't pass
abbrev pub IsApart : (ℕ → Bool) → (ℕ → Bool) → Type 0
IsApart p q = (b : ℕ) → q b ≡ true → p b ≡ false

pub cut_none : (p q : ℕ → Bool) → IsApart p q → (xs : List ℕ) → list_all q xs ≡ true → slice_split p xs ≡ xs ∷ []
cut_none p q apart [] all = refl
cut_none p q apart (x ∷ xs) all =
    let parts = and_parts (q x) (list_all q xs) all in
    slice_split-cons_no p x xs (apart x parts.0) ∙ ap (onto_first x) (cut_none p q apart xs parts.1)

pub cut_one : (p q : ℕ → Bool) → IsApart p q → (xs : List ℕ) (y : ℕ) (ys : List ℕ) → list_all q xs ≡ true → p y ≡ true
    → slice_split p (xs ++ y ∷ ys) ≡ xs ∷ slice_split p ys
cut_one p q apart [] y ys all here = slice_split-cons_yes p y ys here
cut_one p q apart (x ∷ xs) y ys all here =
    let parts = and_parts (q x) (list_all q xs) all in
    slice_split-cons_no p x (xs ++ y ∷ ys) (apart x parts.0) ∙ ap (onto_first x) (cut_one p q apart xs y ys parts.1 here)

-- ---- tests of all bytes

pub all_behind : (q : ℕ → Bool) (xs ys : List ℕ) → list_all q xs ≡ true → list_all q ys ≡ true → list_all q (xs ++ ys) ≡ true
all_behind q xs ys h k = list_all-append q xs ys ∙ (λ i. h i && k i)

pub all_weaker : (q r : ℕ → Bool) → ((b : ℕ) → q b ≡ true → r b ≡ true) → (xs : List ℕ) → list_all q xs ≡ true → list_all r xs ≡ true
all_weaker q r more [] all = refl
all_weaker q r more (x ∷ xs) all = let parts = and_parts (q x) (list_all q xs) all in λ i. more x parts.0 i && all_weaker q r more xs parts.1 i
