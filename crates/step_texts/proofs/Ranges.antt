-- Texts of numbers, one after another.
use Rattle.std.proofs.Common.{◌≡◌, ℕ, ◌+◌, List, [], ◌∷◌, ◌++◌, sym, ap, ◌∙◌, append_assoc, append-nil}
use Rattle.std.specs.List.{flat_map, range_with_len}
use Rattle.std.proofs.lemmas.List.Concat.{flat_map-append}
use Rattle.lab_plan.proofs.Ranges.{range_more}

-- the text of the numbers below n, and then of n
flat_more : (f : ℕ → List ℕ) (n : ℕ) → flat_map f (range_with_len 0 (n + 1)) ≡ flat_map f (range_with_len 0 n) ++ f n
flat_more f n =
    ap (flat_map f) (range_more n) ∙ flat_map-append f (range_with_len 0 n) (n ∷ []) ∙ ap (λ t. flat_map f (range_with_len 0 n) ++ t) (append-nil (f n))

pub one_more : (f : ℕ → List ℕ) (start now new : List ℕ) (n : ℕ) → now ≡ start ++ flat_map f (range_with_len 0 n) → new ≡ now ++ f n
    → new ≡ start ++ flat_map f (range_with_len 0 (n + 1))
one_more f start now new n is added =
    added ∙ ap (λ t. t ++ f n) is ∙ append_assoc start (flat_map f (range_with_len 0 n)) (f n) ∙ ap (λ t. start ++ t) (sym (flat_more f n))
