-- Texts of numbers, one after another.
use Rattle.std.proofs.Common.{◌≡◌, ℕ, ◌+◌, List, [], ◌∷◌, ◌++◌, sym, ap, ◌∙◌, append_assoc, append-nil, add-one, zero, suc, arith}
use Rattle.std.specs.List.{flat_map, range_with_len}

snoc : (a n : ℕ) → range_with_len a (suc n) ≡ range_with_len a n ++ (a + n) ∷ []
snoc a zero = let same : a ≡ a + 0 = omega arith in ap (λ k. k ∷ []) same
snoc a (suc n) = let same : a + 1 + n ≡ a + suc n = omega arith in
    ap (λ l. a ∷ l) (snoc (a + 1) n ∙ ap (λ k. range_with_len (a + 1) n ++ k ∷ []) same)

flat_more : (f : ℕ → List ℕ) (l : List ℕ) (x : ℕ) → flat_map f (l ++ x ∷ []) ≡ flat_map f l ++ f x
flat_more f [] x = append-nil (f x)
flat_more f (y ∷ l) x = ap (λ z. f y ++ z) (flat_more f l x) ∙ sym (append_assoc (f y) (flat_map f l) (f x))

zero_more : (n : ℕ) → 0 + n ≡ n
zero_more n = omega arith

pub one_more : (f : ℕ → List ℕ) (base now new : List ℕ) (n : ℕ) → now ≡ base ++ flat_map f (range_with_len 0 n) → new ≡ now ++ f n
    → new ≡ base ++ flat_map f (range_with_len 0 (n + 1))
one_more f base now new n is added =
    added ∙ (ap (λ l. l ++ f n) is ∙ (append_assoc base (flat_map f (range_with_len 0 n)) (f n)
    ∙ ap (λ l. base ++ l) (sym (ap (λ k. flat_map f (range_with_len 0 k)) (add-one n) ∙ (ap (flat_map f) (snoc 0 n ∙ ap (λ k. range_with_len 0 n ++ k ∷ []) (zero_more n)) ∙ flat_more f (range_with_len 0 n) n)))))
