-- Pieces of a text, one after another.
use Rattle.std.proofs.Common.{◌≡◌, ℕ, List, ◌++◌, decimal, refl, ap, ◌∙◌, append_assoc}

pub two : (old x y a b : List ℕ) → x ≡ old ++ a → y ≡ x ++ b → y ≡ old ++ (a ++ b)
two old x y a b p q = q ∙ (ap (λ t. t ++ b) p ∙ append_assoc old a b)

-- some text and a number, first
pub first : (old y t : List ℕ) (n m : ℕ) → y ≡ old ++ t ++ decimal n → n ≡ m → y ≡ old ++ (t ++ decimal m)
first old y t n m p e = p ∙ (ap (λ k. old ++ t ++ decimal k) e ∙ append_assoc old t (decimal m))

-- behind some text
pub more : (old x y a t : List ℕ) (n m : ℕ) → x ≡ old ++ a → y ≡ x ++ t ++ decimal n → n ≡ m → y ≡ old ++ (a ++ t ++ decimal m)
more old x y a t n m p q e =
    two old (x ++ t) y (a ++ t) (decimal m) (two old x (x ++ t) a t p refl) (q ∙ ap (λ k. x ++ t ++ decimal k) e)
