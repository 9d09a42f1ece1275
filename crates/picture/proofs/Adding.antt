-- A line that grows, piece by piece.
use Rattle.std.proofs.Common.{◌≡◌, List, ◌++◌, ap, ◌∙◌, append_assoc}

pub more : {A : Type 0} (old x y a b : List A) → x ≡ old ++ a → y ≡ x ++ b → y ≡ old ++ (a ++ b)
more old x y a b p q = q ∙ ap (λ t. t ++ b) p ∙ append_assoc old a b

-- by an equal piece
pub by_equal : {A : Type 0} (x y a b : List A) → y ≡ x ++ a → a ≡ b → y ≡ x ++ b
by_equal x y a b p e = p ∙ ap (λ t. x ++ t) e
