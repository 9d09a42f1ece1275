-- The last of a list, changed in place.
use Rattle.std.proofs.Common.{◌≡◌, ℕ, zero, suc, ◌-◌, ◌<◌, ◌≤◌, List, [], ◌∷◌, length, get_or, set, refl, ap, ◌∙◌, arith}
use Rattle.waiting.specs.Noting.{on_last}

module _ {A : Type 0} (f : A → A) where
  at_place : (l : List A) (n : ℕ) (d : A) → length l ≡ suc n → set l n (f (get_or l n d)) ≡ on_last f l
  at_place [] n d long = absurd (cc)
  at_place (x ∷ []) zero d long = refl
  at_place (x ∷ []) (suc n) d long = absurd (omega (arith, long))
  at_place (x ∷ y ∷ l) zero d long = absurd (omega (arith, long))
  at_place (x ∷ y ∷ l) (suc n) d long = ap (λ z. x ∷ z) (at_place (y ∷ l) n d (omega (arith, long)))

  pub set_last : (l : List A) (n : ℕ) (x y : A) → n ≡ length l → 0 < n → x ≡ get_or l (n - 1) x → y ≡ f x → set l (n - 1) y ≡ on_last f l
  set_last l n x y long some is made =
      ap (λ z. set l (n - 1) z) (made ∙ ap f is) ∙ at_place l (n - 1) x (omega (arith, long, some))

  pub no_last : (l : List A) (n : ℕ) → n ≡ length l → n ≤ 0 → on_last f l ≡ l
  no_last [] n long none = refl
  no_last (x ∷ l) n long none = absurd (omega (arith, long, none))

pub on_last-same : {A : Type 0} (l : List A) → on_last (λ x. x) l ≡ l
on_last-same [] = refl
on_last-same (x ∷ []) = refl
on_last-same (x ∷ y ∷ l) = ap (λ z. x ∷ z) (on_last-same (y ∷ l))
