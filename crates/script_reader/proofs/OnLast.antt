-- The last element changed.
use Rattle.std.proofs.Common.{◌≡◌, ◌-◌, ◌<◌, List, [], ◌∷◌, ◌++◌, length, get_or, set, suc, refl, sym, ap, ◌∙◌, arith, length-append, get_or-set_same, length-set}
use Rattle.std.proofs.lemmas.List.{get_or_at}
use Rattle.lab_plan.specs.Building.{on_last}

on_last-write : {A : Type 0} (change : A → A) (xs : List A) (d : A) → 0 < length xs
    → set xs (length xs - 1) (change (get_or xs (length xs - 1) d)) ≡ on_last change xs
on_last-write change [] d inside = absurd (omega arith)
on_last-write change (x ∷ []) d inside = refl
on_last-write change (x ∷ y ∷ xs) d inside =
    let less : length (x ∷ y ∷ xs) - 1 ≡ suc (length (y ∷ xs) - 1) = omega arith in
    rw less (ap (λ l. x ∷ l) (on_last-write change (y ∷ xs) d (omega arith)))

pub last_pushed : {A : Type 0} (xs : List A) (x d : A) → get_or (xs ++ x ∷ []) (length (xs ++ x ∷ []) - 1) d ≡ x
last_pushed xs x d = get_or_at xs x [] d (length (xs ++ x ∷ []) - 1) (omega (arith, length-append xs (x ∷ [])))

pub last_changed : {A : Type 0} (change : A → A) (xs : List A) (d : A) → 0 < length xs
    → get_or (on_last change xs) (length (on_last change xs) - 1) d ≡ change (get_or xs (length xs - 1) d)
last_changed change xs d inside =
    let place : length xs - 1 < length xs = omega arith in
    let written = on_last-write change xs d inside in
    let len : length (on_last change xs) ≡ length xs = ap length (sym written) ∙ length-set xs (length xs - 1) _ in
    ap (λ n. get_or (on_last change xs) (n - 1) d) len ∙ ap (λ l. get_or l (length xs - 1) d) (sym written) ∙ get_or-set_same xs (length xs - 1) _ d place

pub same_length : {A : Type 0} (change : A → A) (xs : List A) → length (on_last change xs) ≡ length xs
same_length change [] = refl
same_length change (x ∷ []) = refl
same_length change (x ∷ y ∷ xs) = ap suc (same_length change (y ∷ xs))
