-- The last element changed, as a write at the last place.
use Rattle.std.proofs.Common.{◌≡◌, ℕ, ◌-◌, ◌<◌, Bool, true, false, if◌then◌else◌, List, [], ◌∷◌, length, get_or, set, suc, refl, ap, ◌∙◌, arith}
use Rattle.std.proofs.lemmas.List.{set-get_or}
use Rattle.lab_plan.specs.Building.{on_last}

last_written : {X : Type 0} (change : X → X) (xs : List X) (d : X) → 0 < length xs
    → set xs (length xs - 1) (change (get_or xs (length xs - 1) d)) ≡ on_last change xs
last_written change [] d inside = absurd (omega arith)
last_written change (x ∷ []) d inside = refl
last_written change (x ∷ y ∷ xs) d inside =
    let less : length (x ∷ y ∷ xs) - 1 ≡ suc (length (y ∷ xs) - 1) = omega arith in
    rw less (ap (λ l. x ∷ l) (last_written change (y ∷ xs) d (omega arith)))

written : {X : Type 0} (change : X → X) (xs : List X) (x : X) (done : Bool) → 0 < length xs → x ≡ get_or xs (length xs - 1) x
    → set xs (length xs - 1) (if done then change x else x) ≡ (if done then on_last change xs else xs)
written change xs x true inside is = ap (λ z. set xs (length xs - 1) (change z)) is ∙ last_written change xs x inside
written change xs x false inside is = ap (λ z. set xs (length xs - 1) z) is ∙ set-get_or xs (length xs - 1) x

-- the write of a call that may be refused
pub on_last-item : {X : Type 0} (change : X → X) (xs : List X) (n : ℕ) (x y : X) (done : Bool) → n ≡ length xs → 0 < length xs → x ≡ get_or xs (n - 1) x
    → y ≡ (if done then change x else x)
    → set xs (n - 1) y ≡ (if done then on_last change xs else xs)
on_last-item change xs n x y done e inside is changed =
    rw e (ap (λ z. set xs (length xs - 1) z) changed ∙ written change xs x done inside (is ∙ ap (λ k. get_or xs (k - 1) x) e))
