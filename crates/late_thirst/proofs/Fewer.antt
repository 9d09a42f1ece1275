-- How many are outside.
use Rattle.std.proofs.Common.{◌≡◌, ◌≢◌, ℕ, zero, suc, ◌+◌, ◌<◌, ◌≤◌, List, [], ◌∷◌, length, Option, Some, None, refl, arith}
use Rattle.late_thirst.specs.declared.asker.Asker.{Asker}
use Rattle.late_thirst.specs.Outside.{place, IsOutside}
use Rattle.late_thirst.specs.LettingIn.{LetsIn}
use Rattle.late_thirst.proofs.Gone.{not_both, somebody_in, before_in, as_many_after}

abbrev pub count : List (Option Asker) → ℕ
count [] = 0
count (None ∷ xs) = count xs
count (Some a ∷ xs) = count xs + 1

pub at_most_all : (xs : List (Option Asker)) → count xs ≤ length xs
at_most_all [] = omega arith
at_most_all (None ∷ xs) = let ih = at_most_all xs in omega (arith, ih)
at_most_all (Some a ∷ xs) = let ih = at_most_all xs in omega (arith, ih)

abbrev OnlyFewer : List (Option Asker) → List (Option Asker) → Type 0
OnlyFewer xs ys = (j : ℕ) → place ys j ≡ None → place xs j ≡ None

shorter : (x y : Option Asker) (xs ys : List (Option Asker)) → length (x ∷ xs) ≡ length (y ∷ ys) → length xs ≡ length ys
shorter x y xs ys same = omega (arith, same)

no_more : (xs ys : List (Option Asker)) → length xs ≡ length ys → OnlyFewer xs ys → count xs ≤ count ys
no_more [] ys same only = omega arith
no_more (x ∷ xs) [] same only = absurd (omega (arith, same))
no_more (None ∷ xs) (None ∷ ys) same only = no_more xs ys (shorter None None xs ys same) (λ j. only (suc j))
no_more (None ∷ xs) (Some b ∷ ys) same only = let ih = no_more xs ys (shorter None (Some b) xs ys same) (λ j. only (suc j)) in omega (arith, ih)
no_more (Some a ∷ xs) (None ∷ ys) same only = absurd (not_both (Some a) a refl (only 0 refl))
no_more (Some a ∷ xs) (Some b ∷ ys) same only = let ih = no_more xs ys (shorter (Some a) (Some b) xs ys same) (λ j. only (suc j)) in omega (arith, ih)

fewer : (xs ys : List (Option Asker)) → length xs ≡ length ys → OnlyFewer xs ys → (k : ℕ) → IsOutside ys k → place xs k ≡ None → count xs < count ys
fewer xs [] same only k out none = absurd (not_both None out.0 out.1 refl)
fewer [] (y ∷ ys) same only k out none = absurd (omega (arith, same))
fewer (Some a ∷ xs) (y ∷ ys) same only zero out none = absurd (not_both (Some a) a refl none)
fewer (None ∷ xs) (None ∷ ys) same only zero out none = absurd (not_both None out.0 out.1 refl)
fewer (None ∷ xs) (Some b ∷ ys) same only zero out none =
    let ih = no_more xs ys (shorter None (Some b) xs ys same) (λ j. only (suc j)) in omega (arith, ih)
fewer (None ∷ xs) (None ∷ ys) same only (suc k) out none = fewer xs ys (shorter None None xs ys same) (λ j. only (suc j)) k out none
fewer (None ∷ xs) (Some b ∷ ys) same only (suc k) out none =
    let ih = fewer xs ys (shorter None (Some b) xs ys same) (λ j. only (suc j)) k out none in omega (arith, ih)
fewer (Some a ∷ xs) (None ∷ ys) same only (suc k) out none = absurd (not_both (Some a) a refl (only 0 refl))
fewer (Some a ∷ xs) (Some b ∷ ys) same only (suc k) out none =
    let ih = fewer xs ys (shorter (Some a) (Some b) xs ys same) (λ j. only (suc j)) k out none in omega (arith, ih)

-- each letting-in that lets anybody in leaves fewer outside
pub fewer_after : (most ready used : ℕ) (old : List (Option Asker)) (set : ℕ) (new : List (Option Asker)) → set ≢ 0 → LetsIn most ready used old set new
    → count new < count old
fewer_after most ready used old set new some lets =
    let one = somebody_in most ready used old set new some lets in
    fewer new old (as_many_after most ready used old set new lets) (before_in most ready used old set new lets) one.0 one.1 one.2
