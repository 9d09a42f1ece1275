-- The first place at which a test passes.
use Rattle.std.proofs.Common.{◌≡◌, ℕ, ◌<◌, Bool, true, false, List, length, get_or, refl, arith}
use Rattle.std.specs.Prelude.{None, Some, nat_lt}
use Rattle.std.specs.List.{position}
use Rattle.std.proofs.lemmas.List.Sums.{position_or_len_is}
use Rattle.std.proofs.lemmas.Bool.Decides.{Decides-ltb}
use Rattle.std.proofs.lemmas.Bool.{false_from_ne_true}

pub position_found : {X : Type 0} (p : X → Bool) (xs : List X) (i : ℕ) (d : X) → i < length xs
    → ((k : ℕ) → k < i → p (get_or xs k d) ≡ false) → p (get_or xs i d) ≡ true → position p xs ≡ Some i
position_found p xs i d inside before here =
    let is = position_or_len_is p xs i d (omega arith) before (λ _. here) in
    rw is (rw ((Decides-ltb i (length xs)).1 inside) refl)

pub position_none : {X : Type 0} (p : X → Bool) (xs : List X) (d : X) → ((k : ℕ) → k < length xs → p (get_or xs k d) ≡ false) → position p xs ≡ None
position_none p xs d all =
    let is = position_or_len_is p xs (length xs) d (omega arith) all (λ h. absurd (omega (arith, h))) in
    rw is (rw
    (false_from_ne_true (nat_lt (length xs) (length xs)) (λ e. let less = (Decides-ltb (length xs) (length xs)).0 e in absurd (omega (arith, less)))) refl)
