-- A name is at any place where it stands, since names are distinct.
use Rattle.std.proofs.Common.{◌≡◌, ℕ, ◌<◌, Bool, true, false, ◌&&◌, List, [], length, get_or, refl, sym, ◌∙◌, arith, ⊎_elim}
use Rattle.std.specs.Prelude.{nat_lt, ◌≢◌}
use Rattle.std.specs.List.{AllPairs, list_any, position_or_len}
use Rattle.std.specs.Str.{bytes_eq}
use Rattle.std.proofs.lemmas.Bool.{cases_Bool}
use Rattle.std.proofs.lemmas.Bool.Decides.{Decides-ltb}
use Rattle.std.proofs.lemmas.List.Sums.{position_or_len_is}
use Rattle.std.proofs.lemmas.Slice.Eq.{bytes_eq-Decides}
use Rattle.lab_plan.proofs.Grown.{any_is}

both : (a b : Bool) → (a && b) ≡ true → (a ≡ true) × (b ≡ true)
both true true h = (refl, refl)
both true false h = cc
both false b h = cc

pub guessed : (name : List ℕ) (names : List (List ℕ)) (i : ℕ) (stands : Bool) → AllPairs (λ a b. a ≢ b) names → stands ≡ true
    → stands ≡ (nat_lt i (length names) && bytes_eq name (get_or names i []))
    → (list_any (bytes_eq name) names ≡ true) × (i ≡ position_or_len (bytes_eq name) names) × (i < length names)
guessed name names i stands distinct is_true test =
    let is : (nat_lt i (length names) ≡ true) × (bytes_eq name (get_or names i []) ≡ true) = both _ _ (sym test ∙ is_true) in
    let inside : i < length names = (Decides-ltb i (length names)).0 is.0 in
    let here = is.1 in
    let same : name ≡ get_or names i [] = (bytes_eq-Decides name (get_or names i [])).0 here in
    let earlier : (k : ℕ) → k < i → bytes_eq name (get_or names k []) ≡ false = λ k below.
    ⊎_elim
    (λ twice. absurd (distinct k i [] below inside (sym ((bytes_eq-Decides name (get_or names k [])).0 twice) ∙ same)))
    (λ other. other)
    (cases_Bool (bytes_eq name (get_or names k []))) in
    let first : position_or_len (bytes_eq name) names ≡ i = position_or_len_is (bytes_eq name) names i [] (omega (arith, inside)) earlier (λ h. here) in
    (any_is (bytes_eq name) names ∙ (Decides-ltb (position_or_len (bytes_eq name) names) (length names)).1 (omega (arith, first, inside)), sym first, inside)
