-- Who stays outside is passed by, and keeps its place.
use Rattle.std.proofs.Common.{◌≡◌, ◌≢◌, ℕ, ◌+◌, ◌<◌, ◌≤◌, Bool, true, false, ◌||◌, nat_le, if◌then◌else◌, List, length, Option, Some, None, set, get_or-set_same, get_or-set_other, length-set, refl, sym, ap, ◌∙◌, subst, inl, inr, arith}
use Rattle.std.proofs.lemmas.Bool.{cases_eq}
use Rattle.lab_plan.specs.InstrumentSets.{holds}
use Rattle.late_thirst.specs.declared.asker.Asker.{Asker}
use Rattle.late_thirst.specs.Outside.{place, apart, passed_by, passed_at}

either : (P : Option Asker → Type 0) (b : Bool) (x y : Option Asker) → P x → P y → P (if b then x else y)
either P true x y p q = p
either P false x y p q = q

-- one that asked in the same call, and needs the same
abbrev pub IsLike : Asker → Option Asker → Type 0
IsLike a o = (b : Asker) × (o ≡ Some b) × (b.since ≡ a.since) × (b.needs ≡ a.needs)

pub none_stays : (most ready needs j : ℕ) → passed_at most ready needs j None ≡ None
none_stays most ready needs j = either (λ (o : Option Asker). o ≡ None) (holds ready j) None None refl refl

pub one_stays : (most ready needs j : ℕ) (a : Asker) → IsLike a (passed_at most ready needs j (Some a))
one_stays most ready needs j a =
    let more : Asker = record { since = a.since; needs = a.needs; passed = a.passed + 1 } in
    either (IsLike a) (holds ready j) (passed_by most needs (Some a)) (Some a)
    (either (IsLike a) (apart a.needs needs || nat_le most a.passed) (Some a) (Some more) (a, refl, refl, refl) (more, refl, refl, refl))
    (a, refl, refl, refl)

-- those of the first n jobs are done, but for job k, which is in
pub record ArePassedTo (most ready needs k : ℕ) (old : List (Option Asker)) (n : ℕ) (new : List (Option Asker)) : Type 0 where
  pub as_many : length new ≡ length old
  pub inside : place new k ≡ None
  pub done : (j : ℕ) → j < n → j ≢ k → place new j ≡ passed_at most ready needs j (place old j)
  pub left : (j : ℕ) → n ≤ j → j ≢ k → place new j ≡ place old j

pub one_more : (most ready needs k : ℕ) (old : List (Option Asker)) (n : ℕ) (mid : List (Option Asker)) (x : Option Asker) → n < length mid
    → x ≡ passed_at most ready needs n (place mid n) → ArePassedTo most ready needs k old n mid → ArePassedTo most ready needs k old (n + 1) (set mid n x)
one_more most ready needs k old n mid x inside is c = record {
  as_many = length-set mid n x ∙ c.as_many;
  inside = elim (cases_eq k n) [
    | inl same ↦ subst (λ i. place (set mid n x) i ≡ None) (sym same) (get_or-set_same mid n x None inside ∙ (is
        ∙ (ap (passed_at most ready needs n) (subst (λ i. place mid i ≡ None) same c.inside) ∙ none_stays most ready needs n)))
    | inr other ↦ get_or-set_other mid n k x None other ∙ c.inside
  ];
  done = λ j below out. elim (cases_eq j n) [
    | inl same ↦ subst (λ i. place (set mid n x) i ≡ passed_at most ready needs i (place old i)) (sym same)
        (get_or-set_same mid n x None inside ∙ (is ∙ ap (passed_at most ready needs n) (c.left n (omega arith) (subst (λ i. i ≢ k) same out))))
    | inr other ↦ get_or-set_other mid n j x None other ∙ c.done j (omega (arith, below, other)) out
  ];
  left = λ j above out. get_or-set_other mid n j x None (λ is. omega (arith, above, is)) ∙ c.left j (omega (arith, above)) out;
}
