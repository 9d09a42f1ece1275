-- Marks, and which of some stand behind another of them.
use Rattle.std.proofs.Common.{◌≡◌, ℕ, zero, suc, ◌+◌, ◌<◌, ◌≤◌, Bool, true, false, List, [], ◌∷◌, length, slice_index_or, get_or, set, inl, inr, refl, sym, ◌∙◌, ap, subst, arith, get_or-set_other, get_or-set_same, length-set, ◌≢◌}
use Rattle.std.specs.Prelude.{◌⊎◌, replicate, not, Option, None, Some, MatchOption}
use Rattle.std.specs.Option.{is_some}
use Rattle.std.specs.List.{Contains}
use Rattle.std.proofs.lemmas.Bool.{cases_eq, cases_lt, false≢true}
use Rattle.std.proofs.lemmas.List.Elements.{Contains-get_or}
use Rattle.timeline.specs.Orders.{IsOpen, IsBehind, AreBehindBelow, AreStuck}

pub open_within : (marks : List Bool) (y : ℕ) → IsOpen marks y → y < length marks
open_within [] y is = absurd (false≢true is)
open_within (m ∷ marks) zero is = omega arith
open_within (m ∷ marks) (suc y) is = let less = open_within marks y is in omega (arith, less)

pub set_open : (marks : List Bool) (y : ℕ) → y < length marks → IsOpen (set marks y true) y
set_open marks y inside = get_or-set_same marks y true false inside

pub set_kept : (marks : List Bool) (y z : ℕ) → IsOpen marks z → IsOpen (set marks y true) z
set_kept marks y z is = elim (cases_eq z y) [
  | inl same ↦ subst (IsOpen (set marks y true)) (sym same) (set_open marks y (subst (λ w. w < length marks) same (open_within marks z is)))
  | inr other ↦ get_or-set_other marks y z true false other ∙ is
]

pub set_only : (marks : List Bool) (y z : ℕ) → IsOpen (set marks y true) z → IsOpen marks z ⊎ (z ≡ y)
set_only marks y z is = elim (cases_eq z y) [
  | inl same ↦ inr same
  | inr other ↦ inl (sym (get_or-set_other marks y z true false other) ∙ is)
]

pub unset_kept : (marks : List Bool) (y z : ℕ) → z ≢ y → IsOpen marks z → IsOpen (set marks y false) z
unset_kept marks y z other is = get_or-set_other marks y z false false other ∙ is

pub unset_only : (marks : List Bool) (y z : ℕ) → IsOpen (set marks y false) z → (z ≢ y) × IsOpen marks z
unset_only marks y z is =
    let other : z ≢ y = λ same. (
    let now = subst (IsOpen (set marks y false)) same is in
    let long : length (set marks y false) ≡ length marks = length-set marks y false in
    let within = open_within (set marks y false) y now in
    let inside : y < length marks = omega (arith, long, within) in
    false≢true (sym (get_or-set_same marks y false false inside) ∙ now)) in
    (other, sym (get_or-set_other marks y z false false other) ∙ is)

pub behind_yes : (pairs : List (ℕ × ℕ)) (marks behind : List Bool) (k x y : ℕ) → k < length pairs → slice_index_or pairs k (0, 0) ≡ (x, y)
    → IsOpen marks x → IsOpen marks y → AreBehindBelow pairs marks k behind → AreBehindBelow pairs marks (k + 1) (set behind y true)
behind_yes pairs marks behind k x y inside is first second b = record {
  long = length-set behind y true ∙ b.long;
  only = λ z marked. elim (set_only behind y z marked) [
    | inl before ↦ b.only z before
    | inr same ↦ subst (IsBehind pairs marks) (sym same) (record {
      marked = second;
      x = x;
      first = first;
      pair = subst (Contains pairs) is (Contains-get_or pairs k (0, 0) inside);
    })
  ];
  all = λ i v w below at one two. elim (cases_eq i k) [
    | inl same ↦
        let pair : (v, w) ≡ (x, y) = sym at ∙ ap (λ j. slice_index_or pairs j (0, 0)) same ∙ is in
        subst (IsOpen (set behind y true)) (sym (ap (λ (p : ℕ × ℕ). p.1) pair))
        (set_open behind y (let within = open_within marks y second in let long = b.long in omega (arith, within, long)))
    | inr other ↦ set_kept behind y w (b.all i v w (omega (arith, below, other)) at one two)
  ];
}

pub none_open : (n y : ℕ) (marks : List Bool) → marks ≡ replicate n false → IsOpen marks y → ⊥
none_open n y marks is marked = false≢true (sym (at_false n y) ∙ ap (λ m. get_or m y false) (sym is) ∙ marked)
  where
    at_false : (n y : ℕ) → get_or (replicate n false) y false ≡ false
    at_false zero y = refl
    at_false (suc n) zero = refl
    at_false (suc n) (suc y) = at_false n y

pub each_marked : (marks : List Bool) (n : ℕ) (P : ℕ → Type 0) → length marks ≤ n → ((k : ℕ) → k < n → IsOpen marks k → P k) → (y : ℕ) → IsOpen marks y → P y
each_marked marks n P past below y is =
    let within = open_within marks y is in
    elim (cases_lt y n) [ inl less ↦ below y less is | inr more ↦ absurd (omega (arith, within, more, past)) ]

pub none_marked : (marks : List Bool) (n : ℕ) → length marks ≤ n → ((k : ℕ) → k < n → ¬ IsOpen marks k) → (y : ℕ) → ¬ IsOpen marks y
none_marked marks n past below y is = each_marked marks n (λ _. ⊥) past below y is

-- where one is marked and none of the marked is ready, they are stuck
pub stuck_of : (pairs : List (ℕ × ℕ)) (marks : List Bool) (one found : Option ℕ) (no_one no_ready : Bool)
    → MatchOption one ((y : ℕ) → ¬ IsOpen marks y) (λ y. IsOpen marks y) → is_some one ≡ not no_one → no_one ≡ false
    → (found ≡ None → (y : ℕ) → IsOpen marks y → IsBehind pairs marks y) → is_some found ≡ not no_ready → no_ready ≡ true → AreStuck pairs marks
stuck_of pairs marks None found no_one no_ready none is first behind known so = absurd (false≢true (is ∙ ap not first))
stuck_of pairs marks (Some y) (Some z) no_one no_ready marked is first behind known so = absurd (false≢true (sym (known ∙ ap not so)))
stuck_of pairs marks (Some y) None no_one no_ready marked is first behind known so = record { some = y; marked = marked; behind = behind refl }
