-- The numbers of the pairs of jobs, pair by pair.
use Rattle.std.proofs.Common.{◌≡◌, ℕ, ◌+◌, ◌*◌, ◌<◌, List, [], Option, None, Some, length, take, replicate, slice_index_or, slice_set, arith, sym, ap, ◌∙◌, subst, inl, inr, get_or-set_same, get_or-set_other, map, zero-add}
use Rattle.std.specs.List.{slice_get, Contains}
use Rattle.std.specs.Option.{IfSome, IfNone}
use Rattle.std.proofs.lemmas.Bool.{cases_eq}
use Rattle.std.proofs.lemmas.List.{get_or-take, length-take, take_more}
use Rattle.std.proofs.lemmas.List.Elements.{Contains-push_cases}
use Rattle.std.proofs.lemmas.Option.{slice_get-get_or, slice_get_within, get_or_from_slice_get}
use Rattle.std.specs.List.{range_with_len}
use Rattle.std.proofs.lemmas.List.FromFn.{get_or-map-range_with_len}
use Rattle.lab_plan.specs.LabPlan.{pairs_with}
use Rattle.lab_plan.specs.PairTables.{IsNumber, AreNumbers}
use Rattle.lab_plan.proofs.Alike.{read_alike}

-- one more pair, another than the one in question
other_pair : (pairs : List (ℕ × ℕ)) (k : ℕ) (pair : ℕ × ℕ) (number : Option ℕ) → k < length pairs → (slice_index_or pairs k (0, 0) ≡ pair → ⊥)
    → IsNumber (take k pairs) pair number → IsNumber (take (k + 1) pairs) pair number
other_pair pairs k pair None within other none =
    λ found. elim (Contains-push_cases (take k pairs) (slice_index_or pairs k (0, 0)) pair
    (subst (λ ps. Contains ps pair) (take_more pairs k (0, 0) within) found)) [
      | inl before ↦ none before
      | inr last ↦ other last
    ]
other_pair pairs k pair (Some e) within other is =
    let below : e < length (take k pairs) = slice_get_within (take k pairs) e pair is in
    let early : e < k = omega (arith, below, length-take k pairs) in
    let long : e < length (take (k + 1) pairs) = omega (arith, early, within, length-take (k + 1) pairs) in
    slice_get-get_or (take (k + 1) pairs) e (0, 0) long
    ∙ ap (λ p. Some p) (get_or-take (k + 1) pairs e (0, 0) (omega (arith, early))
    ∙ sym (get_or-take k pairs e (0, 0) early) ∙ get_or_from_slice_get (take k pairs) e pair (0, 0) is)

-- that very pair
this_pair : (pairs : List (ℕ × ℕ)) (k : ℕ) → k < length pairs → slice_get (take (k + 1) pairs) k ≡ Some (slice_index_or pairs k (0, 0))
this_pair pairs k within =
    let long : k < length (take (k + 1) pairs) = omega (arith, within, length-take (k + 1) pairs) in
    slice_get-get_or (take (k + 1) pairs) k (0, 0) long ∙ ap (λ p. Some p) (get_or-take (k + 1) pairs k (0, 0) (omega arith))

pub numbers_more : (pairs : List (ℕ × ℕ)) (numbers : List (Option ℕ)) (k low high : ℕ) → k < length pairs → slice_index_or pairs k (0, 0) ≡ (low, high)
    → low < 32 → high < 32 → length numbers ≡ 1024 → AreNumbers (take k pairs) numbers
    → AreNumbers (take (k + 1) pairs) (slice_set numbers (low * 32 + high) (Some k))
numbers_more pairs numbers k low high within is low_below high_below long before a b a_below b_below = elim (cases_eq (a * 32 + b) (low * 32 + high)) [
  | inl h ↦
      let first : a ≡ low = omega (arith, h, a_below, b_below, low_below, high_below) in
      let second : b ≡ high = omega (arith, h, a_below, b_below, low_below, high_below) in
      let set : slice_index_or (slice_set numbers (low * 32 + high) (Some k)) (a * 32 + b) None ≡ Some k =
      ap (λ n. slice_index_or (slice_set numbers (low * 32 + high) (Some k)) n None) h
      ∙ get_or-set_same numbers (low * 32 + high) (Some k) None (omega (arith, long, low_below, high_below)) in
      let pair : (low, high) ≡ (a, b) = λ t. (sym first t, sym second t) in
      subst (IsNumber (take (k + 1) pairs) (a, b)) (sym set) (this_pair pairs k within ∙ ap (λ p. Some p) (is ∙ pair))
  | inr h ↦
      let same : slice_index_or (slice_set numbers (low * 32 + high) (Some k)) (a * 32 + b) None ≡ slice_index_or numbers (a * 32 + b) None =
      get_or-set_other numbers (low * 32 + high) (a * 32 + b) (Some k) None h in
      let other : slice_index_or pairs k (0, 0) ≡ (a, b) → ⊥ = λ e. h (ap (λ p. p.0 * 32 + p.1) (sym e ∙ is)) in
      subst (IsNumber (take (k + 1) pairs) (a, b)) (sym same)
      (other_pair pairs k (a, b) (slice_index_or numbers (a * 32 + b) None) within other (before a b a_below b_below))
]

-- before the first pair
pub numbers_none : (pairs : List (ℕ × ℕ)) (numbers : List (Option ℕ)) (n : ℕ) → numbers ≡ replicate n None → AreNumbers (take 0 pairs) numbers
numbers_none pairs numbers n is a b a_below b_below =
    subst (IsNumber [] (a, b)) (sym (ap (λ ns. slice_index_or ns (a * 32 + b) None) is ∙ read_alike n (a * 32 + b) None))
    (λ found. let below = found.1 in absurd (omega (arith, below)))

-- the list of a job
pub list_at : (pairs : List (ℕ × ℕ)) (lists : List (List ℕ)) (j : ℕ) (d : List ℕ)
    → lists ≡ map (pairs_with pairs) (range_with_len 0 32) → j < 32 → slice_index_or lists j d ≡ pairs_with pairs j
list_at pairs lists j d is below = ap (λ ls. slice_index_or ls j d) is ∙ get_or-map-range_with_len (pairs_with pairs) 0 32 j j d below (zero-add j)

pub found_is : (pairs : List (ℕ × ℕ)) (pair : ℕ × ℕ) (number : Option ℕ) → IsNumber pairs pair number → IfSome number (λ e. slice_get pairs e ≡ Some pair)
found_is pairs pair None is = tt
found_is pairs pair (Some e) is = is

pub none_is : (pairs : List (ℕ × ℕ)) (pair : ℕ × ℕ) (number : Option ℕ) → IsNumber pairs pair number → IfNone number (Contains pairs pair → ⊥)
none_is pairs pair None is = is
none_is pairs pair (Some e) is = tt
