-- What one letting-in does to one that waits.
use Rattle.std.proofs.Common.{◌≡◌, ◌≢◌, ℕ, zero, suc, ◌+◌, ◌<◌, ◌≤◌, Bool, true, false, not, nat_eq, nat_lt, nat_le, if◌then◌else◌, List, [], ◌∷◌, ◌++◌, length, refl, sym, ap, ◌∙◌, subst, inl, inr, arith, rules}
use Rattle.std.proofs.lemmas.Bool.{cases_eq, cases_Bool, cases_lt, eq-eqb, ne_eqb}
use Rattle.bay_line.specs.declared.wish.Wish.{Wish}
use Rattle.bay_line.specs.Wishes.{no_wish, wish_at, common, is_ready, is_kept, passes, counts, passed_by}
use Rattle.bay_line.specs.Turns.{pass_all, others}
use Rattle.bay_line.specs.Bounds.{Stands, one_if}
use Rattle.std.proofs.lemmas.List.{get_or_append_left}
use Rattle.bay_line.proofs.Kept.{and_true_first, and_is}
use Rattle.bay_line.proofs.PassedBy.{as_many, in_parts}
use Rattle.bay_line.proofs.Standing.{either, same_ask, fewer_others}

-- what stays of those before it, of itself, and of those behind it
pub stays : (ask : ℕ) (w : Wish) (ws : List Wish) → w.ask ≢ ask → others ask (w ∷ ws) ≡ w ∷ others ask ws
stays ask w ws other = ap (λ b. if not b then w ∷ others ask ws else others ask ws) (ne_eqb w.ask ask other)

pub goes : (ask : ℕ) (w : Wish) (ws : List Wish) → w.ask ≡ ask → others ask (w ∷ ws) ≡ others ask ws
goes ask w ws same = ap (λ b. if not b then w ∷ others ask ws else others ask ws) (eq-eqb w.ask ask same)

pub others_apart : (ask : ℕ) (xs : List Wish) (w : Wish) (ys : List Wish) → w.ask ≢ ask → others ask (xs ++ w ∷ ys) ≡ others ask xs ++ w ∷ others ask ys
others_apart ask [] w ys other = stays ask w ys other
others_apart ask (x ∷ xs) w ys other =
    let ih = others_apart ask xs w ys other in
    elim (cases_eq x.ask ask) [
      | inl same ↦ goes ask x (xs ++ w ∷ ys) same ∙ (ih ∙ ap (λ (l : List Wish). l ++ w ∷ others ask ys) (sym (goes ask x xs same)))
      | inr differs ↦ stays ask x (xs ++ w ∷ ys) differs
          ∙ (ap (λ (l : List Wish). x ∷ l) ih ∙ ap (λ (l : List Wish). l ++ w ∷ others ask ys) (sym (stays ask x xs differs)))
    ]

-- the wish after one was let in
pub record Goes (most free needs ask : ℕ) (w : Wish) (place : ℕ) (new : List Wish) : Type 0 where
  pub it : Wish
  pub now : ℕ
  pub stands : Stands it now new
  pub its_ask : it.ask ≡ w.ask
  pub its_needs : it.needs ≡ w.needs
  pub its_classes : it.classes ≡ w.classes
  pub counted : it.passed ≡ w.passed + one_if (counts most free needs w)
  pub bound : one_if (passes free needs w) + now ≤ place + one_if (counts most free needs w)

pub at_most_one : (b : Bool) → one_if b ≤ 1
at_most_one true = omega arith
at_most_one false = omega arith

pub same_needs : (most free needs : ℕ) (w : Wish) → (passed_by most free needs w).needs ≡ w.needs
same_needs most free needs w = either (λ (v : Wish). v.needs ≡ w.needs) (counts most free needs w) _ w refl refl

pub same_classes : (most free needs : ℕ) (w : Wish) → (passed_by most free needs w).classes ≡ w.classes
same_classes most free needs w = either (λ (v : Wish). v.classes ≡ w.classes) (counts most free needs w) _ w refl refl

pub counts_one : (b : Bool) (w : Wish) → (if b then record { ask = w.ask; needs = w.needs; classes = w.classes; deadline = w.deadline; passed = w.passed + 1 } else w).passed ≡ w.passed + one_if b
counts_one true w = refl
counts_one false w = omega arith

-- the wish itself, when so many of those before it are left
left_it : (most free needs ask now place : ℕ) (w : Wish) (xs ys : List Wish) → w.ask ≢ ask → length (others ask (pass_all most free needs xs)) ≡ now
    → one_if (passes free needs w) + now ≤ place + one_if (counts most free needs w)
    → Goes most free needs ask w place (others ask (pass_all most free needs (xs ++ w ∷ ys)))
left_it most free needs ask now place w xs ys other many bound = record {
  it = passed_by most free needs w;
  now = now;
  stands = record {
    before = others ask (pass_all most free needs xs);
    behind = others ask (pass_all most free needs ys);
    is = ap (others ask) (in_parts most free needs xs (w ∷ ys))
        ∙ others_apart ask (pass_all most free needs xs) (passed_by most free needs w) (pass_all most free needs ys) (λ e. other (sym (same_ask most free needs w) ∙ e));
    place_is = many;
  };
  its_ask = same_ask most free needs w;
  its_needs = same_needs most free needs w;
  its_classes = same_classes most free needs w;
  counted = counts_one (counts most free needs w) w;
  bound = bound;
}

few_left : (most free needs ask : ℕ) (xs : List Wish) → length (others ask (pass_all most free needs xs)) ≤ length xs
few_left most free needs ask xs =
    let a = fewer_others ask (pass_all most free needs xs) in let b = as_many most free needs xs in omega (arith, a, b)

-- one of those before it is gone
fewer_left : (most free needs ask k : ℕ) (xs : List Wish) → k < length xs → (wish_at xs k).ask ≡ ask
    → length (others ask (pass_all most free needs xs)) < length xs
fewer_left most free needs ask k [] inside at = absurd (omega (arith, inside))
fewer_left most free needs ask zero (x ∷ xs) inside at =
    let few = few_left most free needs ask xs in
    subst (λ (l : List Wish). length l < suc (length xs)) (sym (goes ask (passed_by most free needs x) (pass_all most free needs xs) (same_ask most free needs x ∙ at)))
    (omega (arith, few))
fewer_left most free needs ask (suc k) (x ∷ xs) inside at =
    let ih = fewer_left most free needs ask k xs (omega (arith, inside)) at in
    let v = passed_by most free needs x in let rest = pass_all most free needs xs in
    either (λ (l : List Wish). length l < suc (length xs)) (not (nat_eq v.ask ask)) (v ∷ others ask rest) (others ask rest) (omega (arith, ih)) (omega (arith, ih))

-- it is at the place where it is in the list
at_front : (xs ys : List Wish) (k : ℕ) → k < length xs → wish_at (xs ++ ys) k ≡ wish_at xs k
at_front xs ys k inside = get_or_append_left xs ys no_wish k inside

pub lt_says : (a b : ℕ) → nat_lt a b ≡ false → nat_le b a ≡ true
lt_says a b h = search (rules, h)

-- one that goes before it is counted, unless its instruments are kept for it
pub is_counted : (most free needs : ℕ) (w : Wish) → (is_kept most free w ≡ true → passes free needs w ≡ true → ⊥) → one_if (passes free needs w) ≤ one_if (counts most free needs w)
is_counted most free needs w none = elim (cases_Bool (passes free needs w)) [
  | inl p ↦ elim (cases_Bool (nat_lt w.passed most)) [
    | inl less ↦ let same : counts most free needs w ≡ true = and_is (passes free needs w) (nat_lt w.passed most) p less in
        let a = at_most_one (passes free needs w) in let b : one_if (counts most free needs w) ≡ 1 = ap one_if same in omega (arith, a, b)
    | inr enough ↦ absurd (none (and_is (is_ready free w) (nat_le most w.passed) (and_true_first (is_ready free w) (common w.needs needs) p) (lt_says w.passed most enough)) p)
  ]
  | inr isnt ↦ let z : one_if (passes free needs w) ≡ 0 = ap one_if isnt in omega (arith, z)
]

pub one_goes : (most free needs ask k : ℕ) (xs : List Wish) (w : Wish) (ys : List Wish) → (wish_at (xs ++ w ∷ ys) k).ask ≡ ask → w.ask ≢ ask
    → (is_kept most free w ≡ true → passes free needs w ≡ true → k < length xs)
    → Goes most free needs ask w (length xs) (others ask (pass_all most free needs (xs ++ w ∷ ys)))
one_goes most free needs ask k xs w ys at other ahead = elim (cases_lt k (length xs)) [
  | inl before ↦
      let few = fewer_left most free needs ask k xs before (ap (λ (v : Wish). v.ask) (sym (at_front xs (w ∷ ys) k before)) ∙ at) in
      let one = at_most_one (passes free needs w) in
      left_it most free needs ask (length (others ask (pass_all most free needs xs))) (length xs) w xs ys other refl (omega (arith, few, one))
  | inr behind ↦
      let few = few_left most free needs ask xs in
      let counted = is_counted most free needs w (λ kept p. let b = ahead kept p in absurd (omega (arith, b, behind))) in
      left_it most free needs ask (length (others ask (pass_all most free needs xs))) (length xs) w xs ys other refl (omega (arith, few, counted))
]

-- whoever goes in leaves fewer in line
pub fewer_after : (most free needs ask k : ℕ) (ws : List Wish) → k < length ws → (wish_at ws k).ask ≡ ask
    → length (others ask (pass_all most free needs ws)) < length ws
fewer_after most free needs ask k ws inside at = fewer_left most free needs ask k ws inside at
