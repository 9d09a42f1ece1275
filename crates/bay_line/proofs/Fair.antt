-- Of those that want the same, whoever came first counts no less.
use Rattle.std.proofs.Common.{◌≡◌, ℕ, ◌+◌, ◌≤◌, true, ◌&&◌, not, nat_eq, nat_lt, nat_le, List, [], ◌∷◌, ◌++◌, Option, sym, ap, ◌∙◌, subst, inl, inr, arith, rules}
use Rattle.std.proofs.lemmas.Bool.{cases_Bool}
use Rattle.bay_line.specs.declared.wish.Wish.{Wish}
use Rattle.bay_line.specs.Wishes.{common, passes, counts, passed_by}
use Rattle.bay_line.specs.Turns.{pass_all, others}
use Rattle.bay_line.specs.Lines.{NotMore, IsFair, wishes_of}
use Rattle.bay_line.specs.Bounds.{one_if}
use Rattle.bay_line.proofs.Kept.{and_true_first, and_true_second, and_is}
use Rattle.bay_line.proofs.Standing.{either, lt_is}
use Rattle.bay_line.proofs.Overtaken.{same_needs, same_classes, counts_one, lt_says}

pub le_is : (a b : ℕ) → nat_le a b ≡ true → a ≤ b
le_is a b h = search (rules, h)

pub is_le : (a b : ℕ) → a ≤ b → nat_le a b ≡ true
is_le a b h = elim (cases_Bool (nat_le a b)) [
  | inl is ↦ is
  | inr isnt ↦ search (rules, h, isnt)
]

-- one that counts no more counts no more when both are passed by
no_more : (most free needs : ℕ) (v w : Wish) → v.needs ≡ w.needs → v.classes ≡ w.classes → v.passed ≤ w.passed
    → v.passed + one_if (counts most free needs v) ≤ w.passed + one_if (counts most free needs w)
no_more most free needs v w n s le = elim (cases_Bool (counts most free needs v)) [
  | inr isnt ↦ let z : one_if (counts most free needs v) ≡ 0 = ap one_if isnt in omega (arith, z, le)
  | inl is ↦
      let one : one_if (counts most free needs v) ≡ 1 = ap one_if is in
      let p : passes free needs w ≡ true =
      subst (λ (z : ℕ × ℕ). (common z.0 free && common z.1 needs) ≡ true) (λ i. (s i, n i)) (and_true_first (passes free needs v) (nat_lt v.passed most) is) in
      let less = lt_is v.passed most (and_true_second (passes free needs v) (nat_lt v.passed most) is) in
      elim (cases_Bool (nat_lt w.passed most)) [
        | inl too ↦ let other : one_if (counts most free needs w) ≡ 1 = ap one_if (and_is (passes free needs w) (nat_lt w.passed most) p too) in omega (arith, one, other, le)
        | inr enough ↦ let above = le_is most w.passed (lt_says w.passed most enough) in omega (arith, one, less, above)
      ]
]

notmore_passed : (most free needs : ℕ) (w : Wish) (ws : List Wish) → NotMore w ws → NotMore (passed_by most free needs w) (pass_all most free needs ws)
notmore_passed most free needs w [] h = tt
notmore_passed most free needs w (v ∷ ws) h = (
  (λ n s.
      let a = h.0 (sym (same_needs most free needs v) ∙ (n ∙ same_needs most free needs w)) (sym (same_classes most free needs v) ∙ (s ∙ same_classes most free needs w)) in
      let b = no_more most free needs v w (sym (same_needs most free needs v) ∙ (n ∙ same_needs most free needs w)) (sym (same_classes most free needs v) ∙ (s ∙ same_classes most free needs w)) a in
      let x = counts_one (counts most free needs v) v in let y = counts_one (counts most free needs w) w in
      omega (arith, b, x, y)),
  notmore_passed most free needs w ws h.1,
)

pub fair_passed : (most free needs : ℕ) (ws : List Wish) → IsFair ws → IsFair (pass_all most free needs ws)
fair_passed most free needs [] h = tt
fair_passed most free needs (w ∷ ws) h = (notmore_passed most free needs w ws h.0, fair_passed most free needs ws h.1)

notmore_others : (ask : ℕ) (w : Wish) (ws : List Wish) → NotMore w ws → NotMore w (others ask ws)
notmore_others ask w [] h = tt
notmore_others ask w (v ∷ ws) h =
    either (NotMore w) (not (nat_eq v.ask ask)) (v ∷ others ask ws) (others ask ws) (h.0, notmore_others ask w ws h.1) (notmore_others ask w ws h.1)

pub fair_others : (ask : ℕ) (ws : List Wish) → IsFair ws → IsFair (others ask ws)
fair_others ask [] h = tt
fair_others ask (w ∷ ws) h =
    either IsFair (not (nat_eq w.ask ask)) (w ∷ others ask ws) (others ask ws) (notmore_others ask w ws h.0, fair_others ask ws h.1) (fair_others ask ws h.1)

notmore_new : (w : Wish) (ask : ℕ) (sets : List ℕ) (classes : ℕ) (d : Option ℕ) → NotMore w (wishes_of ask sets classes d)
notmore_new w ask [] classes d = tt
notmore_new w ask (needs ∷ sets) classes d = ((λ n s. omega arith), notmore_new w ask sets classes d)

fair_new : (ask : ℕ) (sets : List ℕ) (classes : ℕ) (d : Option ℕ) → IsFair (wishes_of ask sets classes d)
fair_new ask [] classes d = tt
fair_new ask (needs ∷ sets) classes d =
    (notmore_new (record { ask = ask; needs = needs; classes = classes; deadline = d; passed = 0 }) ask sets classes d, fair_new ask sets classes d)

notmore_more : (w : Wish) (ws vs : List Wish) → NotMore w ws → NotMore w vs → NotMore w (ws ++ vs)
notmore_more w [] vs h g = g
notmore_more w (v ∷ ws) vs h g = (h.0, notmore_more w ws vs h.1 g)

pub fair_more : (ask : ℕ) (sets : List ℕ) (classes : ℕ) (d : Option ℕ) (ws : List Wish) → IsFair ws → IsFair (ws ++ wishes_of ask sets classes d)
fair_more ask sets classes d [] h = fair_new ask sets classes d
fair_more ask sets classes d (w ∷ ws) h =
    (notmore_more w ws (wishes_of ask sets classes d) h.0 (notmore_new w ask sets classes d), fair_more ask sets classes d ws h.1)
