-- Who is next, and that the first come is served first.
use Rattle.std.proofs.Common.{◌≡◌, ℕ, zero, suc, ◌<◌, ◌≤◌, true, nat_le, List, [], ◌∷◌, length, bit_and, refl, sym, ap, ◌∙◌, subst, inl, inr, arith}
use Rattle.std.specs.Int.Bits.{and_self}
use Rattle.bay_line.specs.declared.wish.Wish.{Wish}
use Rattle.bay_line.specs.Turns.{pass_all, others}
use Rattle.bay_line.specs.Wishes.{wish_at, common, is_ready, is_kept}
use Rattle.bay_line.specs.Lines.{NotMore, IsFair, NextIsLetIn}
use Rattle.bay_line.specs.Bounds.{IsFirstComeFirstServed, IsServedBefore, NobodyWaitsForItself}
use Rattle.bay_line.proofs.Kept.{and_true_first, and_true_second, and_is}
use Rattle.bay_line.proofs.Fair.{le_is, is_le}
use Rattle.bay_line.proofs.Waiting.{no_reason}

pub next_is_let_in : NextIsLetIn
next_is_let_in in_use free x place s next = record {
  goes = record {
    place = place;
    next = next;
    then = ap (λ (z : ℕ × ℕ). others z.0 (pass_all x.most free z.1 x.wishes)) (λ i. (next.ask i, next.needs i));
  };
  same = refl;
}

pub is_served_before : IsServedBefore
is_served_before most in_use free wishes k s next i below less too =
    let inside = next.first.0 in
    no_reason most in_use free wishes i k below next.first.1 less too (next.first.2 i (omega (arith, below, inside), inl (below, too)))

notmore_at : (w : Wish) (ws : List Wish) (k : ℕ) → NotMore w ws → k < length ws → (wish_at ws k).needs ≡ w.needs → (wish_at ws k).classes ≡ w.classes
    → (wish_at ws k).passed ≤ w.passed
notmore_at w [] k h inside n s = absurd (omega (arith, inside))
notmore_at w (v ∷ ws) zero h inside n s = h.0 n s
notmore_at w (v ∷ ws) (suc k) h inside n s = notmore_at w ws k h.1 (omega (arith, inside)) n s

fair_at : (ws : List Wish) (i k : ℕ) → IsFair ws → i < k → k < length ws → (wish_at ws k).needs ≡ (wish_at ws i).needs
    → (wish_at ws k).classes ≡ (wish_at ws i).classes → (wish_at ws k).passed ≤ (wish_at ws i).passed
fair_at [] i k h below inside n s = absurd (omega (arith, inside))
fair_at (w ∷ ws) i zero h below inside n s = absurd (omega (arith, below))
fair_at (w ∷ ws) zero (suc k) h below inside n s = notmore_at w ws k h.0 (omega (arith, inside)) n s
fair_at (w ∷ ws) (suc i) (suc k) h below inside n s = fair_at ws i k h.1 (omega (arith, below)) (omega (arith, inside)) n s

pub is_first_come_first_served : IsFirstComeFirstServed
is_first_come_first_served in_use free x k s order next i below same =
    let v = wish_at x.wishes i in let w = wish_at x.wishes k in
    let le = fair_at x.wishes i k order.fair below next.first.0 (sym same.needs) (sym same.classes) in
    let too : is_kept x.most free w ≡ true → is_kept x.most free v ≡ true = λ kept.
    let ready = subst (λ z. common z free ≡ true) (sym same.classes) (and_true_first (is_ready free w) (nat_le x.most w.passed) kept) in
    let enough = le_is x.most w.passed (and_true_second (is_ready free w) (nat_le x.most w.passed) kept) in
    and_is (is_ready free v) (nat_le x.most v.passed) ready (is_le x.most v.passed (omega (arith, enough, le))) in
    is_served_before x.most in_use free x.wishes k s next i below (record {
      needs = ap (bit_and v.needs) (sym same.needs) ∙ and_self v.needs;
      classes = ap (bit_and w.classes) same.classes ∙ and_self w.classes;
    }) too

-- ---- nobody waits for itself

pub nobody_waits_for_itself : NobodyWaitsForItself
nobody_waits_for_itself most in_use free wishes all k inside = elim (all k inside) [
  | inl not_ready ↦ inl not_ready
  | inr more ↦ elim more [
    | inl used ↦ inr (inl used)
    | inr one ↦ elim one.1.3 [
      | inl other ↦ inr (inr (inl (one.0, one.1, other, one.2)))
      | inr elder ↦ inr (inr (inr elder))
    ]
  ]
]
