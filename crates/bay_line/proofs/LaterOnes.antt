-- Whoever asked later and goes before one that waits is counted there.
use Rattle.std.proofs.Common.{◌≡◌, ◌≢◌, ℕ, zero, suc, ◌+◌, ◌<◌, ◌≤◌, ◌&&◌, nat_lt, List, [], ◌∷◌, ◌++◌, length, refl, sym, ap, ◌∙◌, subst, inl, inr, arith}
use Rattle.std.proofs.lemmas.Bool.{cases_Bool}
use Rattle.bay_line.specs.declared.wish.Wish.{Wish}
use Rattle.bay_line.specs.Wishes.{wish_at, common, passes, counts}
use Rattle.bay_line.specs.Turns.{MayGoIn}
use Rattle.bay_line.specs.Lines.{LineView, Above, Rises, Seldom, IsInOrder, GoesIn, kept_in_order}
use Rattle.bay_line.specs.Bounds.{Stands, WaitsOnce, Waits, one_if}
use Rattle.bay_line.specs.Later.{goes_later, go_later, FewLaterGoBefore, NobodyLaterGoesBefore}
use Rattle.bay_line.proofs.Kept.{and_true_first, and_true_second}
use Rattle.bay_line.proofs.Standing.{lt_is}
use Rattle.bay_line.proofs.KeptOrder.{in_order_kept, counts_most}
use Rattle.bay_line.proofs.Overtaken.{at_most_one, is_counted}
use Rattle.bay_line.proofs.Waiting.{stands_ahead, one_gone, goes_in, once, seldom_at}

-- ---- whoever stands before it asked no later

above_it : (n : ℕ) (xs : List Wish) (w : Wish) (ys : List Wish) → Above n (xs ++ w ∷ ys) → n ≤ w.ask
above_it n [] w ys h = h.0
above_it n (x ∷ xs) w ys h = above_it n xs w ys h.1

no_later : (k : ℕ) (xs : List Wish) (w : Wish) (ys : List Wish) → Rises (xs ++ w ∷ ys) → k < length xs → (wish_at (xs ++ w ∷ ys) k).ask ≤ w.ask
no_later k [] w ys r inside = absurd (omega (arith, inside))
no_later zero (x ∷ xs) w ys r inside = above_it x.ask xs w ys r.0
no_later (suc k) (x ∷ xs) w ys r inside = no_later k xs w ys r.1 (omega (arith, inside))

ahead_is_no_later : (k : ℕ) (ws : List Wish) (w : Wish) (place : ℕ) (st : Stands w place ws) → Rises ws → k < length st.before → (wish_at ws k).ask ≤ w.ask
ahead_is_no_later k ws w place st r inside =
    subst (λ (l : List Wish). (wish_at l k).ask ≤ w.ask) (sym st.is) (no_later k st.before w st.behind (subst Rises st.is r) inside)

-- ---- so whoever asked later is counted

later_counts : (most in_use free needs ask k : ℕ) (ws : List Wish) (w : Wish) (place : ℕ) → Stands w place ws → Rises ws → MayGoIn most in_use free ws k
    → (wish_at ws k).needs ≡ needs → (wish_at ws k).ask ≡ ask → ask ≢ w.ask
    → one_if (passes free needs w && nat_lt w.ask ask) ≤ one_if (counts most free needs w)
later_counts most in_use free needs ask k ws w place st r may same its other = elim (cases_Bool (passes free needs w && nat_lt w.ask ask)) [
  | inr isnt ↦ let z : one_if (passes free needs w && nat_lt w.ask ask) ≡ 0 = ap one_if isnt in omega (arith, z)
  | inl is ↦
      let p = and_true_first (passes free needs w) (nat_lt w.ask ask) is in
      let later = lt_is w.ask ask (and_true_second (passes free needs w) (nat_lt w.ask ask) is) in
      let counted = is_counted most free needs w (λ kept q.
      let before = stands_ahead most in_use free needs k ws w place st may same (λ e. other (sym its ∙ e)) kept q in
      let le = ahead_is_no_later k ws w place st r before in
      absurd (omega (arith, le, later, its))) in
      let one = at_most_one (passes free needs w && nat_lt w.ask ask) in
      let is_one : one_if (passes free needs w) ≡ 1 = ap one_if p in
      omega (arith, one, is_one, counted)
]

-- ---- as long as it waits

-- the wish is in line still, and has counted so many that asked later
record Later_on (w : Wish) (late : ℕ) (old new : LineView) : Type 0 where
  it : Wish
  now : ℕ
  stands : Stands it now new.wishes
  ask : it.ask ≡ w.ask
  needs : it.needs ≡ w.needs
  classes : it.classes ≡ w.classes
  counted : late + w.passed ≤ it.passed
  in_order : IsInOrder new
  most : new.most ≡ old.most

one_later : (ask : ℕ) (old new : LineView) (w : Wish) (place : ℕ) → IsInOrder old → w.ask ≡ ask → Stands w place old.wishes → (o : WaitsOnce ask old new)
    → Later_on w (goes_later ask old new o w) old new
one_later ask old new w place x is st (inl (in_use, free, s, lets, other)) =
    let apart : s.ask ≢ w.ask = λ e. other (e ∙ is) in
    let g : GoesIn old.most in_use free old.wishes s new.wishes = lets.goes in
    let gone = one_gone in_use free s old new w place st apart lets in
    let on = goes_in in_use free s old new w place x st apart lets in
    let counts = later_counts old.most in_use free s.needs s.ask g.place old.wishes w place st x.rises g.next.first.1 (sym g.next.needs) (sym g.next.ask) apart in
    let counted = gone.counted in
    record {
      it = gone.it;
      now = gone.now;
      stands = gone.stands;
      ask = gone.its_ask;
      needs = gone.its_needs;
      classes = gone.its_classes;
      counted = omega (arith, counts, counted);
      in_order = on.in_order;
      most = on.most;
    }
one_later ask old new w place x is st (inr same) =
    let on = once ask old new w place x is st (inr same) in
    let counted = on.waited.counted in
    record {
      it = on.waited.it;
      now = on.waited.now;
      stands = on.waited.stands;
      ask = on.waited.ask;
      needs = on.waited.needs;
      classes = on.waited.classes;
      counted = omega (arith, counted);
      in_order = on.in_order;
      most = on.most;
    }

same_later : (ask : ℕ) (old new : LineView) (o : WaitsOnce ask old new) (v w : Wish) → v.ask ≡ w.ask → v.needs ≡ w.needs → v.classes ≡ w.classes
    → goes_later ask old new o v ≡ goes_later ask old new o w
same_later ask old new (inl (in_use, free, s, lets, other)) v w its needs classes =
    ap (λ (z : ℕ × ℕ × ℕ). one_if (common z.0 free && common z.1 s.needs && nat_lt z.2 s.ask)) (λ i. (classes i, needs i, its i))
same_later ask old new (inr same) v w its needs classes = refl

later_on : (ask n : ℕ) (old new : LineView) (w : Wish) (place : ℕ) → IsInOrder old → w.ask ≡ ask → Stands w place old.wishes → (o : Waits ask n old new)
    → Later_on w (go_later ask n old new o w) old new
later_on ask zero old new w place x is st same =
    subst (Later_on w 0 old) (sym same)
    (record { it = w; now = place; stands = st; ask = refl; needs = refl; classes = refl; counted = omega arith; in_order = x; most = refl })
later_on ask (suc n) old new w place x is st (mid, before, o) =
    let m = later_on ask n old mid w place x is st before in
    let one = one_later ask mid new m.it m.now m.in_order (m.ask ∙ is) m.stands o in
    let same = same_later ask mid new o m.it w m.ask m.needs m.classes in
    let a = m.counted in let b = one.counted in
    record {
      it = one.it;
      now = one.now;
      stands = one.stands;
      ask = one.ask ∙ m.ask;
      needs = one.needs ∙ m.needs;
      classes = one.classes ∙ m.classes;
      counted = omega (arith, a, b, same);
      in_order = one.in_order;
      most = one.most ∙ m.most;
    }

pub few_later_go_before : FewLaterGoBefore
few_later_go_before ask n old new w place x is st o =
    let m = later_on ask n old new w place x is st o in
    let few : m.it.passed ≤ new.most = seldom_at new.most m.stands.before m.it m.stands.behind (subst (Seldom new.most) m.stands.is m.in_order.seldom) in
    let counted = m.counted in let same = m.most in omega (arith, few, counted, same)

pub nobody_later_goes_before : NobodyLaterGoesBefore
nobody_later_goes_before ask n old new w place x is st o =
    let few = few_later_go_before ask n (kept_in_order old) new w place (in_order_kept old x) is st o in
    let most = counts_most old.most w place old.wishes st in omega (arith, few, most)
