-- What a time of waiting does to one that waits.
use Rattle.std.proofs.Common.{◌≡◌, ◌≢◌, ◌⊎◌, ℕ, zero, suc, ◌+◌, ◌<◌, ◌≤◌, Bool, true, false, ◌&&◌, not, nat_lt, List, [], ◌∷◌, ◌++◌, length, Option, Some, refl, sym, ap, ◌∙◌, subst, inl, inr, arith, rules, append_assoc, bit_and, length-append}
use Rattle.std.proofs.lemmas.Bool.{cases_eq, cases_Bool, cases_lt, eq-eqb, ne_eqb, false≢true}
use Rattle.std.proofs.lemmas.Nat.{and_assoc}
use Rattle.std.specs.Int.Bits.{and_zero_r}
use Rattle.bay_line.specs.declared.wish.Wish.{Wish}
use Rattle.bay_line.specs.declared.going_in.Seated.{Seated}
use Rattle.bay_line.specs.Wishes.{no_wish, wish_at, common, is_ready, is_kept, passes, counts, passed_most, WantsNoMore}
use Rattle.bay_line.specs.Turns.{HasReason, MayGoIn, KeepsFrom, HasElder, pass_all, others}
use Rattle.bay_line.specs.Lines.{LineView, Seldom, Below, IsInOrder, GoesIn, LetsIn, wishes_of, asking, leaving, kept_in_order}
use Rattle.bay_line.specs.Bounds.{Stands, WaitsOnce, Waits, goes_before, go_before, keeps_order, keep_order, one_if, HasWaited, WaitsAddUp}
use Rattle.bay_line.proofs.Standing.{rises_more, seldom_more, fewer_others, common_comm}
use Rattle.bay_line.proofs.Fair.{fair_more}
use Rattle.bay_line.proofs.InOrder.{in_order_others, in_order_goes}
use Rattle.bay_line.proofs.KeptOrder.{in_order_kept, stands_kept}
use Rattle.std.proofs.Math.Seq.{get_or-append_seam}
use Rattle.bay_line.proofs.Kept.{and_true_second}
use Rattle.bay_line.proofs.Overtaken.{Goes, one_goes, others_apart}

-- ---- one letting-in

let_in_once : (most free needs ask k : ℕ) (ws : List Wish) (w : Wish) (place : ℕ) → (st : Stands w place ws) → (wish_at ws k).ask ≡ ask → w.ask ≢ ask
    → (is_kept most free w ≡ true → passes free needs w ≡ true → k < length st.before)
    → Goes most free needs ask w place (others ask (pass_all most free needs ws))
let_in_once most free needs ask k ws w place st at other ahead =
    let P : List Wish → Type 0 = λ vs. (wish_at vs k).ask ≡ ask → Goes most free needs ask w (length st.before) (others ask (pass_all most free needs vs)) in
    subst (λ n. Goes most free needs ask w n (others ask (pass_all most free needs ws))) st.place_is
    (subst P (sym st.is) (λ a. one_goes most free needs ask k st.before w st.behind a other ahead) at)

at_seam : (xs : List Wish) (w : Wish) (ys : List Wish) → wish_at (xs ++ w ∷ ys) (length xs) ≡ w
at_seam xs w ys = get_or-append_seam xs w ys no_wish

-- the wish where it stands
at_its_place : (ws : List Wish) (w : Wish) (place : ℕ) (st : Stands w place ws) → wish_at ws (length st.before) ≡ w
at_its_place ws w place st = ap (λ (l : List Wish). wish_at l (length st.before)) st.is ∙ at_seam st.before w st.behind

its_place_inside : (ws : List Wish) (w : Wish) (place : ℕ) (st : Stands w place ws) → length st.before < length ws
its_place_inside ws w place st =
    let sum = length-append st.before (w ∷ st.behind) in let same : length ws ≡ length (st.before ++ w ∷ st.behind) = ap length st.is in omega (arith, sum, same)

-- whoever goes before one for which its instruments are kept, and needs one of them, stands before it
pub stands_ahead : (most in_use free needs k : ℕ) (ws : List Wish) (w : Wish) (place : ℕ) (st : Stands w place ws) → MayGoIn most in_use free ws k
    → (wish_at ws k).needs ≡ needs → (wish_at ws k).ask ≢ w.ask → is_kept most free w ≡ true → passes free needs w ≡ true → k < length st.before
stands_ahead most in_use free needs k ws w place st may same other kept p = elim (cases_lt k (length st.before)) [
  | inl before ↦ before
  | inr behind ↦
      let i = length st.before in let is = at_its_place ws w place st in
      let apart : i ≢ k = λ e. other (ap (λ j. (wish_at ws j).ask) (sym e) ∙ ap (λ (v : Wish). v.ask) is) in
      let keeps = may.not_kept i (its_place_inside ws w place st, subst (λ (v : Wish). is_kept most free v ≡ true) (sym is) kept, inl (omega (arith, behind, apart)), inl (λ e. other (sym e ∙ ap (λ (v : Wish). v.ask) is))) in
      let shares : common w.needs needs ≡ true = and_true_second (is_ready free w) (common w.needs needs) p in
      let none : common needs w.needs ≡ false = subst (λ (z : ℕ × ℕ). common z.0 z.1 ≡ false) (λ j. (same j, (is j).needs)) keeps in
      absurd (false≢true (sym none ∙ (common_comm needs w.needs ∙ shares)))
]

no_less : (b : Bool) (p q : ℕ) → p ≡ q + one_if b → q ≤ p
no_less true p q h = omega (arith, h)
no_less false p q h = omega (arith, h)

lt_is_true : (a b : ℕ) → a < b → nat_lt a b ≡ true
lt_is_true a b h = elim (cases_Bool (nat_lt a b)) [
  | inl is ↦ is
  | inr isnt ↦ search (rules, h, isnt)
]

with_true : (a b : Bool) → b ≡ true → (a && b) ≡ a
with_true true b h = h
with_true false b h = refl

has_gone : (most free needs ask : ℕ) (w : Wish) (place : ℕ) (new : LineView) → new.most ≡ most → Goes most free needs ask w place new.wishes
    → HasWaited w place (one_if (passes free needs w)) 0 new
has_gone most free needs ask w place new same g = record {
  it = g.it;
  now = g.now;
  stands = g.stands;
  ask = g.its_ask;
  needs = g.its_needs;
  classes = g.its_classes;
  later = one_if (counts most free needs w);
  counted = let is = g.counted in omega (arith, is);
  exact = λ none. g.counted;
  each = λ less.
      let more = no_less (counts most free needs w) g.it.passed w.passed g.counted in
      let below : w.passed < most = omega (arith, more, less, same) in
      (sym (ap one_if (with_true (passes free needs w) (nat_lt w.passed most) (lt_is_true w.passed most below))), g.counted);
  bound = g.bound;
}

-- ---- one thing that happens while it waits

pub record Goes_on (w : Wish) (place all orders : ℕ) (old new : LineView) : Type 0 where
  pub waited : HasWaited w place all orders new
  pub in_order : IsInOrder new
  pub most : new.most ≡ old.most

pub one_gone : (in_use free : ℕ) (s : Seated) (old new : LineView) (w : Wish) (place : ℕ) → Stands w place old.wishes → s.ask ≢ w.ask
    → LetsIn in_use free old (Some s) new → Goes old.most free s.needs s.ask w place new.wishes
one_gone in_use free s old new w place st other lets =
    let g : GoesIn old.most in_use free old.wishes s new.wishes = lets.goes in
    let k = g.place in
    let then : new.wishes ≡ others s.ask (pass_all old.most free s.needs old.wishes) =
    g.then ∙ ap (λ (z : ℕ × ℕ). others z.0 (pass_all old.most free z.1 old.wishes)) (λ i. (sym g.next.ask i, sym g.next.needs i)) in
    let ahead = stands_ahead old.most in_use free s.needs k old.wishes w place st g.next.first.1 (sym g.next.needs) (λ e. other (g.next.ask ∙ e)) in
    let one = let_in_once old.most free s.needs s.ask k old.wishes w place st (sym g.next.ask) (λ e. other (sym e)) ahead in
    subst (Goes old.most free s.needs s.ask w place) (sym then) one

pub goes_in : (in_use free : ℕ) (s : Seated) (old new : LineView) (w : Wish) (place : ℕ) → IsInOrder old → Stands w place old.wishes → s.ask ≢ w.ask
    → LetsIn in_use free old (Some s) new → Goes_on w place (one_if (passes free s.needs w)) 0 old new
goes_in in_use free s old new w place x st other lets =
    let most = ap (λ (v : LineView). v.most) lets.same in
    record {
      waited = has_gone old.most free s.needs s.ask w place new most (one_gone in_use free s old new w place st other lets);
      in_order = subst IsInOrder (sym lets.same) (in_order_goes old.limit old.most in_use free old.wishes (Some s) new.wishes lets.goes x);
      most = most;
    }

nothing_went : (w : Wish) (place now : ℕ) (new : LineView) → Stands w now new.wishes → now ≤ place → HasWaited w place 0 0 new
nothing_went w place now new st less = record {
  it = w;
  now = now;
  stands = st;
  ask = refl;
  needs = refl;
  classes = refl;
  later = 0;
  counted = omega arith;
  exact = λ none. omega arith;
  each = λ h. (refl, omega arith);
  bound = omega (arith, less);
}

stands_on : (w : Wish) (place : ℕ) (ws more : List Wish) → Stands w place ws → Stands w place (ws ++ more)
stands_on w place ws more st = record {
  before = st.before;
  behind = st.behind ++ more;
  is = ap (λ (l : List Wish). l ++ more) st.is ∙ append_assoc st.before (w ∷ st.behind) more;
  place_is = st.place_is;
}

one_asks : (other : ℕ) (sets : List ℕ) (classes : ℕ) (d : Option ℕ) (old new : LineView) (w : Wish) (place : ℕ) → IsInOrder old → Stands w place old.wishes → Below other old.wishes
    → new ≡ asking old other sets classes d → length new.wishes ≤ new.limit → Goes_on w place 0 0 old new
one_asks other sets classes d old new w place x st below is few =
    let P : LineView → Type 0 = λ v. length v.wishes ≤ v.limit → Goes_on w place 0 0 old v in
    subst P (sym is) (λ f. record {
      waited = nothing_went w place place (asking old other sets classes d) (stands_on w place old.wishes (wishes_of other sets classes d) st) (omega arith);
      in_order = record {
        rises = rises_more other old.wishes sets classes d x.rises below;
        seldom = seldom_more old.most other old.wishes sets classes d x.seldom;
        fair = fair_more other sets classes d old.wishes x.fair;
        few = f;
      };
      most = refl;
    }) few

stands_apart : (ask : ℕ) (ws : List Wish) (w : Wish) (place : ℕ) → w.ask ≢ ask → Stands w place ws → (now : ℕ) × Stands w now (others ask ws) × (now ≤ place)
stands_apart ask ws w place other st =
    let few = fewer_others ask st.before in let p = st.place_is in (
      length (others ask st.before),
      record {
        before = others ask st.before;
        behind = others ask st.behind;
        is = ap (others ask) st.is ∙ others_apart ask st.before w st.behind other;
        place_is = refl;
      },
      omega (arith, few, p),
    )

one_leaves : (other : ℕ) (old new : LineView) (w : Wish) (place : ℕ) → IsInOrder old → Stands w place old.wishes → other ≢ w.ask → new ≡ leaving old other
    → Goes_on w place 0 0 old new
one_leaves other old new w place x st apart is =
    let a = stands_apart other old.wishes w place (λ e. apart (sym e)) st in
    subst (Goes_on w place 0 0 old) (sym is) (record {
      waited = nothing_went w place a.0 (leaving old other) a.1 a.2;
      in_order = in_order_others old.limit old.most other old.wishes x;
      most = refl;
    })

pub seldom_at : (most : ℕ) (xs : List Wish) (w : Wish) (ys : List Wish) → Seldom most (xs ++ w ∷ ys) → w.passed ≤ most
seldom_at most [] w ys h = h.0
seldom_at most (x ∷ xs) w ys h = seldom_at most xs w ys h.1

one_keeps : (old new : LineView) (w : Wish) (place : ℕ) → IsInOrder old → Stands w place old.wishes → new ≡ kept_in_order old → Goes_on w place 0 1 old new
one_keeps old new w place x st is =
    let few : w.passed ≤ old.most = seldom_at old.most st.before w st.behind (subst (Seldom old.most) st.is x.seldom) in
    subst (Goes_on w place 0 1 old) (sym is) (record {
      waited = record {
        it = passed_most old.most w;
        now = place;
        stands = stands_kept old.most w place old.wishes st;
        ask = refl;
        needs = refl;
        classes = refl;
        later = 0;
        counted = omega (arith, few);
        exact = λ none. absurd (omega (arith, none));
        each = λ less. absurd (omega (arith, less));
        bound = omega arith;
      };
      in_order = in_order_kept old x;
      most = refl;
    })

pub once : (ask : ℕ) (old new : LineView) (w : Wish) (place : ℕ) → IsInOrder old → w.ask ≡ ask → Stands w place old.wishes → (o : WaitsOnce ask old new)
    → Goes_on w place (goes_before ask old new o w) (keeps_order ask old new o) old new
once ask old new w place x is st (inl (in_use, free, s, lets, other)) = goes_in in_use free s old new w place x st (λ e. other (e ∙ is)) lets
once ask old new w place x is st (inr (inl (other, sets, classes, d, below, same, few))) = one_asks other sets classes d old new w place x st below same few
once ask old new w place x is st (inr (inr (inl (other, apart, same)))) = one_leaves other old new w place x st (λ e. apart (e ∙ is)) same
once ask old new w place x is st (inr (inr (inr same))) = one_keeps old new w place x st same

-- ---- all that happens

same_go : (ask : ℕ) (old new : LineView) (o : WaitsOnce ask old new) (v w : Wish) → v.needs ≡ w.needs → v.classes ≡ w.classes
    → goes_before ask old new o v ≡ goes_before ask old new o w
same_go ask old new (inl (in_use, free, s, lets, other)) v w needs classes =
    ap (λ (z : ℕ × ℕ). one_if (common z.0 free && common z.1 s.needs)) (λ i. (classes i, needs i))
same_go ask old new (inr same) v w needs classes = refl

added : (w : Wish) (place a c m n : ℕ) (mid new : LineView) (x : HasWaited w place a m mid) → new.most ≡ mid.most → HasWaited x.it x.now c n new
    → HasWaited w place (a + c) (m + n) new
added w place a c m n mid new x same y =
    let p = x.counted in let q = y.counted in let r = x.bound in let s = y.bound in let e = x.each in let f = y.each in
    record {
      it = y.it;
      now = y.now;
      stands = y.stands;
      ask = y.ask ∙ x.ask;
      needs = y.needs ∙ x.needs;
      classes = y.classes ∙ x.classes;
      later = x.later + y.later;
      counted = omega (arith, p, q);
      exact = λ none. let one = x.exact (omega (arith, none)) in let two = y.exact (omega (arith, none)) in omega (arith, one, two);
      each = λ less.
          let two = f less in let sum = two.1 in let one = e (omega (arith, less, sum, same)) in let its = one.1 in let a_is = one.0 in let c_is = two.0 in
          (omega (arith, a_is, c_is), omega (arith, its, sum));
      bound = omega (arith, r, s);
    }

pub meanwhile : (ask n : ℕ) (old new : LineView) (w : Wish) (place : ℕ) → IsInOrder old → w.ask ≡ ask → Stands w place old.wishes → (o : Waits ask n old new)
    → Goes_on w place (go_before ask n old new o w) (keep_order ask n old new o) old new
meanwhile ask zero old new w place x is st same =
    subst (Goes_on w place 0 0 old) (sym same) (record { waited = nothing_went w place place old st (omega arith); in_order = x; most = refl })
meanwhile ask (suc n) old new w place x is st (mid, before, o) =
    let m = meanwhile ask n old mid w place x is st before in
    let v = m.waited.it in
    let one = once ask mid new v m.waited.now m.in_order (m.waited.ask ∙ is) m.waited.stands o in
    let now : HasWaited v m.waited.now (goes_before ask mid new o w) (keeps_order ask mid new o) new =
    subst (λ z. HasWaited v m.waited.now z (keeps_order ask mid new o) new) (same_go ask mid new o v w m.waited.needs m.waited.classes) one.waited in
    record {
      waited = added w place (go_before ask n old mid before w) (goes_before ask mid new o w) (keep_order ask n old mid before) (keeps_order ask mid new o) mid new m.waited one.most now;
      in_order = one.in_order;
      most = one.most ∙ m.most;
    }

pub waits_add_up : WaitsAddUp
waits_add_up ask n zero old mid new first second =
    let Both : LineView → Type 0 = λ v. (x : Waits ask n old v) × ((w : Wish) → go_before ask n old v x w ≡ go_before ask n old mid first w + 0)
    × (keep_order ask n old v x ≡ keep_order ask n old mid first + 0) in
    let both : Both new = subst Both (sym second) (first, (λ w. omega arith), omega arith) in
    (n, omega arith, both.0, both.1, both.2)
waits_add_up ask n (suc m) old mid new first (there, before, last) =
    let x = waits_add_up ask n m old mid there first before in
    (suc x.0, omega (arith, x.1), (there, x.2, last), (λ w. let sum = x.3 w in omega (arith, sum)), let orders = x.4 in omega (arith, orders))

pub passed_at_most : (most place all orders : ℕ) (w : Wish) (new : LineView) → (h : HasWaited w place all orders new) → IsInOrder new → new.most ≡ most
    → (w.passed + h.later ≤ most) × (all + w.passed ≤ place + most)
passed_at_most most place all orders w new h x same =
    let st = h.stands in
    let few : h.it.passed ≤ new.most = seldom_at new.most st.before h.it st.behind (subst (Seldom new.most) st.is x.seldom) in
    let p = h.counted in let q = h.bound in (omega (arith, few, p, same), omega (arith, few, p, q, same))

-- ---- first come, first served

zero_is : (a b : ℕ) → common a b ≡ false → bit_and a b ≡ 0
zero_is a b h = elim (cases_eq (bit_and a b) 0) [
  | inl is ↦ is
  | inr isnt ↦ absurd (false≢true (sym h ∙ ap not (ne_eqb (bit_and a b) 0 isnt)))
]

-- whoever wants less shares no more
less_shares : (a b f : ℕ) → bit_and a b ≡ a → common b f ≡ false → common a f ≡ false
less_shares a b f less none =
    let zero_a : bit_and a f ≡ 0 =
    ap (λ n. bit_and n f) (sym less) ∙ (and_assoc f a b ∙ (ap (bit_and a) (zero_is b f none) ∙ and_zero_r a)) in
    ap not (eq-eqb (bit_and a f) 0 zero_a)

-- whoever wants no more than one that wants no more
wants_still_less : (u v w : Wish) → WantsNoMore u v → WantsNoMore v w → WantsNoMore u w
wants_still_less u v w x y = record {
  needs = ap (λ n. bit_and n w.needs) (sym x.needs) ∙ (and_assoc w.needs u.needs v.needs ∙ (ap (bit_and u.needs) y.needs ∙ x.needs));
  classes = ap (λ n. bit_and n u.classes) (sym y.classes) ∙ (and_assoc u.classes w.classes v.classes ∙ (ap (bit_and w.classes) x.classes ∙ y.classes));
}

-- what is kept from one that stands before k and wants no more, is kept from k
kept_too : (most free : ℕ) (old : List Wish) (h i k : ℕ) → i < k → WantsNoMore (wish_at old i) (wish_at old k)
    → (is_kept most free (wish_at old k) ≡ true → is_kept most free (wish_at old i) ≡ true) → KeepsFrom most free old h i
    → ((wish_at old h).ask ≢ (wish_at old k).ask) ⊎ HasElder most free old k
kept_too most free old h i k below less too keeps = elim (cases_eq (wish_at old h).ask (wish_at old k).ask) [
  | inr other ↦ inl other
  | inl its ↦ elim (cases_eq (wish_at old i).ask (wish_at old k).ask) [
    | inr another ↦ inr (i, record { stands = below; another = another; wants = less; too = too })
    | inl own ↦ elim keeps.3 [
      | inl other ↦ absurd (other (its ∙ sym own))
      | inr elder ↦
          let e = elder.1 in let stands = e.stands in
          inr (
            elder.0,
            record {
              stands = omega (arith, stands, below);
              another = λ same. e.another (same ∙ sym own);
              wants = wants_still_less (wish_at old elder.0) (wish_at old i) (wish_at old k) e.wants less;
              too = λ kept. e.too (too kept);
            },
          )
    ]
  ]
]

pub no_reason : (most in_use free : ℕ) (old : List Wish) (i k : ℕ) → i < k → MayGoIn most in_use free old k → WantsNoMore (wish_at old i) (wish_at old k)
    → (is_kept most free (wish_at old k) ≡ true → is_kept most free (wish_at old i) ≡ true) → HasReason most in_use free old i → ⊥
no_reason most in_use free old i k below may less too (inl not_ready) =
    false≢true (sym (less_shares (wish_at old k).classes (wish_at old i).classes free less.classes not_ready) ∙ may.ready)
no_reason most in_use free old i k below may less too (inr (inl used)) =
    false≢true (sym (less_shares (wish_at old i).needs (wish_at old k).needs in_use less.needs may.unused) ∙ used)
no_reason most in_use free old i k below may less too (inr (inr (h, keeps, shares))) =
    let from : (h < k) ⊎ (is_kept most free (wish_at old k) ≡ false) = elim keeps.2 [
      | inl before ↦ inl (omega (arith, before, below))
      | inr isnt ↦ elim (cases_Bool (is_kept most free (wish_at old k))) [
        | inl it ↦ absurd (false≢true (sym isnt ∙ too it))
        | inr none ↦ inr none
      ]
    ] in
    false≢true (sym (less_shares (wish_at old i).needs (wish_at old k).needs (wish_at old h).needs less.needs (may.not_kept h (keeps.0, keeps.1, from, kept_too most free old h i k below less too keeps))) ∙ shares)
