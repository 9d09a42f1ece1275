-- What a book keeps count of, after each call; and that what is in use is what it says.
use Rattle.std.proofs.Common.{◌≡◌, ◌≢◌, ℕ, zero, suc, ◌+◌, ◌<◌, ◌≤◌, ◌==◌, Bool, true, false, ◌&&◌, not, cond, List, [], ◌∷◌, ◌++◌, length, map, set, get_or, slice_index_or, refl, sym, ap, ◌∙◌, subst, inl, inr, arith, length-set}
use Rattle.std.specs.List.{filter, count_by, sum_by}
use Rattle.std.specs.Int.Bits.{bit_and, bit_or}
use Rattle.std.proofs.lemmas.Bool.{cases_eq, cases_Bool, eq-eqb, ne_eqb, false≢true}
use Rattle.std.proofs.lemmas.Nat.{or_disjoint, and_comm}
use Rattle.std.proofs.lemmas.List.{get_or_default, get_or-set_same, get_or-set_other}
use Rattle.std.proofs.lemmas.List.Quantifiers.{all_pairs_push}
use Rattle.std.proofs.lemmas.List.Kept.{AllPairs-filter}
use Rattle.std.proofs.lemmas.List.Sums.{sum_by-set, sum_by_push, sum_by-cons, get_or-le-sum_by, count_by-le-length}
use Rattle.bay_book.specs.declared.ask.Ask.{Ask}
use Rattle.bay_book.specs.declared.ask.Stage.{Stage}
use Rattle.bay_book.specs.declared.ask.Stage.TheVariants.{Waits, Holds, Over}
use Rattle.bay_book.specs.Asks.{no_ask, ask_at, is_holding, is_over, holds_class, given, turned, is_done}
use Rattle.bay_book.specs.Moments.{common}
use Rattle.bay_book.specs.Finding.{IsInUse}
use Rattle.bay_book.specs.Holding.{IsApart, AreApart}
use Rattle.bay_book.specs.Counted.{own, one_of, AreCounted}
use Rattle.bay_book.proofs.Bits.{HoldsBelow, InUseTo, none_in_use, all_in_use, common_both, or_false_first, or_false_second, or_true_cases, none_is}
use Rattle.bay_book.proofs.Apart.{common_turned, apart_set, apart_either, apart_give, apart_turn}

-- ---- what is in use

-- what the first one has, and what the others have, have nothing in common
first_apart : (a : Ask) (asks : List Ask) (set : ℕ) → AreApart (a ∷ asks) → InUseTo asks (length asks) set → is_holding a.stage ≡ true
    → bit_and a.needs set ≡ 0
first_apart a asks set h u holds = elim (cases_Bool (common a.needs set)) [
  | inl some ↦
      let w = u.why a.needs some in
      let apart = h 0 (suc w.0) no_ask (omega arith) (omega (arith, w.1.below)) in
      absurd (false≢true (sym (apart holds w.1.holds) ∙ w.1.has))
  | inr none ↦ none_is a.needs set none
]

used_first : (a : Ask) (asks : List Ask) (set : ℕ) → is_holding a.stage ≡ true → InUseTo asks (length asks) set
    → InUseTo (a ∷ asks) (suc (length asks)) (bit_or a.needs set)
used_first a asks set holds_ u = record { apart = apart_; why = why_ }
  where
    apart_ : (x : ℕ) → common x (bit_or a.needs set) ≡ false → (j : ℕ) → j < suc (length asks) → is_holding (ask_at (a ∷ asks) j).stage ≡ true
        → common x (ask_at (a ∷ asks) j).needs ≡ false
    apart_ x none zero below holds = or_false_first (common x a.needs) (common x set) (sym (common_both x a.needs set) ∙ none)
    apart_ x none (suc j) below holds =
        u.apart x (or_false_second (common x a.needs) (common x set) (sym (common_both x a.needs set) ∙ none)) j (omega (arith, below)) holds

    why_ : (x : ℕ) → common x (bit_or a.needs set) ≡ true → (j : ℕ) × HoldsBelow (a ∷ asks) (suc (length asks)) j (λ needs. common x needs ≡ true)
    why_ x some = elim (or_true_cases (common x a.needs) (common x set) (sym (common_both x a.needs set) ∙ some)) [
      | inl first ↦ (zero, record { below = omega arith; holds = holds_; has = first })
      | inr rest ↦ let w = u.why x rest in (suc w.0, record { below = omega (arith, w.1.below); holds = w.1.holds; has = w.1.has })
    ]

used_not_first : (a : Ask) (asks : List Ask) (set : ℕ) → is_holding a.stage ≡ false → InUseTo asks (length asks) set
    → InUseTo (a ∷ asks) (suc (length asks)) set
used_not_first a asks set isnt u = record { apart = apart_; why = why_ }
  where
    apart_ : (x : ℕ) → common x set ≡ false → (j : ℕ) → j < suc (length asks) → is_holding (ask_at (a ∷ asks) j).stage ≡ true
        → common x (ask_at (a ∷ asks) j).needs ≡ false
    apart_ x none zero below holds = absurd (false≢true (sym isnt ∙ holds))
    apart_ x none (suc j) below holds = u.apart x none j (omega (arith, below)) holds

    why_ : (x : ℕ) → common x set ≡ true → (j : ℕ) × HoldsBelow (a ∷ asks) (suc (length asks)) j (λ needs. common x needs ≡ true)
    why_ x some = let w = u.why x some in (suc w.0, record { below = omega (arith, w.1.below); holds = w.1.holds; has = w.1.has })

rest_apart : (a : Ask) (asks : List Ask) → AreApart (a ∷ asks) → AreApart asks
rest_apart a asks h i k d less within = h (suc i) (suc k) d (omega (arith, less)) (omega (arith, within))

used_both : (a : Ask) (asks : List Ask) (b : Bool) → is_holding a.stage ≡ b → AreApart (a ∷ asks) → InUseTo asks (length asks) (sum_by own asks)
    → InUseTo (a ∷ asks) (suc (length asks)) (sum_by own (a ∷ asks))
used_both a asks true holds h u =
    let s : ℕ = sum_by own asks in
    let mine : own a ≡ a.needs = ap (λ b. cond b a.needs 0) holds in
    let is : bit_or a.needs s ≡ sum_by own (a ∷ asks) = or_disjoint a.needs s (first_apart a asks s h u holds) ∙ omega (arith, mine, sum_by-cons own a asks) in
    subst (InUseTo (a ∷ asks) (suc (length asks))) is (used_first a asks s holds u)
used_both a asks false not h u =
    let s : ℕ = sum_by own asks in
    let mine : own a ≡ 0 = ap (λ b. cond b a.needs 0) not in
    let is : s ≡ sum_by own (a ∷ asks) = omega (arith, mine, sum_by-cons own a asks) in
    subst (InUseTo (a ∷ asks) (suc (length asks))) is (used_not_first a asks s not u)

used_sum : (asks : List Ask) → AreApart asks → InUseTo asks (length asks) (sum_by own asks)
used_sum [] h = none_in_use []
used_sum (a ∷ asks) h = used_both a asks (is_holding a.stage) refl h (used_sum asks (rest_apart a asks h))

pub sure_in_use : (asks : List Ask) (taken : List ℕ) (used : ℕ) (sure : Bool) → AreCounted asks taken used sure → sure ≡ true → IsInUse asks used
sure_in_use asks taken used sure c is =
    subst (IsInUse asks) (sym (c.all is)) (all_in_use asks (length asks) (sum_by own asks) refl (used_sum asks (c.apart is)))

-- ---- sums

same_set : (f : Ask → ℕ) (asks : List Ask) (j : ℕ) (a : Ask) → j < length asks → f a ≡ f (ask_at asks j) → sum_by f (set asks j a) ≡ sum_by f asks
same_set f asks j a inside same = omega (arith, sum_by-set f asks j a no_ask inside, same)

same_map : (f : Ask → ℕ) (g : Ask → Ask) → ((a : Ask) → f (g a) ≡ f a) → (asks : List Ask) → sum_by f (map g asks) ≡ sum_by f asks
same_map f g same [] = refl
same_map f g same (a ∷ asks) = let rest = same_map f g same asks in omega (arith, rest, same a, sum_by-cons f a asks, sum_by-cons f (g a) (map g asks))

kept_or_not : (f : Ask → ℕ) (a : Ask) (kept : List Ask) (s : ℕ) (t : Bool) → (t ≡ false → f a ≡ 0) → sum_by f kept ≡ s → sum_by f (cond t (a ∷ kept) kept) ≡ f a + s
kept_or_not f a kept s true none same = omega (arith, same, sum_by-cons f a kept)
kept_or_not f a kept s false none same = let z = none refl in omega (arith, same, z)

same_kept : (f : Ask → ℕ) (p : Ask → Bool) → ((a : Ask) → p a ≡ false → f a ≡ 0) → (asks : List Ask) → sum_by f (filter p asks) ≡ sum_by f asks
same_kept f p none [] = refl
same_kept f p none (a ∷ asks) =
    kept_or_not f a (filter p asks) (sum_by f asks) (p a) (none a) (same_kept f p none asks) ∙ sym (sum_by-cons f a asks)

-- ---- after calls

same_sums : (asks asks' : List Ask) (taken : List ℕ) (used : ℕ) (sure : Bool) → ((k : ℕ) → count_by (holds_class k) asks' ≡ count_by (holds_class k) asks)
    → sum_by own asks' ≡ sum_by own asks → (AreApart asks → AreApart asks') → AreCounted asks taken used sure → AreCounted asks' taken used sure
same_sums asks asks' taken used sure counts sum apart c = record {
  long = c.long;
  each = λ k few. c.each k few ∙ sym (counts k);
  apart = λ is. apart (c.apart is);
  all = λ is. c.all is ∙ sym sum;
}

pub none_counted : (taken : List ℕ) → length taken ≡ 32 → ((k : ℕ) → k < 32 → slice_index_or taken k 0 ≡ 0) → AreCounted [] taken 0 true
none_counted taken long zeros = record {
  long = long;
  each = zeros;
  apart = λ is. λ i k d less within. absurd (omega (arith, within));
  all = λ is. refl;
}

-- one is changed, and holds what it held
pub counted_set : (asks : List Ask) (j : ℕ) (a : Ask) (taken : List ℕ) (used : ℕ) (sure : Bool) → j < length asks → a.stage ≡ (ask_at asks j).stage
    → a.class ≡ (ask_at asks j).class → a.needs ≡ (ask_at asks j).needs → AreCounted asks taken used sure → AreCounted (set asks j a) taken used sure
counted_set asks j a taken used sure inside stage class needs c =
    let b = ask_at asks j in
    same_sums asks (set asks j a) taken used sure
    (λ k. same_set (one_of k) asks j a inside
    (ap (λ (s : Stage). cond (is_holding s && a.class == k) 1 0) stage ∙ ap (λ n. cond (is_holding b.stage && n == k) 1 0) class))
    (same_set own asks j a inside (ap (λ (s : Stage). cond (is_holding s) a.needs 0) stage ∙ ap (λ n. cond (is_holding b.stage) n 0) needs))
    (λ h. apart_set asks j a inside (λ i other in_i p q.
    subst (λ n. common n (ask_at asks i).needs ≡ false) (sym needs)
    (apart_either asks i j other in_i inside h (ap is_holding (sym stage) ∙ p) q)) h) c

-- one that doesn't hold asks
pub counted_push : (asks : List Ask) (a : Ask) (taken : List ℕ) (used : ℕ) (sure : Bool) → is_holding a.stage ≡ false → AreCounted asks taken used sure
    → AreCounted (asks ++ a ∷ []) taken used sure
counted_push asks a taken used sure not c =
    same_sums asks (asks ++ a ∷ []) taken used sure
    (λ k. let none : one_of k a ≡ 0 = ap (λ b. cond (b && a.class == k) 1 0) not in omega (arith, none, sum_by_push (one_of k) asks a))
    (let none : own a ≡ 0 = ap (λ b. cond b a.needs 0) not in omega (arith, none, sum_by_push own asks a))
    (λ h. all_pairs_push IsApart asks a h (λ k d inside. λ p q. absurd (false≢true (sym not ∙ q)))) c

pub counted_give : (at : ℕ) (asks : List Ask) (taken : List ℕ) (used : ℕ) (sure : Bool) → AreCounted asks taken used sure
    → AreCounted (map (given at) asks) taken used sure
counted_give at asks taken used sure c =
    same_sums asks (map (given at) asks) taken used sure (λ k. same_map (one_of k) (given at) (λ a. refl) asks) (same_map own (given at) (λ a. refl) asks)
    (apart_give asks at) c

pub counted_turn : (at : ℕ) (asks : List Ask) (taken : List ℕ) (used : ℕ) (sure : Bool) → AreCounted asks taken used sure
    → AreCounted (map (turned at) asks) taken used sure
counted_turn at asks taken used sure c =
    same_sums asks (map (turned at) asks) taken used sure (λ k. same_map (one_of k) (turned at) (λ a. refl) asks) (same_map own (turned at) (λ a. refl) asks)
    (apart_turn asks at) c

over_isnt : (s : Stage) (b c : Bool) → not (is_over s && b && c) ≡ false → is_holding s ≡ false
over_isnt Waits b c h = refl
over_isnt Holds b c h = absurd (false≢true (sym h))
over_isnt (Over how) b c h = refl

pub counted_purge : (asks : List Ask) (taken : List ℕ) (used : ℕ) (sure : Bool) → AreCounted asks taken used sure
    → AreCounted (filter (λ a. not (is_done a)) asks) taken used sure
counted_purge asks taken used sure c =
    let p : Ask → Bool = λ a. not (is_done a) in
    let isnt : (a : Ask) → p a ≡ false → is_holding a.stage ≡ false = λ a done. over_isnt a.stage _ _ done in
    same_sums asks (filter p asks) taken used sure
    (λ k. same_kept (one_of k) p (λ a done. ap (λ b. cond (b && a.class == k) 1 0) (isnt a done)) asks)
    (same_kept own p (λ a done. ap (λ b. cond b a.needs 0) (isnt a done)) asks)
    (λ h. AllPairs-filter IsApart p asks h) c

-- one holds
new_apart : (asks : List Ask) (used needs : ℕ) → IsInUse asks used → common needs used ≡ false → (i : ℕ) → i < length asks
    → is_holding (ask_at asks i).stage ≡ true → common needs (ask_at asks i).needs ≡ false
new_apart asks used needs u free i inside holds = u.apart needs free i inside holds

pub counted_hold : (asks : List Ask) (j : ℕ) (a : Ask) (taken taken' : List ℕ) (used used' : ℕ) (sure sure' : Bool) → j < length asks
    → is_holding (ask_at asks j).stage ≡ false → is_holding a.stage ≡ true
    → ((k : ℕ) → k < 32 → slice_index_or taken' k 0 ≡ slice_index_or taken k 0 + one_of k a) → length taken' ≡ length taken → (sure' ≡ true → sure ≡ true)
    → (sure' ≡ true → common a.needs used ≡ false) → (sure' ≡ true → used' ≡ bit_or used a.needs) → AreCounted asks taken used sure
    → AreCounted (set asks j a) taken' used' sure'
counted_hold asks j a taken taken' used used' sure sure' inside waits holds more long was free is c = record {
  long = long ∙ c.long;
  each = λ k few.
      let none : one_of k (ask_at asks j) ≡ 0 = ap (λ b. cond (b && (ask_at asks j).class == k) 1 0) waits in
      let before = c.each k few in let now = more k few in omega (arith, before, now, none, sum_by-set (one_of k) asks j a no_ask inside);
  apart = λ s. apart_set asks j a inside (λ i other in_i p q. new_apart asks used a.needs (sure_in_use asks taken used sure c (was s)) (free s) i in_i q) (c.apart (was s));
  all = λ s.
      let none : own (ask_at asks j) ≡ 0 = ap (λ b. cond b (ask_at asks j).needs 0) waits in
      let mine : own a ≡ a.needs = ap (λ b. cond b a.needs 0) holds in
      let sum : bit_or used a.needs ≡ used + a.needs = or_disjoint used a.needs (and_comm used a.needs ∙ none_is a.needs used (free s)) in
      let before = c.all (was s) in let now = is s in omega (arith, before, now, sum, none, mine, sum_by-set own asks j a no_ask inside);
}

-- one holds that comes back
pub counted_restore : (asks : List Ask) (a : Ask) (taken taken' : List ℕ) (used used' : ℕ) (sure sure' : Bool) → is_holding a.stage ≡ true
    → ((k : ℕ) → k < 32 → slice_index_or taken' k 0 ≡ slice_index_or taken k 0 + one_of k a) → length taken' ≡ length taken → (sure' ≡ true → sure ≡ true)
    → (sure' ≡ true → common a.needs used ≡ false) → (sure' ≡ true → used' ≡ bit_or used a.needs) → AreCounted asks taken used sure
    → AreCounted (asks ++ a ∷ []) taken' used' sure'
counted_restore asks a taken taken' used used' sure sure' holds more long was free is c = record {
  long = long ∙ c.long;
  each = λ k few. let before = c.each k few in let now = more k few in omega (arith, before, now, sum_by_push (one_of k) asks a);
  apart = λ s. all_pairs_push IsApart asks a (c.apart (was s)) (λ k d inside. λ p q.
      common_turned a.needs (get_or asks k d).needs
      (subst (λ (b : Ask). common a.needs b.needs ≡ false) (get_or_default asks k no_ask d inside)
      (new_apart asks used a.needs (sure_in_use asks taken used sure c (was s)) (free s) k inside
      (subst (λ (b : Ask). is_holding b.stage ≡ true) (get_or_default asks k d no_ask inside) p))));
  all = λ s.
      let mine : own a ≡ a.needs = ap (λ b. cond b a.needs 0) holds in
      let sum : bit_or used a.needs ≡ used + a.needs = or_disjoint used a.needs (and_comm used a.needs ∙ none_is a.needs used (free s)) in
      let before = c.all (was s) in let now = is s in omega (arith, before, now, sum, mine, sum_by_push own asks a);
}

-- one that holds is over
pub counted_end : (asks : List Ask) (j : ℕ) (a : Ask) (taken taken' : List ℕ) (used used' : ℕ) (sure : Bool) → j < length asks → is_holding a.stage ≡ false
    → ((k : ℕ) → k < 32 → slice_index_or taken' k 0 + one_of k (ask_at asks j) ≡ slice_index_or taken k 0) → length taken' ≡ length taken
    → (sure ≡ true → used' + own (ask_at asks j) ≡ used) → AreCounted asks taken used sure → AreCounted (set asks j a) taken' used' sure
counted_end asks j a taken taken' used used' sure inside not less long is c = record {
  long = long ∙ c.long;
  each = λ k few.
      let none : one_of k a ≡ 0 = ap (λ b. cond (b && a.class == k) 1 0) not in
      let before = c.each k few in let now = less k few in omega (arith, before, now, none, sum_by-set (one_of k) asks j a no_ask inside);
  apart = λ s. apart_set asks j a inside (λ i other in_i p q. absurd (false≢true (sym not ∙ p))) (c.apart s);
  all = λ s.
      let none : own a ≡ 0 = ap (λ b. cond b a.needs 0) not in
      let before = c.all s in let now = is s in omega (arith, before, now, none, sum_by-set own asks j a no_ask inside);
}

-- what it has is in the sum
pub own_in_sum : (asks : List Ask) (j : ℕ) (taken : List ℕ) (used : ℕ) (sure : Bool) → j < length asks → AreCounted asks taken used sure → sure ≡ true
    → own (ask_at asks j) ≤ used
own_in_sum asks j taken used sure inside c s = let before = c.all s in omega (arith, before, get_or-le-sum_by own asks j no_ask inside)

pub one_in_sum : (asks : List Ask) (j : ℕ) (taken : List ℕ) (used : ℕ) (sure : Bool) → j < length asks → AreCounted asks taken used sure
    → is_holding (ask_at asks j).stage ≡ true → (ask_at asks j).class < 32 → 0 < slice_index_or taken (ask_at asks j).class 0
one_in_sum asks j taken used sure inside c holds few =
    let a = ask_at asks j in
    let before = c.each a.class few in
    let one : one_of a.class a ≡ 1 = ap (λ b. cond (b && a.class == a.class) 1 0) holds ∙ ap (λ b. cond b 1 0) (eq-eqb a.class a.class refl) in
    omega (arith, before, one, get_or-le-sum_by (one_of a.class) asks j no_ask inside)

-- ---- the table

pub one_none : (k : ℕ) (a : Ask) → is_holding a.stage ≡ false → one_of k a ≡ 0
one_none k a not = ap (λ b. cond (b && a.class == k) 1 0) not

pub one_past : (k : ℕ) (a : Ask) → k < 32 → 32 ≤ a.class → one_of k a ≡ 0
one_past k a few past = ap (λ b. cond b 1 0) (past_is (is_holding a.stage) (a.class == k) (ne_eqb a.class k (λ same. omega (arith, same, few, past))))
  where
    past_is : (a b : Bool) → b ≡ false → (a && b) ≡ false
    past_is true b h = h
    past_is false b h = refl

one_same : (a : Ask) → is_holding a.stage ≡ true → one_of a.class a ≡ 1
one_same a holds = ap (λ b. cond (b && a.class == a.class) 1 0) holds ∙ ap (λ b. cond b 1 0) (eq-eqb a.class a.class refl)

one_other : (k : ℕ) (a : Ask) → is_holding a.stage ≡ true → (k ≡ a.class → ⊥) → one_of k a ≡ 0
one_other k a holds other =
    ap (λ b. cond (b && a.class == k) 1 0) holds ∙ ap (λ b. cond b 1 0) (ne_eqb a.class k (λ same. other (sym same)))

pub one_up : (taken : List ℕ) (a : Ask) (k : ℕ) → a.class < length taken → is_holding a.stage ≡ true
    → slice_index_or (set taken a.class (slice_index_or taken a.class 0 + 1)) k 0 ≡ slice_index_or taken k 0 + one_of k a
one_up taken a k inside holds =
    let more : ℕ = slice_index_or taken a.class 0 + 1 in
    elim (cases_eq k a.class) [
      | inl same ↦
          let here : slice_index_or (set taken a.class more) k 0 ≡ slice_index_or taken k 0 + 1 =
          subst (λ i. slice_index_or (set taken a.class more) i 0 ≡ slice_index_or taken i 0 + 1) (sym same) (get_or-set_same taken a.class more 0 inside) in
          let one : one_of k a ≡ 1 = subst (λ i. one_of i a ≡ 1) (sym same) (one_same a holds) in
          omega (arith, here, one)
      | inr other ↦
          let there : slice_index_or (set taken a.class more) k 0 ≡ slice_index_or taken k 0 = get_or-set_other taken a.class k more 0 other in
          omega (arith, there, one_other k a holds other)
    ]

pub one_down : (taken : List ℕ) (a : Ask) (k less : ℕ) → a.class < length taken → is_holding a.stage ≡ true → less + 1 ≡ slice_index_or taken a.class 0
    → slice_index_or (set taken a.class less) k 0 + one_of k a ≡ slice_index_or taken k 0
one_down taken a k less inside holds is = elim (cases_eq k a.class) [
  | inl same ↦
      let here : slice_index_or (set taken a.class less) k 0 + 1 ≡ slice_index_or taken k 0 =
      subst (λ i. slice_index_or (set taken a.class less) i 0 + 1 ≡ slice_index_or taken i 0) (sym same)
      (ap (λ n. n + 1) (get_or-set_same taken a.class less 0 inside) ∙ is) in
      let one : one_of k a ≡ 1 = subst (λ i. one_of i a ≡ 1) (sym same) (one_same a holds) in
      omega (arith, here, one)
  | inr other ↦
      let there : slice_index_or (set taken a.class less) k 0 ≡ slice_index_or taken k 0 = get_or-set_other taken a.class k less 0 other in
      omega (arith, there, one_other k a holds other)
]

-- there are no more of a class than asks
pub room_hold : (asks : List Ask) (j : ℕ) (a : Ask) (taken : List ℕ) (used : ℕ) (sure : Bool) → j < length asks → is_holding (ask_at asks j).stage ≡ false
    → is_holding a.stage ≡ true → AreCounted asks taken used sure → a.class < 32 → slice_index_or taken a.class 0 + 1 ≤ length asks
room_hold asks j a taken used sure inside waits holds c few =
    let before = c.each a.class few in let now = one_same a holds in let was = one_none a.class (ask_at asks j) waits in
    omega (
      arith,
      before,
      now,
      was,
      sum_by-set (one_of a.class) asks j a no_ask inside,
      count_by-le-length (holds_class a.class) (set asks j a),
      length-set asks j a,
    )

pub room_push : (asks : List Ask) (class : ℕ) (taken : List ℕ) (used : ℕ) (sure : Bool) → AreCounted asks taken used sure → class < 32
    → slice_index_or taken class 0 ≤ length asks
room_push asks class taken used sure c few = let before = c.each class few in omega (arith, before, count_by-le-length (holds_class class) asks)
