-- Those that hold stay apart, and no more of them hold than are let.
use Rattle.std.proofs.Common.{◌≡◌, ◌≢◌, ◌⊎◌, ℕ, ◌+◌, ◌<◌, ◌≤◌, ◌==◌, Bool, true, false, not, nat_eq, min, List, [], ◌∷◌, length, map, set, get_or, Option, None, Some, refl, sym, ap, ◌∙◌, subst, inl, inr, arith, length-set}
use Rattle.std.specs.List.{count_by}
use Rattle.std.proofs.lemmas.Bool.{cases_eq, false≢true, leb-false}
use Rattle.std.proofs.lemmas.Nat.{and_comm}
use Rattle.std.proofs.lemmas.List.{get_or-set_same, get_or-set_other, get_or_default, get_or-map, length-map}
use Rattle.std.proofs.lemmas.List.Quantifiers.{all_pairs_push}
use Rattle.std.proofs.lemmas.List.Kept.{AllPairs-filter}
use Rattle.std.proofs.lemmas.List.Sums.{sum_by-cons}
use Rattle.bay_book.specs.declared.ask.Ask.{Ask}
use Rattle.bay_book.specs.Asks.{no_ask, ask_at, is_holding, holds_class, asker, holding, over, gone_since, back_again, given, turned, hearing, is_done}
use Rattle.bay_book.specs.Moments.{common, is_past, sooner, until, kept_until, limit_due_at}
use Rattle.bay_book.specs.Runs.Call.{Add, Hold, Finish, SetGone, IsBack, Give, Turn, Reach, Tell, Purge}
use Rattle.bay_book.specs.Holding.{IsApart, AreApart, StaysApart, TakesAtMost, DueIsToCome, LimitIsToCome}
use Rattle.bay_book.proofs.Counts.{number_of, count_set, count_push, count_kept}
use Rattle.bay_book.proofs.Least.{some_is, le_or}

-- ---- apart

pub common_turned : (a b : ℕ) → common a b ≡ false → common b a ≡ false
common_turned a b h = ap (λ n. not (nat_eq n 0)) (and_comm b a) ∙ h

-- one is changed, and is apart from all others
pub apart_set : (asks : List Ask) (j : ℕ) (a : Ask) → j < length asks
    → ((i : ℕ) → i ≢ j → i < length asks → is_holding a.stage ≡ true → is_holding (ask_at asks i).stage ≡ true → common a.needs (ask_at asks i).needs ≡ false)
    → AreApart asks → AreApart (set asks j a)
apart_set asks j a inside new h i k d less within =
    let in_k : k < length asks = omega (arith, within, length-set asks j a) in
    let in_i : i < length asks = omega (arith, in_k, less) in
    let unchanged : (n : ℕ) → n ≢ j → get_or (set asks j a) n d ≡ get_or asks n d = λ n other. get_or-set_other asks j n a d other in
    let changed : get_or (set asks j a) j d ≡ a = get_or-set_same asks j a d inside in
    elim (cases_eq i j) [
      | inl same ↦
          let other : k ≢ j = λ is. omega (arith, is, same, less) in
          let there : get_or (set asks j a) k d ≡ ask_at asks k = unchanged k other ∙ get_or_default asks k d no_ask in_k in
          let here : get_or (set asks j a) i d ≡ a = ap (λ n. get_or (set asks j a) n d) same ∙ changed in
          subst (λ (p : Ask). IsApart p (get_or (set asks j a) k d)) (sym here)
          (subst (λ (p : Ask). IsApart a p) (sym there) (λ x y. new k other in_k x y))
      | inr other_i ↦ elim (cases_eq k j) [
        | inl same ↦
            let there : get_or (set asks j a) i d ≡ ask_at asks i = unchanged i other_i ∙ get_or_default asks i d no_ask in_i in
            let here : get_or (set asks j a) k d ≡ a = ap (λ n. get_or (set asks j a) n d) same ∙ changed in
            subst (λ (p : Ask). IsApart (get_or (set asks j a) i d) p) (sym here)
            (subst (λ (p : Ask). IsApart p a) (sym there) (λ x y. common_turned a.needs (ask_at asks i).needs (new i other_i in_i y x)))
        | inr other_k ↦
            subst (λ (p : Ask). IsApart p (get_or (set asks j a) k d)) (sym (unchanged i other_i))
            (subst (λ (p : Ask). IsApart (get_or asks i d) p) (sym (unchanged k other_k)) (h i k d less in_k))
      ]
    ]

-- apart, whichever stands first
pub apart_either : (asks : List Ask) (i j : ℕ) → i ≢ j → i < length asks → j < length asks → AreApart asks → is_holding (ask_at asks j).stage ≡ true
    → is_holding (ask_at asks i).stage ≡ true → common (ask_at asks j).needs (ask_at asks i).needs ≡ false
apart_either asks i j other in_i in_j h hold_j hold_i = elim (less_or_more i j other) [
  | inl less ↦ common_turned (ask_at asks i).needs (ask_at asks j).needs (h i j no_ask less in_j hold_i hold_j)
  | inr more ↦ h j i no_ask more in_i hold_j hold_i
]
  where
    less_or_more : (a b : ℕ) → a ≢ b → (a < b) ⊎ (b < a)
    less_or_more a b e = grind (arith, e)

pub apart_give : (asks : List Ask) (at : ℕ) → AreApart asks → AreApart (map (given at) asks)
apart_give asks at h i k d less within =
    let in_k : k < length asks = omega (arith, within, length-map asks (given at)) in
    let in_i : i < length asks = omega (arith, in_k, less) in
    subst (λ (p : Ask). IsApart p (get_or (map (given at) asks) k d)) (sym (get_or-map (given at) asks i d d in_i))
    (subst (λ (p : Ask). IsApart (given at (get_or asks i d)) p) (sym (get_or-map (given at) asks k d d in_k)) (λ x y. h i k d less in_k x y))

pub apart_turn : (asks : List Ask) (at : ℕ) → AreApart asks → AreApart (map (turned at) asks)
apart_turn asks at h i k d less within =
    let in_k : k < length asks = omega (arith, within, length-map asks (turned at)) in
    let in_i : i < length asks = omega (arith, in_k, less) in
    subst (λ (p : Ask). IsApart p (get_or (map (turned at) asks) k d)) (sym (get_or-map (turned at) asks i d d in_i))
    (subst (λ (p : Ask). IsApart (turned at (get_or asks i d)) p) (sym (get_or-map (turned at) asks k d d in_k)) (λ x y. h i k d less in_k x y))

pub stays_apart : StaysApart
stays_apart x (Add number class owner deadline limit now) ok free h =
    all_pairs_push IsApart x.asks (asker number class owner deadline limit now) h (λ k d inside. λ p q. absurd (false≢true q))
stays_apart x (Hold place needs now keeps) ok free h =
    apart_set x.asks place (holding needs now keeps (x.granted + 1) (ask_at x.asks place)) ok.0 (λ i other in_i p q. free i in_i q) h
stays_apart x (Finish place how now) ok free h = apart_set x.asks place (over how now (ask_at x.asks place)) ok.0 (λ i other in_i p q. absurd (false≢true p)) h
stays_apart x (SetGone place moment) inside free h =
    apart_set x.asks place (gone_since moment (ask_at x.asks place)) inside (λ i other in_i p q. apart_either x.asks i place other in_i inside h p q) h
stays_apart x (IsBack place) inside free h =
    apart_set x.asks place (back_again (ask_at x.asks place)) inside (λ i other in_i p q. apart_either x.asks i place other in_i inside h p q) h
stays_apart x (Give at) ok free h = apart_give x.asks at h
stays_apart x (Turn at) ok free h = apart_turn x.asks at h
stays_apart x (Reach position) ok free h = h
stays_apart x (Tell place what) ok free h =
    apart_set x.asks place (hearing what (ask_at x.asks place)) ok.0 (λ i other in_i p q. apart_either x.asks i place other in_i ok.0 h p q) h
stays_apart x Purge ok free h = AllPairs-filter IsApart (λ a. not (is_done a)) x.asks h

-- ---- how many

count_give : (class at : ℕ) (asks : List Ask) → count_by (holds_class class) (map (given at) asks) ≡ count_by (holds_class class) asks
count_give class at [] = refl
count_give class at (a ∷ asks) =
    let f : Ask → ℕ = λ b. number_of (holds_class class b) in
    let rest = count_give class at asks in
    omega (arith, rest, sum_by-cons f a asks, sum_by-cons f (given at a) (map (given at) asks))

count_turn : (class at : ℕ) (asks : List Ask) → count_by (holds_class class) (map (turned at) asks) ≡ count_by (holds_class class) asks
count_turn class at [] = refl
count_turn class at (a ∷ asks) =
    let f : Ask → ℕ = λ b. number_of (holds_class class b) in
    let rest = count_turn class at asks in
    omega (arith, rest, sum_by-cons f a asks, sum_by-cons f (turned at a) (map (turned at) asks))

one_more : (a : Ask) (class needs now : ℕ) (keeps : Bool) (token : ℕ)
    → number_of (holds_class class (holding needs now keeps token a)) ≤ number_of (holds_class class a) + number_of (a.class == class)
one_more a class needs now keeps token = omega arith

pub takes_at_most : TakesAtMost
takes_at_most x (Add number k owner deadline limit now) ok class =
    omega (arith, count_push (holds_class class) x.asks (asker number k owner deadline limit now))
takes_at_most x (Hold place needs now keeps) ok class =
    let a = ask_at x.asks place in
    count_set (holds_class class) x.asks place (holding needs now keeps (x.granted + 1) a) (number_of (a.class == class)) ok.0
    (one_more a class needs now keeps (x.granted + 1))
takes_at_most x (Finish place how now) ok class = count_set (holds_class class) x.asks place (over how now (ask_at x.asks place)) 0 ok.0 (omega arith)
takes_at_most x (SetGone place moment) inside class =
    count_set (holds_class class) x.asks place (gone_since moment (ask_at x.asks place)) 0 inside (omega arith)
takes_at_most x (IsBack place) inside class = count_set (holds_class class) x.asks place (back_again (ask_at x.asks place)) 0 inside (omega arith)
takes_at_most x (Give at) ok class = omega (arith, count_give class at x.asks)
takes_at_most x (Turn at) ok class = omega (arith, count_turn class at x.asks)
takes_at_most x (Reach position) ok class = omega arith
takes_at_most x (Tell place what) ok class = count_set (holds_class class) x.asks place (hearing what (ask_at x.asks place)) 0 ok.0 (omega arith)
takes_at_most x Purge ok class = let k = count_kept (holds_class class) (λ a. not (is_done a)) x.asks in omega (arith, k)

-- ---- moments to come

not_past : (now m : ℕ) (o : Option ℕ) → o ≡ Some m → is_past now o ≡ false → now < m
not_past now m o is h = leb-false m now (ap (is_past now) (sym is) ∙ h)

either_is : (a b : Option ℕ) (m : ℕ) → sooner a b ≡ Some m → (a ≡ Some m) ⊎ (b ≡ Some m)
either_is None None m h = inl h
either_is None (Some b) m h = inr h
either_is (Some a) None m h = inl h
either_is (Some a) (Some b) m h =
    let least : min a b ≡ m = some_is (min a b) m h in
    elim (le_or a b) [
      | inl le ↦ inl (ap Some (omega (arith, least, le)))
      | inr le ↦ inr (ap Some (omega (arith, least, le)))
    ]

pub due_is_to_come : DueIsToCome
due_is_to_come asks now durable m grace disk late gone least =
    let j = least.0.0 in let a = ask_at asks j in
    elim (either_is (until durable disk a) (kept_until grace a) m least.0.2) [
      | inl is ↦ not_past now m (until durable disk a) is (late j least.0.1)
      | inr is ↦ not_past now m (kept_until grace a) is (gone j least.0.1)
    ]

pub limit_is_to_come : LimitIsToCome
limit_is_to_come asks now m wanted full over_limit least =
    let j = least.0.0 in not_past now m (limit_due_at wanted full (ask_at asks j)) least.0.2 (over_limit j least.0.1)
