-- For whom an instrument is kept from an ask.
use Rattle.std.proofs.Common.{◌≡◌, ◌≢◌, ◌⊎◌, ℕ, zero, suc, ◌<◌, ◌≤◌, Bool, true, false, ◌&&◌, ◌||◌, not, nat_eq, nat_lt, List, [], ◌∷◌, length, refl, sym, ap, ◌∙◌, subst, inl, inr, arith}
use Rattle.std.proofs.lemmas.Bool.{false≢true, true≢false, and_parts, and_from, or_cases, not-true, ltb-true, lt-ltb, eqb-true, eq-eqb, ne_eqb}
use Rattle.bay_line.specs.declared.wish.Wish.{Wish}
use Rattle.bay_line.specs.Wishes.{wish_at, is_kept}
use Rattle.bay_line.specs.Lines.{Above, Rises}
use Rattle.bay_line.specs.Keepers.{has, IsKeptFor, is_behind, SaysBehind, keeps}
use Rattle.bay_line.proofs.Kept.{with_true}

above_at : (n : ℕ) (ws : List Wish) (k : ℕ) → Above n ws → k < length ws → n ≤ (wish_at ws k).ask
above_at n [] k h inside = absurd (omega (arith, inside))
above_at n (w ∷ ws) zero h inside = h.0
above_at n (w ∷ ws) (suc k) h inside = above_at n ws k h.1 (omega (arith, inside))

pub rises_at : (ws : List Wish) (i k : ℕ) → Rises ws → i < k → k < length ws → (wish_at ws i).ask ≤ (wish_at ws k).ask
rises_at [] i k h below inside = absurd (omega (arith, inside))
rises_at (w ∷ ws) i zero h below inside = absurd (omega (arith, below))
rises_at (w ∷ ws) zero (suc k) h below inside = above_at w.ask ws k h.0 (omega (arith, inside))
rises_at (w ∷ ws) (suc i) (suc k) h below inside = rises_at ws i k h.1 (omega (arith, below)) (omega (arith, inside))

-- whoever is found so keeps it
pub is_kept_for : (most free : ℕ) (ws : List Wish) (ask x : ℕ) (behind : Bool) (i : ℕ) → i < length ws → SaysBehind most free ws ask x behind
    → keeps most free ask x behind (wish_at ws i) ≡ true → IsKeptFor most free ws ask x i
is_kept_for most free ws ask x behind i inside says h =
    let w = wish_at ws i in
    let all = and_parts (is_kept most free w && has w.needs x) _ h in let two = and_parts (is_kept most free w) (has w.needs x) all.0 in
    elim (or_cases (nat_lt w.ask ask) _ all.1) [
      | inl before ↦
          let less = ltb-true w.ask ask before in
          record { inside = inside; needs = two.1; kept = two.0; another = λ e. omega (arith, e, less); from = inl less }
      | inr other ↦
          let both = and_parts behind _ other in
          let it : SaysBehind most free ws ask x true = subst (SaysBehind most free ws ask x) both.0 says in
          let v = wish_at ws it.0 in
          let a = and_parts (nat_eq v.ask ask && has v.needs x) _ it.2 in let b = and_parts (nat_eq v.ask ask) (has v.needs x) a.0 in
          let another : w.ask ≢ ask = λ e. true≢false (sym (eq-eqb w.ask ask e) ∙ not-true (nat_eq w.ask ask) both.1) in
          let its : v.ask ≡ ask = eqb-true v.ask ask b.0 in
          record {
            inside = inside;
            needs = two.1;
            kept = two.0;
            another = another;
            from = inr (
              it.0,
              record { inside = it.1; its = its; needs = b.1 },
              (inside, two.0, inr (not-true (is_kept most free v) a.1), inl (λ e. another (e ∙ its))),
            );
          }
    ]

-- and whoever keeps it is found so
is_so : (most free : ℕ) (ws : List Wish) (ask x : ℕ) (behind : Bool) (k : ℕ) → SaysBehind most free ws ask x behind → k < length ws
    → is_behind most free ask x (wish_at ws k) ≡ true → behind ≡ true
is_so most free ws ask x true k says inside h = refl
is_so most free ws ask x false k says inside h = absurd (false≢true (sym (says k inside) ∙ h))

before : (most free : ℕ) (ws : List Wish) (ask x : ℕ) (behind : Bool) (i : ℕ) → Rises ws → SaysBehind most free ws ask x behind → IsKeptFor most free ws ask x i
    → ((wish_at ws i).ask < ask) ⊎ (behind ≡ true)
before most free ws ask x behind i rises says h = elim h.from [
  | inl less ↦ inl less
  | inr one ↦ elim one.2.2 [
    | inl stands ↦
        let le = rises_at ws i one.0 rises stands one.1.inside in let its = one.1.its in let ne = h.another in inl (omega (arith, le, its, ne))
    | inr isnt ↦ inr (is_so most free ws ask x behind one.0 says one.1.inside (and_from _ _ (and_from _ _ (eq-eqb _ _ one.1.its) one.1.needs) (ap not isnt)))
  ]
]

pub is_found : (most free : ℕ) (ws : List Wish) (ask x : ℕ) (behind : Bool) (i : ℕ) → Rises ws → SaysBehind most free ws ask x behind
    → IsKeptFor most free ws ask x i → keeps most free ask x behind (wish_at ws i) ≡ true
is_found most free ws ask x behind i rises says h =
    let w = wish_at ws i in
    let last : (nat_lt w.ask ask || behind && not (nat_eq w.ask ask)) ≡ true = elim (before most free ws ask x behind i rises says h) [
      | inl less ↦ ap (λ c. c || behind && not (nat_eq w.ask ask)) (lt-ltb w.ask ask less)
      | inr is ↦
          ap (λ c. nat_lt w.ask ask || c) (and_from behind (not (nat_eq w.ask ask)) is (ap not (ne_eqb w.ask ask h.another)))
          ∙ with_true (nat_lt w.ask ask)
    ] in
    and_from _ _ (and_from _ _ h.kept h.needs) last
