-- What of a wish is kept by its own ask alone.
use Rattle.std.proofs.Common.{◌≡◌, ◌≢◌, ◌⊎◌, ℕ, ◌+◌, ◌-◌, ◌<◌, Bool, true, false, ◌&&◌, not, nat_eq, List, length, sym, ap, ◌∙◌, subst, inl, inr, arith}
use Rattle.std.proofs.lemmas.Bool.{cases_eq, cases_Bool, false≢true, true≢false, and_parts, and_from, not-true, eq-eqb, ne_eqb}
use Rattle.bay_line.specs.declared.wish.Wish.{Wish}
use Rattle.bay_line.specs.Wishes.{wish_at, common, is_ready, is_kept}
use Rattle.bay_line.specs.Lines.{Rises}
use Rattle.bay_line.specs.Turns.{HasElder, HasReason, MayGoIn, AreKept, IsKeptBelow, MayKeep, is_free, holds_back, SaysHeldBack, SaysElder, SaysOnlyItsOwn, SaysAlone, SaysFirst, SaysLast, SaysMayGo}
use Rattle.bay_line.proofs.Keepers.{rises_at}

-- ---- the wishes of an ask stand next to one another

none_before : (ws : List Wish) (k : ℕ) → Rises ws → k < length ws → 0 < k → (wish_at ws (k - 1)).ask ≢ (wish_at ws k).ask → SaysFirst ws k true
none_before ws k rises inside some other i below e = elim (cases_eq i (k - 1)) [
  | inl same ↦ other (subst (λ j. (wish_at ws j).ask ≡ (wish_at ws k).ask) same e)
  | inr apart ↦
      let one = rises_at ws i (k - 1) rises (omega (arith, below, apart, some)) (omega (arith, inside, some)) in
      let two = rises_at ws (k - 1) k rises (omega (arith, some)) inside in other (omega (arith, one, two, e))
]

none_behind : (ws : List Wish) (k : ℕ) → Rises ws → k + 1 < length ws → (wish_at ws (k + 1)).ask ≢ (wish_at ws k).ask → SaysLast ws k true
none_behind ws k rises more other i inside behind e = elim (cases_eq i (k + 1)) [
  | inl same ↦ other (subst (λ j. (wish_at ws j).ask ≡ (wish_at ws k).ask) same e)
  | inr apart ↦
      let one = rises_at ws (k + 1) i rises (omega (arith, behind, apart)) inside in
      let two = rises_at ws k (k + 1) rises (omega arith) more in other (omega (arith, one, two, e))
]

differ : (a b : ℕ) → true ≡ not (nat_eq a b) → a ≢ b
differ a b h e = true≢false (h ∙ ap not (eq-eqb a b e))

pub says_first : (ws : List Wish) (k : ℕ) (b : Bool) → Rises ws → k < length ws → 0 < k → b ≡ not (nat_eq (wish_at ws (k - 1)).ask (wish_at ws k).ask)
    → SaysFirst ws k b
says_first ws k true rises inside some h = none_before ws k rises inside some (differ (wish_at ws (k - 1)).ask (wish_at ws k).ask h)
says_first ws k false rises inside some h = tt

pub says_last : (ws : List Wish) (k : ℕ) (b : Bool) → Rises ws → k + 1 < length ws → b ≡ not (nat_eq (wish_at ws (k + 1)).ask (wish_at ws k).ask)
    → SaysLast ws k b
says_last ws k true rises more h = none_behind ws k rises more (differ (wish_at ws (k + 1)).ask (wish_at ws k).ask h)
says_last ws k false rises more h = tt

-- ---- reasons

-- what is kept is kept by another, or somebody else stands before it and wants no more
kept_reason : (most in_use free : ℕ) (ws : List Wish) (k n kept : ℕ) → MayKeep most free ws k n → AreKept in_use ws (IsKeptBelow most free ws n) kept
    → common (wish_at ws k).needs kept ≡ true
    → ((i : ℕ) → i < n → is_kept most free (wish_at ws i) ≡ true → ((wish_at ws i).ask ≢ (wish_at ws k).ask) ⊎ HasElder most free ws k)
    → HasReason most in_use free ws k
kept_reason most in_use free ws k n kept m are shares from = elim (are.why (wish_at ws k).needs shares) [
  | inl used ↦ inr (inl used)
  | inr one ↦
      let few = m.few in
      inr (inr (one.0, (omega (arith, one.1.0, few), one.1.1, m.only one.0 one.1.0, from one.0 one.1.0 one.1.1), one.2))
]

alone_reason : (most in_use free : ℕ) (ws : List Wish) (k n kept : ℕ) → MayKeep most free ws k n → AreKept in_use ws (IsKeptBelow most free ws n) kept
    → common (wish_at ws k).needs kept ≡ true → SaysAlone ws k true → HasReason most in_use free ws k
alone_reason most in_use free ws k n kept m are shares alone = kept_reason most in_use free ws k n kept m are shares (λ i below it.
    let few = m.few in
    inl (alone i (omega (arith, below, few)) (λ same. elim (m.only i below) [
      | inl less ↦ omega (arith, less, same)
      | inr isnt ↦ false≢true (sym isnt ∙ subst (λ j. is_kept most free (wish_at ws j) ≡ true) same it)
    ])))

elder_reason : (most in_use free : ℕ) (ws : List Wish) (k n kept : ℕ) → MayKeep most free ws k n → AreKept in_use ws (IsKeptBelow most free ws n) kept
    → common (wish_at ws k).needs kept ≡ true → HasElder most free ws k → HasReason most in_use free ws k
elder_reason most in_use free ws k n kept m are shares elder = kept_reason most in_use free ws k n kept m are shares (λ i below it. inr elder)

held_reason : (most in_use free : ℕ) (ws : List Wish) (k n : ℕ) → MayKeep most free ws k n → SaysHeldBack most free ws k n true
    → HasReason most in_use free ws k
held_reason most in_use free ws k n m held =
    let few = m.few in let i = held.0 in let v = wish_at ws k in let w = wish_at ws i in
    let all = and_parts (is_kept most free w && not (nat_eq w.ask v.ask)) (common v.needs w.needs) held.2 in
    let two = and_parts (is_kept most free w) (not (nat_eq w.ask v.ask)) all.0 in
    inr (inr (
      i,
      (
        omega (arith, held.1, few),
        two.0,
        m.only i held.1,
        inl (λ e. true≢false (sym (eq-eqb w.ask v.ask e) ∙ not-true (nat_eq w.ask v.ask) two.1)),
      ),
      all.1,
    ))

-- ---- and none

pub nothing_kept : (most in_use free : ℕ) (ws : List Wish) (k n kept : ℕ) → MayKeep most free ws k n → AreKept in_use ws (IsKeptBelow most free ws n) kept
    → is_free in_use free (wish_at ws k) ≡ true → common (wish_at ws k).needs kept ≡ false → MayGoIn most in_use free ws k
nothing_kept most in_use free ws k n kept m are is_free none = record {
  ready = (and_parts (is_ready free (wish_at ws k)) _ is_free).0;
  unused = are.unused (wish_at ws k).needs none;
  not_kept = λ i keeps. are.apart (wish_at ws k).needs none i (m.each i keeps.0 keeps.2, keeps.1);
}

no_share : (most free : ℕ) (v w : Wish) → is_kept most free w ≡ true → w.ask ≢ v.ask → holds_back most free v w ≡ false → common v.needs w.needs ≡ false
no_share most free v w kept other h = elim (cases_Bool (common v.needs w.needs)) [
  | inr none ↦ none
  | inl shares ↦ absurd (false≢true (sym h ∙ and_from _ _ (and_from _ _ kept (ap not (ne_eqb w.ask v.ask other))) shares))
]

own_kept : (most in_use free : ℕ) (ws : List Wish) (k n : ℕ) → MayKeep most free ws k n → is_free in_use free (wish_at ws k) ≡ true
    → SaysHeldBack most free ws k n false → (HasElder most free ws k → ⊥) → MayGoIn most in_use free ws k
own_kept most in_use free ws k n m is_free held none =
    let parts = and_parts (is_ready free (wish_at ws k)) (not (common (wish_at ws k).needs in_use)) is_free in
    record {
      ready = parts.0;
      unused = not-true (common (wish_at ws k).needs in_use) parts.1;
      not_kept = λ i keeps. elim keeps.3 [
        | inl other ↦ no_share most free (wish_at ws k) (wish_at ws i) keeps.1 other (held i (m.each i keeps.0 keeps.2))
        | inr elder ↦ absurd (none elder)
      ];
    }

pub says_only_its_own : (most free : ℕ) (ws : List Wish) (k n : ℕ) (elder : Bool) → SaysHeldBack most free ws k n false → SaysElder most free ws k elder
    → SaysOnlyItsOwn most free ws k n (not elder)
says_only_its_own most free ws k n true held elder = inr (inr elder)
says_only_its_own most free ws k n false held none = (held, none)

pub says_may_go : (most in_use free : ℕ) (ws : List Wish) (k n kept : ℕ) (own : Bool) → MayKeep most free ws k n
    → AreKept in_use ws (IsKeptBelow most free ws n) kept → is_free in_use free (wish_at ws k) ≡ true → common (wish_at ws k).needs kept ≡ true
    → SaysOnlyItsOwn most free ws k n own → SaysMayGo most in_use free ws k own
says_may_go most in_use free ws k n kept true m are is_free shares own = own_kept most in_use free ws k n m is_free own.0 own.1
says_may_go most in_use free ws k n kept false m are is_free shares own = elim own [
  | inl alone ↦ alone_reason most in_use free ws k n kept m are shares alone
  | inr more ↦ elim more [
    | inl held ↦ held_reason most in_use free ws k n m held
    | inr elder ↦ elder_reason most in_use free ws k n kept m are shares elder
  ]
]
