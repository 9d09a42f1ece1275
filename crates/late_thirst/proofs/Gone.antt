-- Those who went in, as a set.
use Rattle.std.proofs.Common.{◌≡◌, ◌≢◌, ℕ, zero, suc, ◌+◌, ◌*◌, ◌%◌, ◌^◌, ◌<◌, ◌≤◌, ◌↔◌, bit_or, bit_and, Bool, true, false, ◌||◌, nat_eq, List, length, Option, Some, None, w32, arith, refl, sym, ap, inl, inr, subst, ◌∙◌, add-one}
use Rattle.std.proofs.Math.Bool.{or-false, or-true}
use Rattle.std.proofs.lemmas.Bool.{cases_eq, eq-eqb, ne_eqb, false≢true}
use Rattle.std.specs.Int.{bit_at}
use Rattle.std.specs.Int.Bits.{or_add_and}
use Rattle.std.proofs.Math.Pow.{pow-lt}
use Rattle.std.proofs.lemmas.Nat.{pow_pos}
use Rattle.std.proofs.lemmas.Nat.Bits.{bit_at_set_same, bit_at_set_other, and_pow, bit_at-lt}
use Rattle.lab_plan.specs.InstrumentSets.{holds}
use Rattle.lab_plan.proofs.Bits.{holds_none}
use Rattle.late_thirst.specs.declared.asker.Asker.{Asker}
use Rattle.late_thirst.specs.declared.asker.Reason.{Reason}
use Rattle.late_thirst.specs.declared.asker.Reason.TheVariants.{Passed, Free}
use Rattle.late_thirst.specs.Outside.{place, IsOutside, needs_of, IsDue, IsDueAt, NobodyIsDue, passed_at}
use Rattle.late_thirst.specs.LettingIn.{GoesIn, GoInPassed, AreGone, LetsIn}
use Rattle.late_thirst.proofs.Passing.{IsLike, none_stays, one_stays}

pub has_with : (set k i : ℕ) → k < 32 → holds (bit_or set (1 * 2 ^ k % 2 ^ 32)) i ≡ (holds set i || nat_eq k i)
unfolding holds
has_with set k i within = elim (cases_eq k i) [
  | inl h ↦ subst (λ n. nat_eq (bit_at (bit_or set (1 * 2 ^ k % 2 ^ 32)) n) 1 ≡ (nat_eq (bit_at set n) 1 || nat_eq k n)) h
      (rw (bit_at_set_same w32 set k within, eq-eqb k k refl) (sym (or-true (nat_eq (bit_at set k) 1))))
  | inr h ↦ rw (bit_at_set_other w32 set k within i (λ e. h (sym e)), ne_eqb k i h) (sym (or-false (nat_eq (bit_at set i) 1)))
]

pub shifted : (k : ℕ) → k < 32 → 1 * 2 ^ k % 2 ^ 32 ≡ 2 ^ k
shifted k small = let below : 2 ^ k < 2 ^ 32 = pow-lt small in omega (arith, below)

none_of : (n : ℕ) → 0 * n ≡ 0
none_of n = omega arith

-- a set grows by a member that it hasn't
pub grows : (set k : ℕ) → k < 32 → holds set k ≡ false → set < bit_or set (1 * 2 ^ k % 2 ^ 32)
unfolding holds
grows set k few out =
    let low = bit_at-lt set k in
    let not_in : bit_at set k ≡ 0 = elim (cases_eq (bit_at set k) 1) [
      | inl h ↦ absurd (false≢true (sym out ∙ eq-eqb (bit_at set k) 1 h))
      | inr h ↦ omega (arith, h, low)
    ] in
    let at : bit_and set (2 ^ k) ≡ bit_at set k * 2 ^ k = and_pow set k in
    let none : bit_and set (2 ^ k) ≡ 0 = at ∙ (ap (λ b. b * 2 ^ k) not_in ∙ none_of (2 ^ k)) in
    let sum : bit_or set (2 ^ k) + bit_and set (2 ^ k) ≡ set + 2 ^ k = or_add_and set (2 ^ k) in
    let one = pow_pos k in
    subst (λ n. set < bit_or set n) (sym (shifted k few)) (omega (arith, none, sum, one))

-- so many went in, one after another, and the set has just these; who is outside was so before
pub record GoneSoFar (most ready : ℕ) (old : List (Option Asker)) (set : ℕ) (new : List (Option Asker)) : Type 0 where
  pub as_many : length new ≡ length old
  pub many : ℕ
  pub one_by_one : GoInPassed most ready many old new
  pub gone : AreGone old set new
  pub before : (j : ℕ) → place old j ≡ None → place new j ≡ None
  pub some : set ≢ 0 → many ≢ 0

pub not_both : (o : Option Asker) (a : Asker) → o ≡ Some a → o ≡ None → ⊥
not_both o a some none = cc

pub nobody_yet : (most ready : ℕ) (old : List (Option Asker)) → GoneSoFar most ready old 0 old
nobody_yet most ready old = record {
  as_many = refl;
  many = 0;
  one_by_one = refl;
  gone = λ j. (λ h. absurd (false≢true (sym (holds_none j) ∙ h)), λ h. absurd (not_both (place old j) h.0.0 h.0.1 h.1));
  before = λ j none. none;
  some = λ h none. h refl;
}

some_case : (o : Option Asker) → ((a : Asker) → o ≡ Some a → ⊥) → o ≡ None
some_case None h = refl
some_case (Some a) h = absurd (h a refl)

not_true : (b : Bool) → (b ≡ true → ⊥) → b ≡ false
not_true true h = absurd (h refl)
not_true false h = refl

or_zero : (b : ℕ) → bit_or 0 b ≡ b
or_zero b = let sum : bit_or 0 b + bit_and 0 b ≡ 0 + b = or_add_and 0 b in omega (arith, sum)

-- one that is due is outside
pub due_is_outside : (reason : Reason) (o : Option Asker) → IsDue reason o → (a : Asker) × (o ≡ Some a)
due_is_outside (Passed most) (Some a) due = (a, refl)
due_is_outside (Free used) (Some a) due = (a, refl)
due_is_outside (Passed most) None due = absurd due
due_is_outside (Free used) None due = absurd due

-- who is outside after one went in was so before
pub outside_before : (most ready k : ℕ) (old new : List (Option Asker)) → GoesIn most ready k old new → (j : ℕ) → place old j ≡ None → place new j ≡ None
outside_before most ready k old new g j none = elim (cases_eq j k) [
  | inl same ↦ subst (λ i. place new i ≡ None) (sym same) g.inside
  | inr other ↦ g.others j other ∙ (ap (passed_at most ready (needs_of (place old k)) j) none ∙ none_stays most ready (needs_of (place old k)) j)
]

-- and who isn't outside any more is the one that went in, or wasn't before
pub only_one : (most ready k : ℕ) (old new : List (Option Asker)) → GoesIn most ready k old new → (j : ℕ) → j ≢ k → place new j ≡ None → place old j ≡ None
only_one most ready k old new g j other none =
    some_case (place old j) (λ a is.
    let stays = one_stays most ready (needs_of (place old k)) j a in
    not_both (place new j) stays.0 (g.others j other ∙ (ap (passed_at most ready (needs_of (place old k)) j) is ∙ stays.1)) none)

in_second : (a b : Bool) → b ≡ true → (a || b) ≡ true
in_second true b h = refl
in_second false b h = h

pub outside_if : (o : Option Asker) → (o ≡ None → ⊥) → (a : Asker) × (o ≡ Some a)
outside_if None h = absurd (h refl)
outside_if (Some a) h = (a, refl)

gone_more : (most ready k : ℕ) (old : List (Option Asker)) (set : ℕ) (mid new : List (Option Asker)) → k < 32 → IsOutside mid k → GoesIn most ready k mid new
    → ((j : ℕ) → place old j ≡ None → place mid j ≡ None) → AreGone old set mid → AreGone old (bit_or set (1 * 2 ^ k % 2 ^ 32)) new
gone_more most ready k old set mid new few out g before gone j =
    let with : ℕ = bit_or set (1 * 2 ^ k % 2 ^ 32) in
    elim (cases_eq j k) [
      | inl same ↦
          let was : IsOutside old k = outside_if (place old k) (λ none. not_both (place mid k) out.0 out.1 (before k none)) in
          subst (λ i. (holds with i ≡ true) ↔ (IsOutside old i × (place new i ≡ None))) (sym same) (
            (λ h. (was, g.inside)),
            (λ h. has_with set k k few ∙ in_second (holds set k) (nat_eq k k) (eq-eqb k k refl)),
          )
      | inr other ↦
          let is : holds with j ≡ holds set j = has_with set k j few ∙ (ap (λ b. holds set j || b) (ne_eqb k j (λ e. other (sym e))) ∙ or-false (holds set j)) in (
            (λ h. let p = (gone j).0 (sym is ∙ h) in (p.0, outside_before most ready k mid new g j p.1)),
            (λ h. is ∙ (gone j).1 (h.0, only_one most ready k mid new g j other h.1)),
          )
    ]

-- one more went in
pub one_more_gone : (most ready k : ℕ) (old : List (Option Asker)) (set : ℕ) (mid new : List (Option Asker)) → length mid ≤ 32 → k < length mid
    → IsDueAt (Passed most) ready mid k → GoesIn most ready k mid new → GoneSoFar most ready old set mid
    → GoneSoFar most ready old (bit_or set (1 * 2 ^ k % 2 ^ 32)) new
one_more_gone most ready k old set mid new few inside due g x = record {
  as_many = g.as_many ∙ x.as_many;
  many = x.many + 1;
  one_by_one = subst (λ n. GoInPassed most ready n old new) (sym (add-one x.many)) (mid, k, x.one_by_one, inside, due, g);
  gone = gone_more most ready k old set mid new (omega (arith, few, inside)) (due_is_outside (Passed most) (place mid k) due.1) g x.before x.gone;
  before = λ j none. outside_before most ready k mid new g j (x.before j none);
  some = λ h none. absurd (omega (arith, none));
}

-- whoever is outside isn't in the set
pub not_gone : (old : List (Option Asker)) (set : ℕ) (new : List (Option Asker)) (k : ℕ) → AreGone old set new → IsOutside new k → holds set k ≡ false
not_gone old set new k gone out = not_true (holds set k) (λ h. not_both (place new k) out.0 out.1 ((gone k).0 h).1)

-- one that went in alone
pub alone_gone : (most ready k : ℕ) (old new : List (Option Asker)) → k < 32 → IsOutside old k → GoesIn most ready k old new → AreGone old (1 * 2 ^ k % 2 ^ 32) new
alone_gone most ready k old new few out g =
    subst (λ n. AreGone old n new) (or_zero (1 * 2 ^ k % 2 ^ 32))
    (gone_more most ready k old 0 old new few out g (λ j none. none) (nobody_yet most ready old).gone)

same_needs : (a b : Asker) (x : Option Asker) → x ≡ Some b → IsLike a x → a.needs ≡ b.needs
same_needs a b x is like = let same : like.0 ≡ b = cc in sym like.3 ∙ ap (λ (y : Asker). y.needs) same

-- whoever stays after one went in was outside before, and needs the same
one_like : (most ready k : ℕ) (old new : List (Option Asker)) → GoesIn most ready k old new → (j : ℕ) (a : Asker) → place new j ≡ Some a
    → (b : Asker) × (place old j ≡ Some b) × (b.needs ≡ a.needs)
one_like most ready k old new g j a at = elim (cases_eq j k) [
  | inl same ↦ absurd (not_both (place new j) a at (subst (λ i. place new i ≡ None) (sym same) g.inside))
  | inr other ↦
      let was = outside_if (place old j) (λ none. not_both (place new j) a at (outside_before most ready k old new g j none)) in
      let moved = g.others j other ∙ ap (passed_at most ready (needs_of (place old k)) j) was.1 in
      (was.0, was.1, same_needs was.0 a (passed_at most ready (needs_of (place old k)) j (Some was.0)) (sym moved ∙ at) (one_stays most ready (needs_of (place old k)) j was.0))
]

pub chain_before : (most ready n : ℕ) (old new : List (Option Asker)) → GoInPassed most ready n old new → (j : ℕ) → place old j ≡ None → place new j ≡ None
chain_before most ready zero old new is j none = ap (λ (l : List (Option Asker)). place l j) is ∙ none
chain_before most ready (suc n) old new (mid, k, chain, inside, due, g) j none =
    outside_before most ready k mid new g j (chain_before most ready n old mid chain j none)

-- if the set is empty, nobody went in
pub nobody_went : (most ready n : ℕ) (old new : List (Option Asker)) → AreGone old 0 new → GoInPassed most ready n old new → new ≡ old
nobody_went most ready zero old new gone is = is
nobody_went most ready (suc n) old new gone (mid, k, chain, inside, due, g) =
    let out = due_is_outside (Passed most) (place mid k) due.1 in
    let was : IsOutside old k = outside_if (place old k) (λ none. not_both (place mid k) out.0 out.1 (chain_before most ready n old mid chain k none)) in
    absurd (false≢true (sym (holds_none k) ∙ (gone k).1 (was, g.inside)))

chain_length : (most ready n : ℕ) (old new : List (Option Asker)) → GoInPassed most ready n old new → length new ≡ length old
chain_length most ready zero old new is = ap (λ (l : List (Option Asker)). length l) is
chain_length most ready (suc n) old new (mid, k, chain, inside, due, g) = g.as_many ∙ chain_length most ready n old mid chain

pub as_many_after : (most ready used : ℕ) (old : List (Option Asker)) (set : ℕ) (new : List (Option Asker)) → LetsIn most ready used old set new
    → length new ≡ length old
as_many_after most ready used old set new (inl (some, p)) = chain_length most ready p.many old new p.one_by_one
as_many_after most ready used old set new (inr (inl (none, k, first, g, gone))) = g.as_many
as_many_after most ready used old set new (inr (inr (none, free, is, same))) = ap (λ (l : List (Option Asker)). length l) same

last_in : (most ready n : ℕ) (old new : List (Option Asker)) → n ≢ 0 → GoInPassed most ready n old new → (k : ℕ) × IsOutside old k × (place new k ≡ None)
last_in most ready zero old new some chain = absurd (some refl)
last_in most ready (suc n) old new some (mid, k, chain, inside, due, g) =
    let out = due_is_outside (Passed most) (place mid k) due.1 in
    (k, outside_if (place old k) (λ none. not_both (place mid k) out.0 out.1 (chain_before most ready n old mid chain k none)), g.inside)

-- somebody went in, if the set isn't empty
pub somebody_in : (most ready used : ℕ) (old : List (Option Asker)) (set : ℕ) (new : List (Option Asker)) → set ≢ 0 → LetsIn most ready used old set new
    → (k : ℕ) × IsOutside old k × (place new k ≡ None)
somebody_in most ready used old set new some (inl (not_none, p)) = last_in most ready p.many old new (p.some some) p.one_by_one
somebody_in most ready used old set new some (inr (inl (none, k, first, g, gone))) = (k, due_is_outside (Free used) (place old k) first.1.1, g.inside)
somebody_in most ready used old set new some (inr (inr (none, free, is, same))) = absurd (some is)

-- and whoever is outside was so before
pub before_in : (most ready used : ℕ) (old : List (Option Asker)) (set : ℕ) (new : List (Option Asker)) → LetsIn most ready used old set new
    → (j : ℕ) → place old j ≡ None → place new j ≡ None
before_in most ready used old set new (inl (not_none, p)) j none = chain_before most ready p.many old new p.one_by_one j none
before_in most ready used old set new (inr (inl (none_due, k, first, g, gone))) j none = outside_before most ready k old new g j none
before_in most ready used old set new (inr (inr (none_due, free, is, same))) j none = ap (λ (l : List (Option Asker)). place l j) same ∙ none

-- an empty set says that nobody is due
pub nobody_in : (most ready used : ℕ) (old new : List (Option Asker)) → LetsIn most ready used old 0 new
    → NobodyIsDue (Passed most) ready old × NobodyIsDue (Free used) ready old × (new ≡ old)
nobody_in most ready used old new (inl (not_none, p)) = absurd (not_none refl)
nobody_in most ready used old new (inr (inl (none, k, first, g, gone))) =
    absurd (false≢true (sym (holds_none k) ∙ (gone k).1 (due_is_outside (Free used) (place old k) first.1.1, g.inside)))
nobody_in most ready used old new (inr (inr (none, free, is, same))) = (none, free, same)

-- whoever went in is in the set
pub are_gone : (most ready used : ℕ) (old : List (Option Asker)) (set : ℕ) (new : List (Option Asker)) → LetsIn most ready used old set new
    → (k : ℕ) → holds set k ≡ true → IsOutside old k × (place new k ≡ None)
are_gone most ready used old set new (inl (not_none, p)) k h = (p.gone k).0 h
are_gone most ready used old set new (inr (inl (none, j, first, g, gone))) k h = (gone k).0 h
are_gone most ready used old set new (inr (inr (none, free, is, same))) k h = absurd (false≢true (sym (holds_none k) ∙ subst (λ n. holds n k ≡ true) is h))

in_chain : (most ready n : ℕ) (old new : List (Option Asker)) → GoInPassed most ready n old new → (k : ℕ) → IsOutside old k → place new k ≡ None → holds ready k ≡ true
in_chain most ready zero old new is k out none = absurd (not_both (place old k) out.0 out.1 (ap (λ (l : List (Option Asker)). place l k) (sym is) ∙ none))
in_chain most ready (suc n) old new (mid, i, chain, inside, due, g) k out none = elim (cases_eq k i) [
  | inl same ↦ subst (λ j. holds ready j ≡ true) (sym same) due.0
  | inr other ↦ in_chain most ready n old mid chain k out (only_one most ready i mid new g k other none)
]

-- and is one of `ready`
pub were_ready : (most ready used : ℕ) (old : List (Option Asker)) (set : ℕ) (new : List (Option Asker)) → LetsIn most ready used old set new
    → (k : ℕ) → holds set k ≡ true → holds ready k ≡ true
were_ready most ready used old set new (inl (not_none, p)) k h = let g = (p.gone k).0 h in in_chain most ready p.many old new p.one_by_one k g.0 g.1
were_ready most ready used old set new (inr (inl (none, j, first, g, gone))) k h = elim (cases_eq k j) [
  | inl same ↦ subst (λ i. holds ready i ≡ true) (sym same) first.1.0
  | inr other ↦ let was = (gone k).0 h in absurd (not_both (place old k) was.0.0 was.0.1 (only_one most ready j old new g k other was.1))
]
were_ready most ready used old set new (inr (inr (none, free, is, same))) k h = absurd (false≢true (sym (holds_none k) ∙ subst (λ n. holds n k ≡ true) is h))

-- ---- whoever stays needs the same

chain_like : (most ready n : ℕ) (old new : List (Option Asker)) → GoInPassed most ready n old new → (j : ℕ) (a : Asker) → place new j ≡ Some a
    → (b : Asker) × (place old j ≡ Some b) × (b.needs ≡ a.needs)
chain_like most ready zero old new is j a at = (a, ap (λ (l : List (Option Asker)). place l j) (sym is) ∙ at, refl)
chain_like most ready (suc n) old new (mid, k, chain, inside, due, g) j a at =
    let one = one_like most ready k mid new g j a at in
    let before = chain_like most ready n old mid chain j one.0 one.1 in (before.0, before.1, before.2 ∙ one.2)

pub like_before : (most ready used : ℕ) (old : List (Option Asker)) (set : ℕ) (new : List (Option Asker)) → LetsIn most ready used old set new
    → (j : ℕ) (a : Asker) → place new j ≡ Some a → (b : Asker) × (place old j ≡ Some b) × (b.needs ≡ a.needs)
like_before most ready used old set new (inl (not_none, p)) j a at = chain_like most ready p.many old new p.one_by_one j a at
like_before most ready used old set new (inr (inl (none, k, first, g, gone))) j a at = one_like most ready k old new g j a at
like_before most ready used old set new (inr (inr (none, free, is, same))) j a at = (a, ap (λ (l : List (Option Asker)). place l j) (sym same) ∙ at, refl)
