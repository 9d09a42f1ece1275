-- Of those that may be let in only those matter that are outside; and who is outside afterwards, as a set.
use Rattle.std.proofs.Common.{◌≡◌, ℕ, zero, suc, ◌+◌, ◌*◌, ◌%◌, ◌^◌, ◌<◌, ◌≤◌, ◌↔◌, ◌==◌, bit_and, bit_or, bit_xor, min, Bool, true, false, ◌||◌, nat_eq, if◌then◌else◌, List, length, replicate, Option, Some, None, set, get_or-set_same, get_or-set_other, w32, arith, refl, sym, ap, inl, inr, subst, ◌∙◌}
use Rattle.std.proofs.Math.Bool.{or-false}
use Rattle.std.proofs.lemmas.Bool.{cases_Bool, cases_eq, cases_lt, eq-eqb, ne_eqb, false≢true}
use Rattle.std.proofs.lemmas.List.{get_or_past}
use Rattle.std.specs.Int.{bit_at, bit_not}
use Rattle.std.proofs.lemmas.Nat.Bits.{bit_at_and, bit_at_xor, bit_at-lt, bit_at_clear_same, bit_at_clear_other}
use Rattle.lab_plan.specs.InstrumentSets.{holds}
use Rattle.lab_plan.proofs.Bits.{bit_cases, holds_none}
use Rattle.late_thirst.specs.declared.asker.Asker.{Asker}
use Rattle.late_thirst.specs.declared.asker.Reason.{Reason}
use Rattle.late_thirst.specs.declared.asker.Reason.TheVariants.{Passed, Free}
use Rattle.late_thirst.specs.Outside.{place, IsOutside, AreOutside, needs_of, IsDueAt, NobodyIsDue, IsFirst, passed_by, passed_at}
use Rattle.late_thirst.specs.LettingIn.{GoesIn, GoInPassed, AreGone, LetsIn}
use Rattle.late_thirst.proofs.NextIn.{one_holds, zero_lacks}
use Rattle.late_thirst.proofs.Passing.{none_stays}
use Rattle.late_thirst.proofs.Gone.{not_both, has_with, due_is_outside, outside_if, chain_before, before_in}

-- ---- bits

test_is : (n : ℕ) → (n == 1) ≡ true → n ≡ 1
test_is n h = elim (cases_eq n 1) [ inl is ↦ is | inr other ↦ absurd (false≢true (sym (ne_eqb n 1 other) ∙ h)) ]

holds_one : (a j : ℕ) → holds a j ≡ true → bit_at a j ≡ 1
unfolding holds
holds_one a j h = test_is (bit_at a j) h

lacks_one : (a j : ℕ) → holds a j ≡ false → bit_at a j ≡ 0
lacks_one a j h = elim (bit_cases a j) [ inl is ↦ is | inr one ↦ absurd (false≢true (sym h ∙ one_holds a j one)) ]

least : (x y : ℕ) → x < 2 → y ≡ 1 → min x y ≡ x
least x y p q = omega (arith, p, q)

and_one : (a b j : ℕ) → holds b j ≡ true → holds (bit_and a b) j ≡ holds a j
unfolding holds
and_one a b j h = ap (λ n. n == 1) (bit_at_and a b j ∙ least (bit_at a j) (bit_at b j) (bit_at-lt a j) (holds_one b j h))

odd : (x y : ℕ) → x < 2 → y ≡ 0 → (x + y) % 2 ≡ x
odd x y p q = omega (arith, p, q)

even : (x y : ℕ) → x ≡ 1 → y ≡ 1 → (x + y) % 2 ≡ 0
even x y p q = omega (arith, p, q)

xor_out : (a b j : ℕ) → holds b j ≡ false → holds (bit_xor a b) j ≡ holds a j
unfolding holds
xor_out a b j h = ap (λ n. n == 1) (bit_at_xor a b j ∙ odd (bit_at a j) (bit_at b j) (bit_at-lt a j) (lacks_one b j h))

xor_in : (a b j : ℕ) → holds a j ≡ true → holds b j ≡ true → holds (bit_xor a b) j ≡ false
xor_in a b j p q = zero_lacks (bit_xor a b) j (bit_at_xor a b j ∙ even (bit_at a j) (bit_at b j) (holds_one a j p) (holds_one b j q))

none_least : (x y : ℕ) → x ≡ 0 → min x y ≡ 0
none_least x y p = omega (arith, p)

pub without_same : (a k : ℕ) → k < 32 → holds (bit_and a (bit_not w32 (1 * 2 ^ k % 2 ^ 32))) k ≡ false
without_same a k few = zero_lacks (bit_and a (bit_not w32 (1 * 2 ^ k % 2 ^ 32))) k (bit_at_clear_same w32 a k few)

pub without_other : (a k j : ℕ) → k < 32 → (32 ≤ j → holds a j ≡ false) → (j ≡ k → ⊥) → holds (bit_and a (bit_not w32 (1 * 2 ^ k % 2 ^ 32))) j ≡ holds a j
unfolding holds
without_other a k j few past other = ap (λ n. n == 1) (elim (cases_lt j 32) [
  | inl low ↦ bit_at_clear_other w32 a k few j low other
  | inr high ↦
      let none : bit_at a j ≡ 0 = lacks_one a j (past high) in
      bit_at_and a (bit_not w32 (1 * 2 ^ k % 2 ^ 32)) j ∙ none_least (bit_at a j) (bit_at (bit_not w32 (1 * 2 ^ k % 2 ^ 32)) j) none ∙ sym none
])

-- ---- who is outside, as a set

none_there : (n j : ℕ) → place (replicate n None) j ≡ None
none_there zero j = refl
none_there (suc n) zero = refl
none_there (suc n) (suc j) = none_there n j

pub nobody_outside : (n : ℕ) → AreOutside (replicate n None) 0
nobody_outside n j = (
  λ h. absurd (false≢true (sym (holds_none j) ∙ h)),
  λ out. absurd (not_both (place (replicate n None) j) out.0 out.1 (none_there n j)),
)

-- by the same test, and the same place, the same is so
moved : (places new : List (Option Asker)) (set with j : ℕ) → holds with j ≡ holds set j → place new j ≡ place places j
    → (holds set j ≡ true) ↔ IsOutside places j → (holds with j ≡ true) ↔ IsOutside new j
moved places new set with j same at is = (
  λ h. let out = is.0 (sym same ∙ h) in (out.0, at ∙ out.1),
  λ out. same ∙ is.1 (out.0, sym at ∙ out.1),
)

nobody_past : (places : List (Option Asker)) (outside j : ℕ) → length places ≤ j → AreOutside places outside → holds outside j ≡ false
nobody_past places outside j past are = elim (cases_Bool (holds outside j)) [
  | inl h ↦ let out = (are j).0 h in absurd (not_both (place places j) out.0 out.1 (get_or_past places j None past))
  | inr h ↦ h
]

pub one_left : (places : List (Option Asker)) (outside k : ℕ) → k < length places → length places ≤ 32 → AreOutside places outside
    → AreOutside (set places k None) (bit_and outside (bit_not w32 (1 * 2 ^ k % 2 ^ 32)))
one_left places outside k inside few are j =
    let new = set places k None in let with : ℕ = bit_and outside (bit_not w32 (1 * 2 ^ k % 2 ^ 32)) in let small : k < 32 = omega (arith, inside, few) in
    elim (cases_eq j k) [
      | inl same ↦ subst (λ i. (holds with i ≡ true) ↔ IsOutside new i) (sym same) (
        λ h. absurd (false≢true (sym (without_same outside k small) ∙ h)),
        λ out. absurd (not_both (place new k) out.0 out.1 (get_or-set_same places k None None inside)),
      )
      | inr other ↦ moved places new outside with j (without_other outside k j small (λ high. nobody_past places outside j (omega (arith, high, few)) are) other)
          (get_or-set_other places k j None None other) (are j)
    ]

in_second : (a b : Bool) → b ≡ true → (a || b) ≡ true
in_second true b h = refl
in_second false b h = h

pub one_asked : (places : List (Option Asker)) (outside k : ℕ) (a : Asker) → k < length places → k < 32 → AreOutside places outside
    → AreOutside (set places k (Some a)) (bit_or outside (1 * 2 ^ k % 2 ^ 32))
one_asked places outside k a inside few are j =
    let new = set places k (Some a) in let with : ℕ = bit_or outside (1 * 2 ^ k % 2 ^ 32) in
    elim (cases_eq j k) [
      | inl same ↦ subst (λ i. (holds with i ≡ true) ↔ IsOutside new i) (sym same) (
        λ h. (a, get_or-set_same places k (Some a) None inside),
        λ out. has_with outside k k few ∙ in_second (holds outside k) (nat_eq k k) (eq-eqb k k refl),
      )
      | inr other ↦
          moved places new outside with j
          (has_with outside k j few ∙ (ap (λ b. holds outside j || b) (ne_eqb k j (λ e. other (sym e))) ∙ or-false (holds outside j)))
          (get_or-set_other places k j (Some a) None other) (are j)
    ]

gone_in : (most ready used : ℕ) (old : List (Option Asker)) (set : ℕ) (new : List (Option Asker)) → LetsIn most ready used old set new → AreGone old set new
gone_in most ready used old set new (inl (some, p)) = p.gone
gone_in most ready used old set new (inr (inl (none, k, first, goes, gone))) = gone
gone_in most ready used old set new (inr (inr (none, free, is, same))) = λ j. (
  λ h. absurd (false≢true (sym (holds_none j) ∙ subst (λ n. holds n j ≡ true) is h)),
  λ h. absurd (not_both (place old j) h.0.0 h.0.1 (ap (λ (l : List (Option Asker)). place l j) (sym same) ∙ h.1)),
)

-- who went in isn't outside any more, and everybody else is as before
pub left_outside : (most ready used : ℕ) (old : List (Option Asker)) (set : ℕ) (new : List (Option Asker)) (outside : ℕ) → LetsIn most ready used old set new
    → AreOutside old outside → AreOutside new (bit_xor outside set)
left_outside most ready used old set new outside lets are j = elim (cases_Bool (holds set j)) [
  | inl in_set ↦
      let was = (gone_in most ready used old set new lets j).0 in_set in (
        λ h. absurd (false≢true (sym (xor_in outside set j ((are j).1 was.0) in_set) ∙ h)),
        λ out. absurd (not_both (place new j) out.0 out.1 was.1),
      )
  | inr not_in ↦
      let same = xor_out outside set j not_in in (
        λ h.
            let out = (are j).0 (sym same ∙ h) in
            outside_if (place new j) (λ none. false≢true (sym not_in ∙ (gone_in most ready used old set new lets j).1 (out, none))),
        λ out. same ∙ (are j).1 (outside_if (place old j) (λ none. not_both (place new j) out.0 out.1 (before_in most ready used old set new lets j none))),
      )
]

-- ---- only who is outside matters

abbrev Agree : ℕ → ℕ → List (Option Asker) → Type 0
Agree a b places = (j : ℕ) → IsOutside places j → holds a j ≡ holds b j

passed_alike : (a b most needs j : ℕ) (o : Option Asker) → ((x : Asker) → o ≡ Some x → holds a j ≡ holds b j)
    → passed_at most a needs j o ≡ passed_at most b needs j o
passed_alike a b most needs j None h = none_stays most a needs j ∙ sym (none_stays most b needs j)
passed_alike a b most needs j (Some x) h = ap (λ t. if t then passed_by most needs (Some x) else Some x) (h x refl)

goes_alike : (a b most k : ℕ) (old new : List (Option Asker)) → Agree a b old → GoesIn most a k old new → GoesIn most b k old new
goes_alike a b most k old new s g = record {
  as_many = g.as_many;
  inside = g.inside;
  others = λ j other. g.others j other ∙ passed_alike a b most (needs_of (place old k)) j (place old j) (λ x is. s j (x, is));
}

due_alike : (a b : ℕ) (reason : Reason) (places : List (Option Asker)) (j : ℕ) → Agree a b places → IsDueAt reason a places j → IsDueAt reason b places j
due_alike a b reason places j s due = (sym (s j (due_is_outside reason (place places j) due.1)) ∙ due.0, due.1)

other_way : (a b : ℕ) (places : List (Option Asker)) → Agree a b places → Agree b a places
other_way a b places s j out = sym (s j out)

nobody_alike : (a b : ℕ) (reason : Reason) (places : List (Option Asker)) → Agree a b places → NobodyIsDue reason a places → NobodyIsDue reason b places
nobody_alike a b reason places s none j inside due = none j inside (due_alike b a reason places j (other_way a b places s) due)

first_alike : (a b : ℕ) (reason : Reason) (places : List (Option Asker)) (n k : ℕ) → Agree a b places → IsFirst reason a places n (Some k)
    → IsFirst reason b places n (Some k)
first_alike a b reason places n k s x =
    (x.0, due_alike a b reason places k s x.1, λ i under due. x.2 i under (due_alike b a reason places i (other_way a b places s) due))

agree_on : (a b : ℕ) (old new : List (Option Asker)) → Agree a b old → ((j : ℕ) → place old j ≡ None → place new j ≡ None) → Agree a b new
agree_on a b old new s before j out = s j (outside_if (place old j) (λ none. not_both (place new j) out.0 out.1 (before j none)))

chain_alike : (a b most n : ℕ) (old new : List (Option Asker)) → Agree a b old → GoInPassed most a n old new → GoInPassed most b n old new
chain_alike a b most zero old new s is = is
chain_alike a b most (suc n) old new s (mid, k, earlier, inside, due, goes) =
    let there = agree_on a b old mid s (chain_before most a n old mid earlier) in
    (mid, k, chain_alike a b most n old mid s earlier, inside, due_alike a b (Passed most) mid k there due, goes_alike a b most k mid new there goes)

lets_alike : (a b most used : ℕ) (old : List (Option Asker)) (set : ℕ) (new : List (Option Asker)) → Agree a b old → LetsIn most a used old set new
    → LetsIn most b used old set new
lets_alike a b most used old set new s (inl (some, p)) = inl (
  some,
  record {
    many = p.many;
    one_by_one = chain_alike a b most p.many old new s p.one_by_one;
    all = nobody_alike a b (Passed most) new (agree_on a b old new s (chain_before most a p.many old new p.one_by_one)) p.all;
    gone = p.gone;
    some = p.some;
  },
)
lets_alike a b most used old set new s (inr (inl (none, k, first, goes, gone))) = inr (inl (
  nobody_alike a b (Passed most) old s none,
  k,
  first_alike a b (Free used) old (length old) k s first,
  goes_alike a b most k old new s goes,
  gone,
))
lets_alike a b most used old set new s (inr (inr (none, free, is, same))) =
    inr (inr (nobody_alike a b (Passed most) old s none, nobody_alike a b (Free used) old s free, is, same))

pub lets_those : (most ready used : ℕ) (old : List (Option Asker)) (set : ℕ) (new : List (Option Asker)) (outside : ℕ) → AreOutside old outside
    → LetsIn most (bit_and ready outside) used old set new → LetsIn most ready used old set new
lets_those most ready used old set new outside are lets =
    lets_alike (bit_and ready outside) ready most used old set new (λ j out. and_one ready outside j ((are j).1 out)) lets

-- where none of them is outside, nobody is let in
pub none_let_in : (most ready used : ℕ) (places : List (Option Asker)) (outside : ℕ) → AreOutside places outside → bit_and ready outside ≡ 0
    → LetsIn most ready used places 0 places
none_let_in most ready used places outside are none = inr (inr (never (Passed most), never (Free used), refl, refl)) where
  never : (reason : Reason) → NobodyIsDue reason ready places
  never reason j inside due =
      let out = due_is_outside reason (place places j) due.1 in
      false≢true (sym (holds_none j) ∙ (ap (λ n. holds n j) (sym none) ∙ (and_one ready outside j ((are j).1 out) ∙ due.0)))
