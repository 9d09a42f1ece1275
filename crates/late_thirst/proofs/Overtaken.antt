-- Whoever waits outside is counted as passed just as often as it is.
use Rattle.std.proofs.Common.{◌≡◌, ℕ, zero, suc, ◌+◌, ◌<◌, ◌≤◌, Bool, true, false, ◌||◌, nat_le, if◌then◌else◌, List, length, Option, Some, None, refl, sym, ap, ◌∙◌, subst, inl, inr, arith}
use Rattle.std.proofs.lemmas.Bool.{cases_eq, cases_lt, cases_Bool, lt-leb}
use Rattle.std.proofs.lemmas.List.{get_or_past}
use Rattle.lab_plan.specs.InstrumentSets.{holds}
use Rattle.late_thirst.specs.declared.asker.Asker.{Asker}
use Rattle.late_thirst.specs.declared.asker.Reason.TheVariants.{Passed}
use Rattle.late_thirst.specs.Outside.{LineView, place, needs_of, apart, passed_by, passed_at, IsDue, NobodyIsDue}
use Rattle.late_thirst.specs.LettingIn.{GoesIn, GoInPassed, LetsIn}
use Rattle.late_thirst.specs.Overtaking.{one_if_common, passes_in, passes, WaitsOnce, Waits, passes_once, passes_meanwhile}
use Rattle.late_thirst.proofs.Gone.{not_both, outside_if, outside_before}

same_asker : (x y : Asker) → Some x ≡ Some y → x ≡ y
same_asker x y is = cc

abbrev more : Asker → Asker
more m = record { since = m.since; needs = m.needs; passed = m.passed + 1 }

-- what a place counts, behind one that went in
pub record IsCounted (m b : Asker) (n : ℕ) : Type 0 where
  pub needs : b.needs ≡ m.needs
  pub passed : b.passed ≡ m.passed + n

as_it_was : (m b : Asker) → Some m ≡ Some b → IsCounted m b 0
as_it_was m b is =
    let same = same_asker m b is in
    let passed : m.passed ≡ b.passed = ap (λ (a : Asker). a.passed) same in
    record { needs = sym (ap (λ (a : Asker). a.needs) same); passed = omega (arith, passed) }

one_further : (m b : Asker) → Some (more m) ≡ Some b → IsCounted m b 1
one_further m b is =
    let same = same_asker (more m) b is in
    let passed : m.passed + 1 ≡ b.passed = ap (λ (a : Asker). a.passed) same in
    record { needs = sym (ap (λ (a : Asker). a.needs) same); passed = omega (arith, passed) }

-- it never counts less than before
no_less : (p : Bool) (m b : Asker) → (if p then Some m else Some (more m)) ≡ Some b → m.passed ≤ b.passed
no_less true m b is = let x = (as_it_was m b is).passed in omega (arith, x)
no_less false m b is = let x = (one_further m b is).passed in omega (arith, x)

none_less : (r p : Bool) (m b : Asker) → (if r then (if p then Some m else Some (more m)) else Some m) ≡ Some b → m.passed ≤ b.passed
none_less true p m b is = no_less p m b is
none_less false p m b is = no_less true m b is

by_need : (p : Bool) (m b : Asker) → (if p || false then Some m else Some (more m)) ≡ Some b → IsCounted m b (if p then 0 else 1)
by_need true m b is = as_it_was m b is
by_need false m b is = one_further m b is

-- who is ready, and hasn't been passed by often enough, is counted once if it needs one of the instruments
counted_once : (most ready needs j : ℕ) (m b : Asker) → holds ready j ≡ true → m.passed < most → passed_at most ready needs j (Some m) ≡ Some b
    → IsCounted m b (one_if_common m.needs needs)
counted_once most ready needs j m b is_ready fewer is =
    by_need (apart m.needs needs) m b (
    ap (λ (r : Bool). if apart m.needs needs || r then Some m else Some (more m)) (sym (lt-leb most m.passed fewer))
    ∙ (ap (λ (r : Bool). if r then passed_by most needs (Some m) else Some m) (sym is_ready) ∙ is)
    )

at_place : (most ready needs j : ℕ) (o : Option Asker) (m b : Asker) → o ≡ Some m → passed_at most ready needs j o ≡ Some b → passed_at most ready needs j (Some m) ≡ Some b
at_place most ready needs j o m b at is = ap (passed_at most ready needs j) (sym at) ∙ is

-- who is outside at the end, at one step before it
record Before (most ready needs j : ℕ) (mid : List (Option Asker)) (b : Asker) : Type 0 where
  pub asker : Asker
  pub at : place mid j ≡ Some asker
  pub is : passed_at most ready needs j (Some asker) ≡ Some b

before_it : (most ready k : ℕ) (mid new : List (Option Asker)) (j : ℕ) (b : Asker) → GoesIn most ready k mid new → place new j ≡ Some b
    → Before most ready (needs_of (place mid k)) j mid b
before_it most ready k mid new j b goes at = elim (cases_eq j k) [
  | inl same ↦ absurd (not_both (place new k) b (subst (λ i. place new i ≡ Some b) same at) goes.inside)
  | inr other ↦
      let was = outside_if (place mid j) (λ none. not_both (place new j) b at (outside_before most ready k mid new goes j none)) in
      record {
        asker = was.0;
        at = was.1;
        is = at_place most ready (needs_of (place mid k)) j (place mid j) was.0 b was.1 (sym (goes.others j other) ∙ at);
      }
]

added : (a m b : Asker) (n o : ℕ) → IsCounted a m n → IsCounted m b o → IsCounted a b (n + o)
added a m b n o x y = let p = x.passed in let q = y.passed in record { needs = y.needs ∙ x.needs; passed = omega (arith, p, q) }

with_needs : (a m b : Asker) (other : ℕ) → m.needs ≡ a.needs → IsCounted m b (one_if_common m.needs other) → IsCounted m b (one_if_common a.needs other)
with_needs a m b other same x = subst (λ n. IsCounted m b (one_if_common n other)) same x

-- one that is left outside by those who went in one after another, and was passed by too seldom to go in
pub chain_counts : (most ready n : ℕ) (old new : List (Option Asker)) (chain : GoInPassed most ready n old new) (j : ℕ) (a b : Asker) → holds ready j ≡ true
    → place old j ≡ Some a → place new j ≡ Some b → b.passed < most → IsCounted a b (passes_in most ready n old new chain a.needs)
chain_counts most ready zero old new is j a b is_ready at at' fewer = as_it_was a b (sym at ∙ (ap (λ (l : List (Option Asker)). place l j) (sym is) ∙ at'))
chain_counts most ready (suc n) old new (mid, k, earlier, inside, due, goes) j a b is_ready at at' fewer =
    let m = before_it most ready k mid new j b goes at' in
    let needs = needs_of (place mid k) in
    let rises : m.asker.passed ≤ b.passed =
    none_less (holds ready j) (apart m.asker.needs needs || nat_le most m.asker.passed) m.asker b m.is in
    let below : m.asker.passed < most = omega (arith, rises, fewer) in
    let x = chain_counts most ready n old mid earlier j a m.asker is_ready at m.at below in
    added a m.asker b (passes_in most ready n old mid earlier a.needs) (one_if_common a.needs needs) x
    (with_needs a m.asker b needs x.needs (counted_once most ready needs j m.asker b is_ready below m.is))

inside_if : (places : List (Option Asker)) (j : ℕ) (a : Asker) → place places j ≡ Some a → j < length places
inside_if places j a at = elim (cases_lt j (length places)) [
  | inl below ↦ below
  | inr above ↦ absurd (not_both (place places j) a at (get_or_past places j None (omega (arith, above))))
]

too_seldom : (most ready : ℕ) (places : List (Option Asker)) (j : ℕ) (a : Asker) → holds ready j ≡ true → NobodyIsDue (Passed most) ready places
    → place places j ≡ Some a → a.passed < most
too_seldom most ready places j a is_ready nobody at = elim (cases_lt a.passed most) [
  | inl below ↦ below
  | inr above ↦
      let enough : most ≤ a.passed = omega (arith, above) in
      absurd (nobody j (inside_if places j a at) (is_ready, subst (λ (o : Option Asker). IsDue (Passed most) o) (sym at) enough))
]

at_most_one : (p : Bool) → (if p then 0 else 1) ≤ 1
at_most_one true = omega arith
at_most_one false = omega arith

-- one letting-in
pub record CountsOne (most n : ℕ) (a b : Asker) : Type 0 where
  pub counted : IsCounted a b n
  pub bound : a.passed ≤ most → b.passed ≤ most

letting_in : (most ready used : ℕ) (old : List (Option Asker)) (set : ℕ) (new : List (Option Asker)) (lets : LetsIn most ready used old set new) (j : ℕ)
    (a b : Asker) → holds ready j ≡ true → place old j ≡ Some a → place new j ≡ Some b → CountsOne most (passes most ready used old set new lets a.needs) a b
letting_in most ready used old set new (inl (some, all)) j a b is_ready at at' =
    let fewer = too_seldom most ready new j b is_ready all.all at' in
    record { counted = chain_counts most ready all.many old new all.one_by_one j a b is_ready at at' fewer; bound = λ h. omega (arith, fewer) }
letting_in most ready used old set new (inr (inl (none, k, first, goes, gone))) j a b is_ready at at' =
    let fewer = too_seldom most ready old j a is_ready none at in
    let m = before_it most ready k old new j b goes at' in
    let needs = needs_of (place old k) in
    let same : m.asker ≡ a = same_asker m.asker a (sym m.at ∙ at) in
    let x = counted_once most ready needs j a b is_ready fewer (subst (λ (z : Asker). passed_at most ready needs j (Some z) ≡ Some b) same m.is) in
    let p = x.passed in
    let few = at_most_one (apart a.needs needs) in
    record { counted = x; bound = λ h. omega (arith, fewer, p, few) }
letting_in most ready used old set new (inr (inr (none, free, is, same))) j a b is_ready at at' =
    let x = as_it_was a b (sym at ∙ (ap (λ (l : List (Option Asker)). place l j) (sym same) ∙ at')) in
    let p = x.passed in
    record { counted = x; bound = λ h. omega (arith, h, p) }

-- who isn't ready stays as it is
unready : (most ready needs j : ℕ) (m b : Asker) → holds ready j ≡ false → passed_at most ready needs j (Some m) ≡ Some b → m ≡ b
unready most ready needs j m b not_ready is =
    same_asker m b (ap (λ (r : Bool). if r then passed_by most needs (Some m) else Some m) (sym not_ready) ∙ is)

unready_chain : (most ready n : ℕ) (old new : List (Option Asker)) → GoInPassed most ready n old new → (j : ℕ) (a b : Asker) → holds ready j ≡ false
    → place old j ≡ Some a → place new j ≡ Some b → a ≡ b
unready_chain most ready zero old new is j a b not_ready at at' = same_asker a b (sym at ∙ (ap (λ (l : List (Option Asker)). place l j) (sym is) ∙ at'))
unready_chain most ready (suc n) old new (mid, k, earlier, inside, due, goes) j a b not_ready at at' =
    let m = before_it most ready k mid new j b goes at' in
    unready_chain most ready n old mid earlier j a m.asker not_ready at m.at ∙ unready most ready (needs_of (place mid k)) j m.asker b not_ready m.is

left_aside : (most ready used : ℕ) (old : List (Option Asker)) (set : ℕ) (new : List (Option Asker)) → LetsIn most ready used old set new → (j : ℕ)
    (a b : Asker) → holds ready j ≡ false → place old j ≡ Some a → place new j ≡ Some b → a ≡ b
left_aside most ready used old set new (inl (some, all)) j a b not_ready at at' = unready_chain most ready all.many old new all.one_by_one j a b not_ready at at'
left_aside most ready used old set new (inr (inl (none, k, first, goes, gone))) j a b not_ready at at' =
    let m = before_it most ready k old new j b goes at' in
    same_asker a m.asker (sym at ∙ m.at) ∙ unready most ready (needs_of (place old k)) j m.asker b not_ready m.is
left_aside most ready used old set new (inr (inr (none, free, is, same))) j a b not_ready at at' =
    same_asker a b (sym at ∙ (ap (λ (l : List (Option Asker)). place l j) (sym same) ∙ at'))

stays : (most : ℕ) (a b : Asker) → a ≡ b → CountsOne most 0 a b
stays most a b same =
    let x = as_it_was a b (ap (λ (c : Asker). Some c) same) in
    let p = x.passed in
    record { counted = x; bound = λ h. omega (arith, h, p) }

pub once : (j : ℕ) (old new : LineView) (w : WaitsOnce j old new) (a b : Asker) → place old.places j ≡ Some a → place new.places j ≡ Some b
    → CountsOne old.most (passes_once j old new w a.needs) a b × (new.most ≡ old.most)
once j old new (inl (ready, used, set, lets)) a b at at' =
    let n = passes old.most ready used old.places set new.places lets.places a.needs in (
      elim (cases_Bool (holds ready j)) [
        | inl in_set ↦ subst (λ (r : Bool). CountsOne old.most (if r then n else 0) a b) (sym in_set)
            (letting_in old.most ready used old.places set new.places lets.places j a b in_set at at')
        | inr not_in ↦ subst (λ (r : Bool). CountsOne old.most (if r then n else 0) a b) (sym not_in)
            (stays old.most a b (left_aside old.most ready used old.places set new.places lets.places j a b not_in at at'))
      ],
      lets.most,
    )
once j old new (inr (same, most)) a b at at' = (stays old.most a b (same_asker a b (sym at ∙ (sym same ∙ at'))), most)

-- from asking on
pub meanwhile : (j n : ℕ) (old new : LineView) (a : Asker) → place old.places j ≡ Some a → (w : Waits j n old new)
    → (b : Asker) × (place new.places j ≡ Some b) × (b.needs ≡ a.needs) × (b.passed ≡ a.passed + passes_meanwhile j n old new w a.needs)
    × (new.most ≡ old.most) × (a.passed ≤ old.most → b.passed ≤ old.most)
meanwhile j zero old new a at same =
    (a, ap (λ (x : LineView). place x.places j) same ∙ at, refl, omega arith, ap (λ (x : LineView). x.most) same, λ h. h)
meanwhile j (suc n) old new a at (mid, before, now, outside) =
    let (m, at_mid, needs, counted, most, bound) = meanwhile j n old mid a at before in
    let (one, same) = once j mid new now m outside.0 at_mid outside.1 in
    let p : outside.0.passed ≡ m.passed + passes_once j mid new now a.needs =
    subst (λ n. outside.0.passed ≡ m.passed + passes_once j mid new now n) needs one.counted.passed in
    let more = one.bound in (
      outside.0,
      outside.1,
      one.counted.needs ∙ needs,
      omega (arith, p, counted),
      same ∙ most,
      λ h. subst (λ n. outside.0.passed ≤ n) most (more (subst (λ n. m.passed ≤ n) (sym most) (bound h))),
    )
