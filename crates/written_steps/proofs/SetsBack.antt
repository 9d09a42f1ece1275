-- A set of an edge's bottles is written by the names of its members, and read back as that set.
use Rattle.std.proofs.Common.{◌≡◌, ◌≢◌, ℕ, zero, suc, ◌+◌, ◌*◌, ◌%◌, ◌/◌, ◌^◌, ◌<◌, ◌≤◌, true, false, List, [], ◌∷◌, ◌++◌, length, map, refl, sym, ap, ◌∙◌, arith, ⊎_elim}
use Rattle.std.specs.Prelude.{Some, ◌==◌}
use Rattle.std.specs.List.{AllByRecursion, filter, flat_map, list_any, range_with_len}
use Rattle.std.specs.Int.{bit_at}
use Rattle.std.proofs.Math.Nat.{pow-suc, div-div-eq-div-mul, zero-mul, mod-eq_of_lt}
use Rattle.std.proofs.lemmas.Nat.{mod-pow-add}
use Rattle.std.proofs.lemmas.Bool.{cases_Bool, false_from_ne_true}
use Rattle.std.proofs.lemmas.Bool.Decides.{Decides-eqb, nat_tests}
use Rattle.std.proofs.lemmas.List.Sums.{sum_by-cons}
use Rattle.lab_plan.specs.LabPlan.{LabPlan, bottles}
use Rattle.lab_plan.specs.IsPlan.{IsPlan}
use Rattle.legal_steps.specs.Legal.{IsBottleSet}
use Rattle.script_reader.specs.Steps.{bottle_named, bottle_set, all_there, is_distinct, set_of}
use Rattle.step_texts.specs.Names.{bottle_name}
use Rattle.step_texts.specs.StepTexts.{member_text, set_text}
use Rattle.written_steps.proofs.NamesBack.{bottle_back}
use Rattle.written_steps.proofs.WrittenLines.{spaced}

-- the members from k on, of n numbers
abbrev pub members : ℕ → ℕ → ℕ → List ℕ
members set k n = filter (λ i. bit_at set i == 1) (range_with_len k n)

abbrev pub member_names : LabPlan → ℕ → ℕ → List (List ℕ)
member_names plan e set = map (bottle_name plan e) (members set 0 (length (bottles plan e)))

-- ---- how they are written

texts_from : (plan : LabPlan) (e set k n : ℕ) → flat_map (member_text plan e set) (range_with_len k n) ≡ spaced (map (bottle_name plan e) (members set k n))
texts_from plan e set k zero = refl
texts_from plan e set k (suc n) =
    ⊎_elim
    (λ is. rw is (ap (λ l. 32 ∷ (bottle_name plan e k ++ l)) (texts_from plan e set (k + 1) n)))
    (λ is. rw is (texts_from plan e set (k + 1) n))
    (cases_Bool (bit_at set k == 1))

pub set_written : (plan : LabPlan) (e set : ℕ) → set_text plan e set ≡ spaced (member_names plan e set)
set_written plan e set = texts_from plan e set 0 (length (bottles plan e))

-- ---- how they are read

-- each is below the number of bottles, and none stands twice
abbrev IsFrom : ℕ → ℕ → ℕ → Type 0
IsFrom low high k = (low ≤ k) × (k < high)

kept_from : (set k n low high : ℕ) → low ≤ k → k + n ≤ high → AllByRecursion (IsFrom low high) (members set k n)
kept_from set k zero low high l h = tt
kept_from set k (suc n) low high l h =
    let more = kept_from set (k + 1) n low high (omega (arith, l)) (omega (arith, h)) in
    ⊎_elim (λ is. rw is ((l, omega (arith, h)), more)) (λ is. rw is more) (cases_Bool (bit_at set k == 1))

none_there : (k low high : ℕ) (ks : List ℕ) → k < low → AllByRecursion (IsFrom low high) ks → list_any (λ other. other == k) ks ≡ false
none_there k low high [] less all = refl
none_there k low high (x ∷ ks) less all =
    let above = all.0.0 in
    rw (false_from_ne_true (x == k) (λ t. let same = (Decides-eqb x k).0 t in omega (arith, same, less, above))) (none_there k low high ks less all.1)

distinct_members : (set k n : ℕ) → is_distinct (members set k n) ≡ true
distinct_members set k zero = refl
distinct_members set k (suc n) =
    let more = distinct_members set (k + 1) n in
    let all = kept_from set (k + 1) n (k + 1) (k + 1 + n) (omega arith) (omega arith) in
    ⊎_elim
    (λ is. rw is (rw (none_there k (k + 1) (k + 1 + n) (members set (k + 1) n) (omega arith) all) more))
    (λ is. rw is more)
    (cases_Bool (bit_at set k == 1))

all_back : (plan : LabPlan) (e low : ℕ) (ks : List ℕ) → IsPlan plan → AllByRecursion (IsFrom low (length (bottles plan e))) ks
    → all_there (map (bottle_named plan e) (map (bottle_name plan e) ks)) ≡ Some ks
all_back plan e low [] is all = refl
all_back plan e low (k ∷ ks) is all = rw (bottle_back plan e k is all.0.1) (rw (all_back plan e low ks is all.1) refl)

-- the sum of the members' powers is the set's bits there
half : (x n : ℕ) → x % 2 ^ (suc n) ≡ (x / 2 % 2 ^ n) * 2 + x % 2
half x n = let e : n + 1 ≡ suc n = omega arith in ap (λ m. x % 2 ^ m) (sym e) ∙ mod-pow-add x n 1

low_none : (x y : ℕ) → 0 ≡ (x % 1) * y
low_none x y = let none : 0 ≡ x % 1 = omega arith in sym (zero-mul y) ∙ ap (λ m. m * y) none

spread : (a b p : ℕ) → (a * 2 + b) * p ≡ a * (p * 2) + b * p
spread a b p = grind (arith)

-- the bits from k on, one taken apart: as many twos as the rest has, and the first
taken : (set k n : ℕ) → (set / 2 ^ k % 2 ^ (suc n)) * 2 ^ k ≡ (set / 2 ^ (k + 1) % 2 ^ n) * 2 ^ (k + 1) + bit_at set k * 2 ^ k
taken set k n =
    let x = set / 2 ^ k in
    let next : k + 1 ≡ suc k = omega arith in
    let power : 2 ^ (k + 1) ≡ 2 ^ k * 2 = ap (λ m. 2 ^ m) next ∙ pow-suc 2 k in
    let shift : set / 2 ^ (k + 1) ≡ x / 2 = ap (λ m. set / m) power ∙ sym (div-div-eq-div-mul set (2 ^ k) 2) in
    ap (λ m. m * 2 ^ k) (half x n) ∙ spread (x / 2 % 2 ^ n) (x % 2) (2 ^ k)
    ∙ sym (λ i. (shift i % 2 ^ n) * power i + (x % 2) * 2 ^ k)

bits_from : (set k n : ℕ) → set_of (members set k n) ≡ (set / 2 ^ k % 2 ^ n) * 2 ^ k
bits_from set k zero = low_none (set / 2 ^ k) (2 ^ k)
bits_from set k (suc n) =
    let more = bits_from set (k + 1) n in
    let whole = taken set k n in
    let last = sum_by-cons (λ (i : ℕ). 2 ^ i) k (members set (k + 1) n) in
    ⊎_elim
    (λ is. rw is (last ∙ first_bit (bit_at set k) (2 ^ k) _ _ _ ((Decides-eqb (bit_at set k) 1).0 is) more whole))
    (λ is. rw is (no_bit (bit_at set k) (2 ^ k) _ _ _ (zero_bit (set / 2 ^ k) is) more whole))
    (cases_Bool (bit_at set k == 1))
  where
    zero_bit : (x : ℕ) → (x % 2 == 1) ≡ false → x % 2 ≡ 0
    zero_bit x h = grind (arith, nat_tests, h)

    first_bit : (b p rest all sum : ℕ) → b ≡ 1 → sum ≡ rest → all ≡ rest + b * p → p + sum ≡ all
    first_bit b p rest all sum one same whole =
        let single : b * p ≡ p = ap (λ m. m * p) one ∙ omega arith in omega (arith, same, whole, single)

    no_bit : (b p rest all sum : ℕ) → b ≡ 0 → sum ≡ rest → all ≡ rest + b * p → sum ≡ all
    no_bit b p rest all sum none same whole =
        let nothing : b * p ≡ 0 = ap (λ m. m * p) none ∙ zero-mul p in omega (arith, same, whole, nothing)

-- the set of the members is the set
set_back : (set n : ℕ) → set < 2 ^ n → set_of (members set 0 n) ≡ set
set_back set n small = bits_from set 0 n ∙ whole
  where
    one : 2 ^ 0 ≡ 1
    one = refl

    itself : set / 1 ≡ set
    itself = omega arith

    whole : (set / 2 ^ 0 % 2 ^ n) * 2 ^ 0 ≡ set
    whole = (λ i. (set / one i % 2 ^ n) * one i) ∙ ap (λ m. (m % 2 ^ n) * 1) itself ∙ ap (λ m. m * 1) (mod-eq_of_lt {n = set} {m = 2 ^ n} small) ∙ omega arith

-- a set that isn't empty has a member
some_member : (set n : ℕ) → set ≢ 0 → set < 2 ^ n → members set 0 n ≢ []
some_member set n some small none = some (sym (set_back set n small) ∙ ap set_of none)

pub bottles_back : (plan : LabPlan) (e set : ℕ) → IsPlan plan → IsBottleSet plan e set → bottle_set plan e (member_names plan e set) ≡ Some set
unfolding bottle_set
bottles_back plan e set is h =
    let n = length (bottles plan e) in
    let all = all_back plan e 0 (members set 0 n) is (kept_from set 0 n 0 n (omega arith) (omega arith)) in
    rw all (rw (distinct_members set 0 n) (ap Some (set_back set n h.of_edge)))

-- and so a first name, and others
pub some_names : (plan : LabPlan) (e set : ℕ) → IsBottleSet plan e set
    → (name : List ℕ) × (names : List (List ℕ)) × (member_names plan e set ≡ name ∷ names)
some_names plan e set h = named (members set 0 (length (bottles plan e))) (some_member set (length (bottles plan e)) h.not_empty h.of_edge)
  where
    named : (ks : List ℕ) → ks ≢ [] → (name : List ℕ) × (names : List (List ℕ)) × (map (bottle_name plan e) ks ≡ name ∷ names)
    named [] some = absurd (some refl)
    named (k ∷ ks) some = (bottle_name plan e k, map (bottle_name plan e) ks, refl)
