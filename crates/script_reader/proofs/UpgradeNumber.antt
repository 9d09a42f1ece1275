-- A number up to 999999, written in decimal, is a number of a script, and reads back.
use Rattle.std.proofs.Common.{◌≡◌, ℕ, ◌+◌, ◌-◌, ◌*◌, ◌/◌, ◌%◌, ◌<◌, ◌≤◌, Bool, true, false, not, ◌&&◌, ◌||◌, List, [], ◌∷◌, ◌++◌, length, get_or, refl, ap, ◌∙◌, arith, suc, zero}
use Rattle.std.specs.Prelude.{◌==◌, decimal, slice_index}
use Rattle.std.specs.List.{list_all}
use Rattle.std.proofs.lemmas.Bool.{false_from_ne_true}
use Rattle.std.proofs.lemmas.Bool.Decides.{Decides-eqb, nat_tests}
use Rattle.std.proofs.lemmas.List.Folds.{list_all-append}
use Rattle.std.proofs.lemmas.Fmt.{decimal_by_steps, decimal_digit, decimal_nonempty, length-decimal-le, first_decimal}
use Rattle.lab_plan.specs.Names.{is_digit}
use Rattle.script_reader.specs.Number.{value_after, number_of, is_number}
use Rattle.script_reader.proofs.UpgradeOrder.{at_most}

value_more : (n : ℕ) (bytes : List ℕ) (b : ℕ) → value_after n (bytes ++ b ∷ []) ≡ 10 * value_after n bytes + (b - 48)
value_more n [] b = refl
value_more n (x ∷ bytes) b = value_more (10 * n + (x - 48)) bytes b

digit : (n : ℕ) → n < 10 → is_digit (48 + n) ≡ true
digit n small = grind (arith, nat_tests)

Reads : ℕ → List ℕ → Type 0
Reads n bytes = (list_all is_digit bytes ≡ true) × (number_of bytes ≡ n)

one_digit : (n : ℕ) → n < 10 → Reads n ((48 + n) ∷ [])
unfolding Reads
one_digit n small = (ap (λ b. b && true) (digit n small), omega arith)

more_digits : (n : ℕ) (bytes : List ℕ) → 10 ≤ n → Reads (n / 10) bytes → Reads n (bytes ++ (48 + n % 10) ∷ [])
unfolding Reads
more_digits n bytes large h =
    let last : is_digit (48 + n % 10) ≡ true = digit (n % 10) (omega arith) in
    let value = h.1 in (
      list_all-append is_digit bytes ((48 + n % 10) ∷ []) ∙ (λ i. h.0 i && (last i && true)),
      value_more 0 bytes (48 + n % 10) ∙ omega (arith, value),
    )

reads : (n : ℕ) → n ≤ 999999 → Reads n (decimal n)
reads n small = decimal_by_steps Reads one_digit more_digits n (omega arith)

pub all_digits : (n : ℕ) → n ≤ 999999 → list_all is_digit (decimal n) ≡ true
unfolding Reads
all_digits n small = (reads n small).0

pub reads_back : (n : ℕ) → n ≤ 999999 → number_of (decimal n) ≡ n
unfolding Reads
reads_back n small = (reads n small).1

pub some_digit : (n : ℕ) → n ≤ 999999 → 0 < length (decimal n)
some_digit n small = decimal_nonempty n (omega arith)

abbrev leads : List ℕ → Bool
leads bytes = not (slice_index bytes 0 == 48) || length bytes == 1

no_leading_zero : (n : ℕ) → n ≤ 999999 → leads (decimal n) ≡ true
no_leading_zero zero small = ap leads (decimal_digit 0 (omega arith))
no_leading_zero (suc n) small =
    let above : 48 < get_or (decimal (suc n)) 0 0 = first_decimal (suc n) (omega arith) (omega arith) in
    let other : (get_or (decimal (suc n)) 0 0 == 48) ≡ false =
    false_from_ne_true _ (λ e. let same = (Decides-eqb (get_or (decimal (suc n)) 0 0) 48).0 e in omega (arith, same, above)) in
    ap (λ b. not b || length (decimal (suc n)) == 1) other

pub decimal_is_number : (n : ℕ) → n ≤ 999999 → is_number (decimal n) ≡ true
decimal_is_number n small =
    let some = at_most 1 (length (decimal n)) (some_digit n small) in
    let few = at_most (length (decimal n)) 6 (length-decimal-le 6 n (omega arith) (omega arith) (omega arith)) in
    let digits = all_digits n small in
    let zero = no_leading_zero n small in
    λ i. some i && few i && digits i && zero i
