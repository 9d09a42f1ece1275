-- A word is a number where it is the number's decimal.
use Rattle.std.proofs.Common.{rules, ◌≡◌, ℕ, ◌<◌, ◌^◌, Bool, true, false, ◌&&◌, List, refl, sym, ap, ◌∙◌, subst, arith}
use Rattle.std.specs.Prelude.{Option, None, Some, Result, Ok, Err, decimal, nat_lt, if◌then◌else◌}
use Rattle.std.specs.Str.{bytes_eq}
use Rattle.std.specs.Str.Parse.{digits_value, ParsesUnsigned}
use Rattle.std.proofs.lemmas.Bool.{and_parts}
use Rattle.std.proofs.lemmas.Bool.Decides.{nat_tests}
use Rattle.std.proofs.lemmas.Fmt.{decimal_is_IsNumeral, parse-decimal}
use Rattle.std.proofs.lemmas.Slice.Eq.{bytes_eq-Decides}
use Rattle.report_reader.specs.Number.{number_of}

below : (n : ℕ) → n < 2 ^ 32 → nat_lt n (2 ^ 32) ≡ true
below n h = grind (arith, nat_tests)

below_back : (n : ℕ) → nat_lt n (2 ^ 32) ≡ true → n < 2 ^ 32
below_back n h = grind (arith, nat_tests, h)

value_back : (n : ℕ) → n < 2 ^ 32 → digits_value 10 (decimal n) ≡ n
value_back n small = (decimal_is_IsNumeral n (omega arith)).1

pub number_is : (word : List ℕ) (n : ℕ) → n < 2 ^ 32 → word ≡ decimal n → number_of word ≡ Some n
unfolding number_of
number_is word n small is =
    let value : digits_value 10 word ≡ n = ap (digits_value 10) is ∙ value_back n small in
    let same : bytes_eq word (decimal (digits_value 10 word)) ≡ true =
    (bytes_eq-Decides word (decimal (digits_value 10 word))).1 (is ∙ ap decimal (sym value)) in
    let fits : nat_lt (digits_value 10 word) (2 ^ 32) ≡ true = ap (λ m. nat_lt m (2 ^ 32)) value ∙ below n small in
    (λ i. if (fits i && same i) then Some (digits_value 10 word) else None) ∙ ap (λ m. Some m) value

taken : (b : Bool) (v n : ℕ) → (if b then Some v else None) ≡ Some n → (b ≡ true) × (v ≡ n)
taken true v n e = (refl, cc)
taken false v n e = cc

pub number_was : (word : List ℕ) (n : ℕ) → number_of word ≡ Some n → (word ≡ decimal n) × (n < 2 ^ 32)
unfolding number_of
number_was word n is =
    let t = taken (nat_lt (digits_value 10 word) (2 ^ 32) && bytes_eq word (decimal (digits_value 10 word))) (digits_value 10 word) n is in
    let parts = and_parts (nat_lt (digits_value 10 word) (2 ^ 32)) (bytes_eq word (decimal (digits_value 10 word))) t.0 in (
      (bytes_eq-Decides word (decimal (digits_value 10 word))).0 parts.1 ∙ ap decimal t.1,
      subst (λ m. m < 2 ^ 32) t.1 (below_back (digits_value 10 word) parts.0),
    )

none_of : (o : Option ℕ) → ((n : ℕ) → o ≡ Some n → ⊥) → o ≡ None
none_of None h = refl
none_of (Some n) h = absurd (h n refl)

pub no_number : (word : List ℕ) → ((n : ℕ) → n < 2 ^ 32 → word ≡ decimal n → ⊥) → number_of word ≡ None
no_number word h = none_of (number_of word) (λ n is. let w = number_was word n is in h n w.1 w.0)

-- what `parse` makes of a decimal, whatever its errors are
pub never_refused : (n : ℕ) (bs : List ℕ) → n < 2 ^ 32 → bs ≡ decimal n → ParsesUnsigned {E = ℕ} 32 10 bs (Err 0) → ⊥
never_refused n bs small is h = apart n (parse-decimal {E = ℕ} 32 n bs (Err 0) small (omega (arith, small)) is h)
  where
    apart : (n : ℕ) → ◌≡◌ {A = Result ℕ ℕ} (Err 0) (Ok n) → ⊥
    apart n h = search (rules, h)

pub read_so : (m n : ℕ) (bs : List ℕ) → n < 2 ^ 32 → bs ≡ decimal n → ParsesUnsigned {E = ℕ} 32 10 bs (Ok m) → m ≡ n
read_so m n bs small is h = same m n (parse-decimal {E = ℕ} 32 n bs (Ok m) small (omega (arith, small)) is h)
  where
    same : (m n : ℕ) → ◌≡◌ {A = Result ℕ ℕ} (Ok m) (Ok n) → m ≡ n
    same m n h = search (rules, h)
