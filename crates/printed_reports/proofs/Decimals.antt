-- What `decimal` gives for any number, also for one of more than its 64 digits.
use Rattle.std.proofs.Common.{◌≡◌, ◌≢◌, ℕ, zero, suc, ◌+◌, ◌*◌, ◌/◌, ◌%◌, ◌^◌, ◌<◌, ◌≤◌, Bool, true, false, ◌&&◌, if◌then◌else◌, List, [], ◌∷◌, ◌++◌, length, refl, sym, ap, ◌∙◌, subst, arith, inl, inr, ne_eqb}
use Rattle.std.specs.Prelude.{nat_le, nat_lt, ◌==◌, decimal, slice_index_or}
use Rattle.std.specs.List.{list_all, slice_split}
use Rattle.std.specs.Fmt.{digit_glyph, digits_onto, digits}
use Rattle.std.proofs.lemmas.Bool.{cases_lt}
use Rattle.std.proofs.lemmas.Bool.Decides.{nat_tests}
use Rattle.std.proofs.lemmas.Fmt.{decimal_injective, length-decimal-le}
use Rattle.printed_reports.proofs.Cuts.{IsApart, cut_none, cut_one}

-- ---- its bytes are at least those of digits

abbrev pub is_high : ℕ → Bool
is_high b = nat_le 48 b

glyph_high : (d : ℕ) → is_high (digit_glyph false d) ≡ true
glyph_high d = either (nat_lt d 10)
  where
    either : (t : Bool) → is_high (if t then 48 + d else 87 + d) ≡ true
    either true = grind (arith, nat_tests)
    either false = grind (arith, nat_tests)

onto_high : (k n : ℕ) (acc : List ℕ) → list_all is_high acc ≡ true → list_all is_high (digits_onto k 10 false n acc) ≡ true
onto_high zero n acc h = h
onto_high (suc k) n acc h =
    let glyph = digit_glyph false (n % 10) in
    let one : list_all is_high (glyph ∷ acc) ≡ true = λ i. glyph_high (n % 10) i && h i in
    either (n / 10 == 0) (glyph ∷ acc) (digits_onto k 10 false (n / 10) (glyph ∷ acc)) one (onto_high k (n / 10) (glyph ∷ acc) one)
  where
    either : (t : Bool) (xs ys : List ℕ) → list_all is_high xs ≡ true → list_all is_high ys ≡ true → list_all is_high (if t then xs else ys) ≡ true
    either true xs ys h k = h
    either false xs ys h k = k

pub high_decimal : (n : ℕ) → list_all is_high (decimal n) ≡ true
unfolding digits
high_decimal n = onto_high 64 n [] refl

-- ---- a small number has the digits of no other

kept_long : (k n : ℕ) (acc : List ℕ) → length acc ≤ length (digits_onto k 10 false n acc)
kept_long zero n acc = omega arith
kept_long (suc k) n acc =
    let glyph = digit_glyph false (n % 10) in
    let more = kept_long k (n / 10) (glyph ∷ acc) in
    either (n / 10 == 0) (glyph ∷ acc) (digits_onto k 10 false (n / 10) (glyph ∷ acc)) (omega arith) (omega (arith, more))
  where
    either : (t : Bool) (xs ys : List ℕ) → length acc ≤ length xs → length acc ≤ length ys → length acc ≤ length (if t then xs else ys)
    either true xs ys h k = h
    either false xs ys h k = k

abbrev tens : ℕ → ℕ
tens zero = 1
tens (suc j) = 10 * tens j

some_tens : (j : ℕ) → 0 < tens j
some_tens zero = omega arith
some_tens (suc j) = omega (arith, some_tens j)

-- a number of more than j digits gives more than j
onto_long : (k j n : ℕ) (acc : List ℕ) → j ≤ k → tens j ≤ n → j + length acc ≤ length (digits_onto k 10 false n acc)
onto_long k zero n acc less big = omega (arith, kept_long k n acc)
onto_long zero (suc j) n acc less big = absurd (omega (arith, less))
onto_long (suc k) (suc j) n acc less big =
    let glyph = digit_glyph false (n % 10) in
    let some = some_tens j in
    let rest : tens j ≤ n / 10 = omega (arith, big) in
    let more : n / 10 ≢ 0 = λ e. omega (arith, e, rest, some) in
    let other : (n / 10 == 0) ≡ false = ne_eqb (n / 10) 0 more in
    let longer = onto_long k j (n / 10) (glyph ∷ acc) (omega (arith, less)) rest in
    subst (λ t. suc j + length acc ≤ length (if t then glyph ∷ acc else digits_onto k 10 false (n / 10) (glyph ∷ acc))) (sym other) (omega (arith, longer))

long_decimal : (n : ℕ) → 2 ^ 64 ≤ n → 11 ≤ length (decimal n)
unfolding digits
long_decimal n big = omega (arith, onto_long 64 11 n [] (omega arith) (omega (arith, big)))

pub same_number : (n m : ℕ) → m < 2 ^ 32 → decimal n ≡ decimal m → n ≡ m
same_number n m small same = elim (cases_lt n (2 ^ 64)) [
  | inl few ↦ decimal_injective n m few (omega (arith, small)) same
  | inr many ↦
      let short = length-decimal-le 10 m (omega arith) (omega (arith, small)) (omega (arith, small)) in
      absurd (omega (arith, long_decimal n many, short, ap length same))
]

-- ---- two numbers with a stroke between them

not_stroke : IsApart (λ b. b == 47) is_high
not_stroke b h = grind (arith, nat_tests, h)

two_parts : (p l : ℕ) → slice_split (λ b. b == 47) (decimal p ++ 47 ∷ decimal l) ≡ decimal p ∷ decimal l ∷ []
two_parts p l = cut_one (λ b. b == 47) is_high not_stroke (decimal p) 47 (decimal l) (high_decimal p) refl
    ∙ ap (λ parts. decimal p ∷ parts) (cut_none (λ b. b == 47) is_high not_stroke (decimal l) (high_decimal l))

pub same_parts : (p l a b : ℕ) → a < 2 ^ 32 → b < 2 ^ 32 → decimal p ++ 47 ∷ decimal l ≡ decimal a ++ 47 ∷ decimal b → (p ≡ a) × (l ≡ b)
same_parts p l a b small_a small_b same =
    let parts : decimal p ∷ decimal l ∷ [] ≡ decimal a ∷ decimal b ∷ [] =
    sym (two_parts p l) ∙ ap (slice_split (λ x. x == 47)) same ∙ two_parts a b in (
      same_number p a small_a (ap (λ xs. slice_index_or xs 0 []) parts),
      same_number l b small_b (ap (λ xs. slice_index_or xs 1 []) parts),
    )
