-- What went out, one text after another.
use Rattle.std.proofs.Common.{◌≡◌, ℕ, Bool, true, false, ◌&&◌, ◌+◌, ◌<◌, ◌≤◌, List, [], ◌∷◌, ◌++◌, Option, Result, Ok, Err, IsErr, arith, length, take, drop, take-append-drop, slice_index_or, sym, ap, ◌∙◌, subst, length-append}
use Rattle.std.proofs.lemmas.Bool.{false≢true}
use Rattle.std.proofs.lemmas.List.{take-append-le, take_all, take_more, append-nil}
use Rattle.std.proofs.Math.Seq.{take-append_seam, take-append-add}
use Rattle.std.specs.Io.KnownBytes.{Appends}
use Rattle.std.proofs.KnownBytes.{Appends-trans}
use Rattle.std.specs.List.{flat_map, range_with_len, list_all}
use Rattle.std.proofs.lemmas.List.Folds.{list_all_more, list_all_at}
use Rattle.std.proofs.lemmas.List.FromFn.{get_or-range_with_len, length-range_with_len}
use Rattle.std.proofs.lemmas.List.Concat.{flat_map-append}
use Rattle.report.specs.declared.outlet.WriteFault.{WriteFault}
use Rattle.report.specs.Taken.{AppendsPrefix, Writes}

-- a front of a text that went out whole
pub is_front : (a b : Option (List ℕ)) (text done rest : List ℕ) → text ≡ done ++ rest → Appends a b done → AppendsPrefix a b text
is_front a b text done rest split taken =
    let length_is : length text ≡ length done + length rest = ap length split ∙ length-append done rest in
    let front : take (length done) text ≡ done = ap (take (length done)) split ∙ take-append_seam done rest in
    record { count = length done; within = omega (arith, length_is); taken = subst (Appends a b) (sym front) taken }

-- a prefix of the first of two texts
pub in_first : (a b : Option (List ℕ)) (first second : List ℕ) → AppendsPrefix a b first → AppendsPrefix a b (first ++ second)
in_first a b first second p = record {
  count = p.count;
  within = omega (arith, p.within, length-append first second);
  taken = subst (Appends a b) (sym (take-append-le p.count first second p.within)) p.taken;
}

-- the first of two texts, and a prefix of the second
pub in_second : (a b c : Option (List ℕ)) (first second : List ℕ) → Appends a b first → AppendsPrefix b c second → AppendsPrefix a c (first ++ second)
in_second a b c first second whole p = record {
  count = length first + p.count;
  within = omega (arith, p.within, length-append first second);
  taken = subst (Appends a c) (sym (take-append-add first second p.count)) (Appends-trans a b c first (take p.count second) whole p.taken);
}

-- the same, by an equal text
pub appends_same : (a b : Option (List ℕ)) (x y : List ℕ) → x ≡ y → Appends a b x → Appends a b y
appends_same a b x y same taken = subst (Appends a b) same taken

pub prefix_same : (a b : Option (List ℕ)) (x y : List ℕ) → x ≡ y → AppendsPrefix a b x → AppendsPrefix a b y
prefix_same a b x y same taken = subst (AppendsPrefix a b) same taken

-- ---- texts of a list's elements, one after another

one_more : {X : Type 0} (f : X → List ℕ) (xs : List X) (i : ℕ) (d : X) → i < length xs →
    flat_map f (take (i + 1) xs) ≡ flat_map f (take i xs) ++ f (slice_index_or xs i d)
one_more f xs i d inside =
    ap (flat_map f) (take_more xs i d inside) ∙ flat_map-append f (take i xs) (slice_index_or xs i d ∷ [])
    ∙ ap (λ rest. flat_map f (take i xs) ++ rest) (append-nil (f (slice_index_or xs i d)))

-- one more element went out whole
pub each_goes : {X : Type 0} (f : X → List ℕ) (xs : List X) (i : ℕ) (d x : X) (a b c : Option (List ℕ)) → i < length xs → x ≡ slice_index_or xs i d →
    Appends a b (flat_map f (take i xs)) → Appends b c (f x) → Appends a c (flat_map f (take (i + 1) xs))
each_goes f xs i d x a b c inside is done more =
    subst (Appends a c) (ap (λ y. flat_map f (take i xs) ++ f y) is ∙ sym (one_more f xs i d inside)) (Appends-trans a b c _ _ done more)

-- a prefix of one more element went out
pub each_stops : {X : Type 0} (f : X → List ℕ) (xs : List X) (i : ℕ) (d x : X) (a b c : Option (List ℕ)) → i < length xs → x ≡ slice_index_or xs i d →
    Appends a b (flat_map f (take i xs)) → AppendsPrefix b c (f x) → AppendsPrefix a c (flat_map f xs)
each_stops f xs i d x a b c inside is done more =
    let front : AppendsPrefix a c (flat_map f (take (i + 1) xs)) =
    subst (AppendsPrefix a c) (ap (λ y. flat_map f (take i xs) ++ f y) is ∙ sym (one_more f xs i d inside)) (in_second a b c _ _ done more) in
    let whole : flat_map f (take (i + 1) xs) ++ flat_map f (drop (i + 1) xs) ≡ flat_map f xs =
    sym (flat_map-append f (take (i + 1) xs) (drop (i + 1) xs)) ∙ ap (flat_map f) (take-append-drop (i + 1) xs) in
    subst (AppendsPrefix a c) whole (in_first a c _ _ front)

-- the number i among the numbers below n
pub number_at : (n i : ℕ) → i < n → i ≡ slice_index_or (range_with_len 0 n) i 0
number_at n i inside = sym (get_or-range_with_len 0 n i 0 inside ∙ omega arith)

pub number_inside : (n i : ℕ) → i < n → i < length (range_with_len 0 n)
number_inside n i inside = omega (arith, inside, length-range_with_len 0 n)

-- the first of the numbers below n, where they are all
pub all_numbers : (n i : ℕ) → n ≤ i → take i (range_with_len 0 n) ≡ range_with_len 0 n
all_numbers n i past = take_all i (range_with_len 0 n) (omega (arith, past, length-range_with_len 0 n))

-- a test of every number below n
pub all_so_far : (p : ℕ → Bool) (n i : ℕ) → i < n → list_all p (take i (range_with_len 0 n)) ≡ true → p i ≡ true
    → list_all p (take (i + 1) (range_with_len 0 n)) ≡ true
all_so_far p n i inside before here =
    let is = sym (number_at n i inside) in
    list_all_more p (range_with_len 0 n) i 0 (number_inside n i inside) ∙ ap (λ b. b && p (slice_index_or (range_with_len 0 n) i 0)) before ∙ ap p is ∙ here

pub one_fails : (p : ℕ → Bool) (n i : ℕ) → i < n → p i ≡ false → list_all p (range_with_len 0 n) ≡ false
one_fails p n i inside fails = list_all_at p (range_with_len 0 n) i 0 (number_inside n i inside) (ap p (sym (number_at n i inside)) ∙ fails)

-- ---- results

pub writes_err : (a b : Option (List ℕ)) (n m : ℕ) (text : List ℕ) (r : Result (Unit {0}) WriteFault) → IsErr r → AppendsPrefix a b text → m ≡ n + 1
    → Writes a b n m text r
writes_err a b n m text (Ok done) is p failed = absurd (false≢true is)
writes_err a b n m text (Err fault) is p failed = (p, failed)

-- the second of two texts, after the first went out whole
pub writes_after : (a b c : Option (List ℕ)) (n m k : ℕ) (first second : List ℕ) (r : Result (Unit {0}) WriteFault) →
    Appends a b first → m ≡ n → Writes b c m k second r → Writes a c n k (first ++ second) r
writes_after a b c n m k first second (Ok done) whole well w = (Appends-trans a b c first second whole w.0, w.1 ∙ well)
writes_after a b c n m k first second (Err fault) whole well w = (in_second a b c first second whole w.0, w.1 ∙ ap (λ x. x + 1) well)

-- the same, by an equal text
pub writes_same : (a b : Option (List ℕ)) (n m : ℕ) (x y : List ℕ) (r : Result (Unit {0}) WriteFault) → x ≡ y → Writes a b n m x r → Writes a b n m y r
writes_same a b n m x y r same w = subst (λ text. Writes a b n m text r) same w
