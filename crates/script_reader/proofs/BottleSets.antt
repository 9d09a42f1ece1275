-- Sets of bottles, one bottle at a time.
use Rattle.std.proofs.Common.{◌≡◌, ℕ, ◌+◌, ◌*◌, ◌%◌, ◌^◌, ◌<◌, Bool, true, false, if◌then◌else◌, not, ◌||◌, ◌&&◌, List, [], ◌∷◌, ◌++◌, refl, sym, ap, ◌∙◌, arith, append_assoc, append-nil, ⊎_elim}
use Rattle.std.specs.Prelude.{Option, None, Some, map, max, bit_or, bit_and, ◌==◌}
use Rattle.std.specs.List.{list_any}
use Rattle.std.specs.Option.{option_map, option_and_then}
use Rattle.std.specs.Int.{bit_at}
use Rattle.std.proofs.lemmas.Bool.{cases_Bool, false_from_ne_true, true≢false}
use Rattle.std.proofs.lemmas.Bool.Decides.{Decides-eqb}
use Rattle.std.proofs.lemmas.List.{map-append}
use Rattle.std.proofs.lemmas.List.Folds.{list_any-append}
use Rattle.std.proofs.lemmas.List.Sums.{sum_by-append}
use Rattle.std.proofs.lemmas.Nat.{or_disjoint, pow_pos, pow_below}
use Rattle.std.proofs.lemmas.Nat.Bits.{bit_at-zero, bit_at_or, bit_at-pow_same, bit_at-pow_other, and_pow}
use Rattle.script_reader.specs.Steps.{all_there, is_distinct, set_of}

-- ---- lists of numbers that are there

pub all_there-append : (xs ys : List (Option ℕ)) → all_there (xs ++ ys) ≡ option_and_then (λ ks. option_map (λ more. ks ++ more) (all_there ys)) (all_there xs)
all_there-append [] ys = same (all_there ys)
  where
    same : (o : Option (List ℕ)) → o ≡ option_map (λ more. more) o
    same None = refl
    same (Some more) = refl
all_there-append (None ∷ xs) ys = refl
all_there-append (Some k ∷ xs) ys = ap (option_map (λ ks. k ∷ ks)) (all_there-append xs ys) ∙ shifted (all_there xs) (all_there ys)
  where
    shifted : (o p : Option (List ℕ)) → option_map (λ ks. k ∷ ks) (option_and_then (λ ks. option_map (λ more. ks ++ more) p) o)
        ≡ option_and_then (λ ks. option_map (λ more. ks ++ more) p) (option_map (λ ks. k ∷ ks) o)
    shifted None p = refl
    shifted (Some ks) None = refl
    shifted (Some ks) (Some more) = refl

pub all_there-push : (xs : List (Option ℕ)) (ks : List ℕ) (k : ℕ) → all_there xs ≡ Some ks → all_there (xs ++ Some k ∷ []) ≡ Some (ks ++ k ∷ [])
all_there-push xs ks k is = all_there-append xs (Some k ∷ []) ∙ ap (option_and_then (λ ks. option_map (λ more. ks ++ more) (Some (k ∷ [])))) is

pub all_there-none : (xs ys : List (Option ℕ)) → all_there (xs ++ None ∷ ys) ≡ None
all_there-none xs ys = all_there-append xs (None ∷ ys) ∙ never (all_there xs)
  where
    never : (o : Option (List ℕ)) → option_and_then (λ ks. option_map (λ more. ks ++ more) None) o ≡ None
    never None = refl
    never (Some ks) = refl

-- ---- members

abbrev pub is_member : ℕ → List ℕ → Bool
is_member k ks = list_any (λ other. other == k) ks

member-push : (k j : ℕ) (ks : List ℕ) → is_member k (ks ++ j ∷ []) ≡ (is_member k ks || j == k)
member-push k j [] = or_false (j == k)
  where
    or_false : (a : Bool) → (a || false) ≡ (false || a)
    or_false true = refl
    or_false false = refl
member-push k j (x ∷ ks) = ap (λ b. x == k || b) (member-push k j ks) ∙ or_assoc (x == k) (is_member k ks) (j == k)
  where
    or_assoc : (a b c : Bool) → (a || (b || c)) ≡ ((a || b) || c)
    or_assoc true b c = refl
    or_assoc false b c = refl

other_way : (a b : ℕ) → (a == b) ≡ (b == a)
other_way a b =
    ⊎_elim
    (λ e. e ∙ sym ((Decides-eqb b a).1 (sym ((Decides-eqb a b).0 e))))
    (λ e. e ∙ sym (false_from_ne_true (b == a) (λ h. true≢false (sym ((Decides-eqb a b).1 (sym ((Decides-eqb b a).0 h))) ∙ e))))
    (cases_Bool (a == b))

and_both : (a b : Bool) → (a && b) ≡ true → (a ≡ true) × (b ≡ true)
and_both true b e = (refl, e)
and_both false b e = cc

or_neither : (a b : Bool) → (a || b) ≡ false → (a ≡ false) × (b ≡ false)
or_neither true b e = cc
or_neither false b e = (refl, e)

not_true : (a : Bool) → not a ≡ true → a ≡ false
not_true true e = cc
not_true false e = refl

-- another number keeps the list distinct
pub distinct-push : (ks : List ℕ) (k : ℕ) → is_distinct ks ≡ true → is_member k ks ≡ false → is_distinct (ks ++ k ∷ []) ≡ true
distinct-push [] k e isnt = refl
distinct-push (x ∷ ks) k e isnt =
    let parts = and_both (not (is_member x ks)) (is_distinct ks) e in
    let apart = or_neither (x == k) (is_member k ks) isnt in
    let head : is_member x (ks ++ k ∷ []) ≡ false = member-push x k ks ∙ (λ i. not_true (is_member x ks) parts.0 i || (other_way k x ∙ apart.0) i) in
    rw head (distinct-push ks k parts.1 apart.1)

-- a number that is there twice
pub distinct-twice : (ks : List ℕ) (k : ℕ) (more : List ℕ) → is_member k ks ≡ true → is_distinct (ks ++ k ∷ more) ≡ false
distinct-twice [] k more is = cc
distinct-twice (x ∷ ks) k more is =
    ⊎_elim
    (λ here. let there : is_member x (ks ++ k ∷ more) ≡ true = list_any-append (λ other. other == x) ks (k ∷ more)
    ∙ (λ i. is_member x ks || ((other_way k x ∙ here) i || is_member x more)) ∙ or_true (is_member x ks) in rw there refl)
    (λ here. let later : is_member k ks ≡ true = rw here at is in ap (λ b. not (is_member x (ks ++ k ∷ more)) && b) (distinct-twice ks k more later)
    ∙ and_false (not (is_member x (ks ++ k ∷ more))))
    (cases_Bool (x == k))
  where
    or_true : (a : Bool) → (a || true) ≡ true
    or_true true = refl
    or_true false = refl

    and_false : (a : Bool) → (a && false) ≡ false
    and_false true = refl
    and_false false = refl

-- ---- bits

-- bit k says whether k is a member
abbrev pub Shows : ℕ → List ℕ → Type 0
Shows set ks = (k : ℕ) → bit_at set k ≡ (if is_member k ks then 1 else 0)

pub shows-nil : Shows 0 []
shows-nil k = bit_at-zero k

set_more : (ks : List ℕ) (k : ℕ) → set_of (ks ++ k ∷ []) ≡ set_of ks + 2 ^ k
set_more ks k = sum_by-append (λ (n : ℕ). 2 ^ n) ks (k ∷ []) ∙ ap (λ n. set_of ks + n) (omega arith)

pub set-push : (set : ℕ) (ks : List ℕ) (k : ℕ) → set ≡ set_of ks → Shows set ks → is_member k ks ≡ false → bit_or set (2 ^ k) ≡ set_of (ks ++ k ∷ [])
set-push set ks k is shows isnt =
    let clear : bit_at set k ≡ 0 = shows k ∙ ap (λ b. if b then 1 else 0) isnt in
    let apart : bit_and set (2 ^ k) ≡ 0 = and_pow set k ∙ ap (λ b. b * 2 ^ k) clear ∙ omega arith in
    or_disjoint set (2 ^ k) apart ∙ ap (λ n. n + 2 ^ k) is ∙ sym (set_more ks k)

max_one : (b : Bool) → max (if b then 1 else 0) 1 ≡ (if b || true then 1 else 0)
max_one true = refl
max_one false = refl

max_zero : (b : Bool) → max (if b then 1 else 0) 0 ≡ (if b || false then 1 else 0)
max_zero true = refl
max_zero false = refl

pub shows-push : (set : ℕ) (ks : List ℕ) (k : ℕ) → Shows set ks → Shows (bit_or set (2 ^ k)) (ks ++ k ∷ [])
shows-push set ks k shows i =
    let number : Bool → ℕ = λ b. if b then 1 else 0 in
    ⊎_elim
    (λ same.
    let one : bit_at (2 ^ k) i ≡ 1 = ap (bit_at (2 ^ k)) (sym ((Decides-eqb k i).0 same)) ∙ bit_at-pow_same k in
    bit_at_or set (2 ^ k) i ∙ (λ j. max (shows i j) (one j)) ∙ max_one (is_member i ks)
    ∙ ap number (sym (member-push i k ks ∙ ap (λ b. is_member i ks || b) same)))
    (λ other.
    let none : bit_at (2 ^ k) i ≡ 0 = bit_at-pow_other k i (λ e. true≢false (sym ((Decides-eqb k i).1 (sym e)) ∙ other)) in
    bit_at_or set (2 ^ k) i ∙ (λ j. max (shows i j) (none j)) ∙ max_zero (is_member i ks)
    ∙ ap number (sym (member-push i k ks ∙ ap (λ b. is_member i ks || b) other)))
    (cases_Bool (k == i))

bit_of : (set : ℕ) (ks : List ℕ) (k : ℕ) (there : Bool) → Shows set ks → is_member k ks ≡ there → bit_and set (2 ^ k) ≡ (if there then 1 else 0) * 2 ^ k
bit_of set ks k there shows is = and_pow set k ∙ ap (λ b. b * 2 ^ k) (shows k ∙ ap (λ b. if b then 1 else 0) is)

pub no_member : (set : ℕ) (ks : List ℕ) (k : ℕ) → Shows set ks → bit_and set (2 ^ k) ≡ 0 → is_member k ks ≡ false
no_member set ks k shows e =
    ⊎_elim
    (λ there. let bit = bit_of set ks k true shows there in let some = pow_pos k in absurd (omega (arith, bit, e, some)))
    (λ isnt. isnt)
    (cases_Bool (is_member k ks))

pub is_there : (set : ℕ) (ks : List ℕ) (k : ℕ) → Shows set ks → (bit_and set (2 ^ k) ≡ 0 → ⊥) → is_member k ks ≡ true
is_there set ks k shows some =
    ⊎_elim
    (λ there. there)
    (λ isnt. absurd (some (bit_of set ks k false shows isnt ∙ omega arith)))
    (cases_Bool (is_member k ks))

-- the bit of a bottle, as the code makes it
pub one_bit : (k : ℕ) → k < 28 → 1 * 2 ^ k % 4294967296 ≡ 2 ^ k
one_bit k few = let below = pow_below k 32 (omega arith) in omega (arith, below)

-- ---- the set of some names, by what gives each its bottle

abbrev pub set_by : (List ℕ → Option ℕ) → List (List ℕ) → Option ℕ
set_by f names = option_and_then (λ ks. if is_distinct ks then Some (set_of ks) else None) (all_there (map f names))

-- the loop's invariant: the bottles of these names are in the set, and these names are left
pub record IsSet (f : List ℕ → Option ℕ) (names done rest : List (List ℕ)) (ks : List ℕ) (set : ℕ) : Type 0 where
  pub split : names ≡ done ++ rest
  pub there : all_there (map f done) ≡ Some ks
  pub distinct : is_distinct ks ≡ true
  pub set_is : set ≡ set_of ks
  pub shows : Shows set ks

pub begins : (f : List ℕ → Option ℕ) (names : List (List ℕ)) → IsSet f names [] names [] 0
begins f names = record { split = refl; there = refl; distinct = refl; set_is = refl; shows = shows-nil }

pub goes_on : (f : List ℕ → Option ℕ) (names done rest : List (List ℕ)) (ks : List ℕ) (set : ℕ) (name : List ℕ) (k : ℕ)
    → IsSet f names done (name ∷ rest) ks set → f name ≡ Some k → bit_and set (2 ^ k) ≡ 0
    → IsSet f names (done ++ name ∷ []) rest (ks ++ k ∷ []) (bit_or set (2 ^ k))
goes_on f names done rest ks set name k h is clear =
    let isnt = no_member set ks k h.shows clear in
    record {
      split = h.split ∙ sym (append_assoc done (name ∷ []) rest);
      there = ap all_there (map-append f done (name ∷ []) ∙ ap (λ o. map f done ++ o ∷ []) is) ∙ all_there-push (map f done) ks k h.there;
      distinct = distinct-push ks k h.distinct isnt;
      set_is = set-push set ks k h.set_is h.shows isnt;
      shows = shows-push set ks k h.shows;
    }

pub ends : (f : List ℕ → Option ℕ) (names done : List (List ℕ)) (ks : List ℕ) (set : ℕ) → IsSet f names done [] ks set → set_by f names ≡ Some set
ends f names done ks set h =
    let all : all_there (map f names) ≡ Some ks = ap (λ l. all_there (map f l)) (h.split ∙ append-nil done) ∙ h.there in
    ap (option_and_then (λ ks. if is_distinct ks then Some (set_of ks) else None)) all ∙ rw h.distinct (ap Some (sym h.set_is))

-- the names from this one on
from_here : (f : List ℕ → Option ℕ) (names done rest : List (List ℕ)) (ks : List ℕ) (set : ℕ) (name : List ℕ) (o : Option ℕ)
    → IsSet f names done (name ∷ rest) ks set → f name ≡ o → all_there (map f names) ≡ all_there (map f done ++ o ∷ map f rest)
from_here f names done rest ks set name o h is = ap (λ l. all_there (map f l)) h.split
    ∙ ap all_there (map-append f done (name ∷ rest)) ∙ ap (λ x. all_there (map f done ++ x ∷ map f rest)) is

pub missing : (f : List ℕ → Option ℕ) (names done rest : List (List ℕ)) (ks : List ℕ) (set : ℕ) (name : List ℕ)
    → IsSet f names done (name ∷ rest) ks set → f name ≡ None → set_by f names ≡ None
missing f names done rest ks set name h is =
    ap (option_and_then (λ ks. if is_distinct ks then Some (set_of ks) else None)) (from_here f names done rest ks set name None h is
    ∙ all_there-none (map f done) (map f rest))

pub twice : (f : List ℕ → Option ℕ) (names done rest : List (List ℕ)) (ks : List ℕ) (set : ℕ) (name : List ℕ) (k : ℕ)
    → IsSet f names done (name ∷ rest) ks set → f name ≡ Some k → (bit_and set (2 ^ k) ≡ 0 → ⊥) → set_by f names ≡ None
twice f names done rest ks set name k h is some =
    let there = is_there set ks k h.shows some in
    let found : all_there (map f names) ≡ option_and_then (λ ks. option_map (λ more. ks ++ more) (all_there (Some k ∷ map f rest))) (Some ks) =
    from_here f names done rest ks set name (Some k) h is ∙ all_there-append (map f done) (Some k ∷ map f rest)
    ∙ ap (option_and_then (λ ks. option_map (λ more. ks ++ more) (all_there (Some k ∷ map f rest)))) h.there in
    ap (option_and_then (λ ks. if is_distinct ks then Some (set_of ks) else None)) found ∙ refused (all_there (map f rest)) there
  where
    refused : (o : Option (List ℕ)) → is_member k ks ≡ true
        → option_and_then (λ ks. if is_distinct ks then Some (set_of ks) else None) (option_map (λ more. ks ++ more) (option_map (λ more. k ∷ more) o)) ≡ None
    refused None there = refl
    refused (Some more) there = rw (distinct-twice ks k more there) refl
