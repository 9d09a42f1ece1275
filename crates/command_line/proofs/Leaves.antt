-- What clap makes of the values of a word.
use Rattle.std.proofs.Common.{◌≡◌, ◌∙◌, ◌⊎◌, inl, inr, ◌≤◌, ◌==◌, ℕ, Bool, true, false, List, [], ◌∷◌, Some, None, refl, sym, ap, subst, codes, if◌then◌else◌, fold, arith, length}
use Rattle.std.specs.Prelude.{nat_lt, nat_le, ◌^◌, option_and_then, unwrap_or}
use Rattle.std.specs.Option.{option_map_or}
use Rattle.std.proofs.lemmas.Bool.{leb-true, lt-ltb}
use Rattle.std.specs.Str.Parse.{digits_value, without_leading_plus}
use Rattle.clap.specs.Lexer.{long_of, short_of}
use Rattle.clap.specs.Kinds.{Kinds, or_else}
use Rattle.clap.specs.Words.{App}
use Rattle.clap.specs.Simple.{Shape, built_leaf, filled, inherited, with_index}
use Rattle.clap.specs.ValueTests.{is_numeral, is_unsigned_in}
use Rattle.clap.specs.Walk.{Held, Rule, Text, arg_by_index, finished, is_multiple, nothing_held, one_of, rows_after, settled, walked}
use Rattle.clap.specs.Faults.{check_fault, defaults_fault, level_fault, settle_fault, walk_fault}
use Rattle.clap.proofs.OnLiterals.{clap_on_literals}
use Rattle.clap.proofs.WalkLemmas.{both}
use Rattle.command_line.specs.Command.{number_rule, optional_rule, program_app, word_app, word_of_number, word_of_numbers, word_of_optional_number}
use Rattle.command_line.specs.Grammar.{number_within, values_given}
use Rattle.command_line.specs.Reading.{number_found, number_read}
use Rattle.command_line.proofs.Flags.{IsPlainRules, first_nil, help_flag, second_nil}
use Rattle.command_line.proofs.Walks.{AreValues, between, both_nil, within, without}

abbrev end_fault : Shape → Held → Kinds
end_fault s end =
    or_else (settle_fault s.rules s.args_override_self end) (or_else (defaults_fault (settled s.rules end).rows s.rules) (check_fault s (finished s.rules end) false))

abbrev pub behind : Shape → List Text → Held
behind s vs = (fold (walked s.rules []) (between [] None 1 true) vs).held

-- what fails of values behind `--`
abbrev pub behind_fault : Shape → List Text → Kinds
behind_fault s vs = or_else (walk_fault s [] (between [] None 1 true) vs) (end_fault s (behind s vs))

abbrev pub fault_at : Shape → List Text → Kinds
fault_at s rest = level_fault s [] nothing_held rest false []

pub level_behind : (s : Shape) → IsPlainRules s.rules → (rest : List Text) → fault_at s rest ≡ []
    → (behind_fault s (values_given rest) ≡ []) × (rows_after s.rules [] rest ≡ finished s.rules (behind s (values_given rest)))
level_behind s k rest h =
    let w = without s k [] None 1 rest (first_nil _ _ h) in
    (both_nil _ _ w.0 (subst (λ (x : Held). end_fault s x ≡ []) w.1 (second_nil _ _ h)), ap (finished s.rules) w.1)

pub behind_level : (s : Shape) → IsPlainRules s.rules → (rest : List Text) → AreValues (values_given rest) → behind_fault s (values_given rest) ≡ []
    → fault_at s rest ≡ []
behind_level s k rest all h =
    let walk = within s k [] None 1 rest all (first_nil _ _ h) in
    let w = without s k [] None 1 rest walk in
    both_nil _ _ walk (subst (λ (x : Held). end_fault s x ≡ []) (sym w.1) (second_nil _ _ h))

-- ---- the four kinds of words

abbrev pub leaf : App → Shape
leaf a = built_leaf (inherited (program_app []).top a.top)

pub plain_none : (name : Text) → IsPlainRules (leaf (word_app name)).rules
plain_none name = record { long = λ n. refl; short = λ x. refl; single = λ i a h. cc }

pub no_values : (name : Text) (vs : List Text) → behind_fault (leaf (word_app name)) vs ≡ [] → vs ≡ []
unfolding clap_on_literals
no_values name [] h = refl
no_values name (v ∷ vs) h = cc

pub none_pass : (name : Text) → behind_fault (leaf (word_app name)) [] ≡ []
unfolding clap_on_literals
none_pass name = refl

abbrev IsSingle : Rule → Type 0
IsSingle a = (is_multiple a ≡ false) × (a.trailing_var_arg ≡ false)

place_here : (i : ℕ) (x : Rule) (xs : List Rule) (a : Rule) → IsSingle x → (arg_by_index xs i ≡ Some a → IsSingle a) → arg_by_index (x ∷ xs) i ≡ Some a → IsSingle a
place_here i x xs a fine later h = go (option_map_or (λ k. k == i) x.index false) h
  where
    go : (b : Bool) → (if b then Some x else arg_by_index xs i) ≡ Some a → IsSingle a
    go true e = subst IsSingle (ap (λ o. unwrap_or o x) e) fine
    go false e = later e

abbrev place : ℕ → Rule → Rule
place i a = with_index i (filled a)

pub plain_one : (name : Text) (l m : ℕ) → IsPlainRules (leaf (word_of_number name l m)).rules
plain_one name l m = record {
  long = λ n. refl;
  short = λ x. refl;
  single = λ i a. place_here i (place 1 (number_rule (codes "N") l m)) (help_flag ∷ []) a (refl, refl) (place_here i help_flag [] a (refl, refl) (λ h. cc));
}

pub plain_optional : (name : Text) (l m : ℕ) → IsPlainRules (leaf (word_of_optional_number name l m)).rules
plain_optional name l m = record {
  long = λ n. refl;
  short = λ x. refl;
  single = λ i a. place_here i (place 1 (optional_rule (codes "N") l m)) (help_flag ∷ []) a (refl, refl) (place_here i help_flag [] a (refl, refl) (λ h. cc));
}

pub plain_two : (name : Text) (j k l m : ℕ) → IsPlainRules (leaf (word_of_numbers name j k l m)).rules
plain_two name j k l m = record {
  long = λ n. refl;
  short = λ x. refl;
  single = λ i a. place_here i (place 1 (number_rule (codes "W") j k)) (place 2 (number_rule (codes "N") l m) ∷ help_flag ∷ []) a (refl, refl)
      (place_here i (place 2 (number_rule (codes "N") l m)) (help_flag ∷ []) a (refl, refl) (place_here i help_flag [] a (refl, refl) (λ h. cc)));
}

-- ---- numbers

abbrev pub IsNumber : ℕ → ℕ → Text → Type 0
IsNumber l m v = is_unsigned_in l m v ≡ true

-- one number is wanted, and it is there
pub one_value : (name : Text) (l m : ℕ) (vs : List Text) → behind_fault (leaf (word_of_number name l m)) vs ≡ []
    → (v : Text) × (vs ≡ v ∷ []) × IsNumber l m v
unfolding clap_on_literals
one_value name l m [] h = cc
one_value name l m (v ∷ w ∷ vs) h = cc
one_value name l m (v ∷ []) h = (v, refl, go (is_unsigned_in l m v) refl)
  where
    go : (b : Bool) → is_unsigned_in l m v ≡ b → is_unsigned_in l m v ≡ true
    go true e = e
    go false e = let bad = rw e at h in cc

pub one_passes : (name : Text) (l m : ℕ) (v : Text) → IsNumber l m v → behind_fault (leaf (word_of_number name l m)) (v ∷ []) ≡ []
unfolding clap_on_literals
one_passes name l m v good = rw good refl

pub one_found : (name : Text) (l m : ℕ) (v : Text) → one_of (codes "N") (finished (leaf (word_of_number name l m)).rules (behind (leaf (word_of_number name l m)) (v ∷ []))) ≡ Some v
unfolding clap_on_literals
one_found name l m v = refl

-- one number may be there
pub optional_values : (name : Text) (l m : ℕ) (vs : List Text) → behind_fault (leaf (word_of_optional_number name l m)) vs ≡ []
    → (vs ≡ []) ⊎ ((v : Text) × (vs ≡ v ∷ []) × IsNumber l m v)
unfolding clap_on_literals
optional_values name l m [] h = inl refl
optional_values name l m (v ∷ w ∷ vs) h = cc
optional_values name l m (v ∷ []) h = inr (v, refl, go (is_unsigned_in l m v) refl)
  where
    go : (b : Bool) → is_unsigned_in l m v ≡ b → is_unsigned_in l m v ≡ true
    go true e = e
    go false e = let bad = rw e at h in cc

pub optional_left_out : (name : Text) (l m : ℕ) → behind_fault (leaf (word_of_optional_number name l m)) [] ≡ []
unfolding clap_on_literals
optional_left_out name l m = refl

pub optional_passes : (name : Text) (l m : ℕ) (v : Text) → IsNumber l m v → behind_fault (leaf (word_of_optional_number name l m)) (v ∷ []) ≡ []
unfolding clap_on_literals
optional_passes name l m v good = rw good refl

pub optional_none : (name : Text) (l m : ℕ) → one_of (codes "N") (finished (leaf (word_of_optional_number name l m)).rules (behind (leaf (word_of_optional_number name l m)) [])) ≡ None
unfolding clap_on_literals
optional_none name l m = refl

pub optional_found : (name : Text) (l m : ℕ) (v : Text) → one_of (codes "N") (finished (leaf (word_of_optional_number name l m)).rules (behind (leaf (word_of_optional_number name l m)) (v ∷ []))) ≡ Some v
unfolding clap_on_literals
optional_found name l m v = refl

pub two_values : (name : Text) (j k l m : ℕ) (vs : List Text) → behind_fault (leaf (word_of_numbers name j k l m)) vs ≡ []
    → (v : Text) × (w : Text) × (vs ≡ v ∷ w ∷ []) × IsNumber j k v × IsNumber l m w
unfolding clap_on_literals
two_values name j k l m [] h = cc
two_values name j k l m (v ∷ []) h = go (is_unsigned_in j k v) refl
  where
    go : (b : Bool) → is_unsigned_in j k v ≡ b → (x : Text) × (w : Text) × ((v ∷ []) ≡ x ∷ w ∷ []) × IsNumber j k x × IsNumber l m w
    go true e = let bad = rw e at h in cc
    go false e = let bad = rw e at h in cc
two_values name j k l m (v ∷ w ∷ x ∷ vs) h = go (is_unsigned_in j k v) refl
  where
    go : (b : Bool) → is_unsigned_in j k v ≡ b → (y : Text) × (z : Text) × ((v ∷ w ∷ x ∷ vs) ≡ y ∷ z ∷ []) × IsNumber j k y × IsNumber l m z
    go true e = let bad = rw e at h in cc
    go false e = let bad = rw e at h in cc
two_values name j k l m (v ∷ w ∷ []) h = (v, w, refl, first (is_unsigned_in j k v) refl, second (is_unsigned_in j k v) (is_unsigned_in l m w) refl refl)
  where
    first : (b : Bool) → is_unsigned_in j k v ≡ b → is_unsigned_in j k v ≡ true
    first true e = e
    first false e = let bad = rw e at h in cc

    second : (a b : Bool) → is_unsigned_in j k v ≡ a → is_unsigned_in l m w ≡ b → is_unsigned_in l m w ≡ true
    second a true d e = e
    second true false d e = let bad = rw (d, e) at h in cc
    second false false d e = let bad = rw d at h in cc

pub two_pass : (name : Text) (j k l m : ℕ) (v w : Text) → IsNumber j k v → IsNumber l m w
    → behind_fault (leaf (word_of_numbers name j k l m)) (v ∷ w ∷ []) ≡ []
unfolding clap_on_literals
two_pass name j k l m v w good fine = rw (good, fine) refl

pub two_found : (name : Text) (j k l m : ℕ) (v w : Text)
    → (one_of (codes "W") (finished (leaf (word_of_numbers name j k l m)).rules (behind (leaf (word_of_numbers name j k l m)) (v ∷ w ∷ []))) ≡ Some v)
    × (one_of (codes "N") (finished (leaf (word_of_numbers name j k l m)).rules (behind (leaf (word_of_numbers name j k l m)) (v ∷ w ∷ []))) ≡ Some w)
unfolding clap_on_literals
two_found name j k l m v w = (refl, refl)

-- a number is no flag
pub number_is_value : (l m : ℕ) (v : Text) → IsNumber l m v → (long_of v ≡ None) × (short_of v ≡ None)
number_is_value l m [] h = (refl, refl)
number_is_value l m (d ∷ ds) h = go (d == 45) refl
  where
    go : (b : Bool) → (d == 45) ≡ b → (long_of (d ∷ ds) ≡ None) × (short_of (d ∷ ds) ≡ None)
    go false e = (rw e refl, rw e refl)
    go true e =
        let same : d ≡ 45 = grind (arith, e) in
        let whole : is_unsigned_in l m (45 ∷ ds) ≡ true = subst (λ x. is_unsigned_in l m (x ∷ ds) ≡ true) same h in
        let numeral : is_numeral (45 ∷ ds) ≡ true = (both (is_numeral (45 ∷ ds)) _ whole).0 in
        let bad : false ≡ true = (both (nat_lt 0 (length (45 ∷ ds))) _ numeral).1 in
        cc

-- the number that was tested is the number that is read
pub number_same : (l m : ℕ) (v : Text) → m ≤ 1000000000 → IsNumber l m v → number_read v ≡ number_within l m v
unfolding number_within
number_same l m v small h =
    let ds = without_leading_plus v in
    let outer = both (is_numeral ds) _ h in
    let inner = both (nat_lt (digits_value 10 ds) (2 ^ 64)) _ outer.1 in
    let range = both (nat_le l (digits_value 10 ds)) (nat_le (digits_value 10 ds) m) inner.1 in
    let high : digits_value 10 ds ≤ m = leb-true _ _ range.1 in
    let fits : nat_lt (digits_value 10 ds) (2 ^ 32) ≡ true = lt-ltb (digits_value 10 ds) (2 ^ 32) (omega (arith, high, small)) in
    let read : number_read v ≡ Some (digits_value 10 ds) = rw (outer.0, fits) refl in
    let told : number_within l m v ≡ Some (digits_value 10 ds) = rw h refl in
    read ∙ sym told

-- it is some number
number_told : (l m : ℕ) (v : Text) → IsNumber l m v → (k : ℕ) × (number_within l m v ≡ Some k)
unfolding number_within
number_told l m v h = (digits_value 10 (without_leading_plus v), rw h refl)

pub told_number : (l m k : ℕ) (v : Text) → number_within l m v ≡ Some k → IsNumber l m v
unfolding number_within
told_number l m k v h = go (is_unsigned_in l m v) refl
  where
    go : (b : Bool) → is_unsigned_in l m v ≡ b → is_unsigned_in l m v ≡ true
    go true e = e
    go false e = let bad : None ≡ Some k = rw e at h in cc

-- ---- a word with its values

pub word_alone : (name : Text) (rest : List Text) → fault_at (leaf (word_app name)) rest ≡ [] → values_given rest ≡ []
word_alone name rest h = no_values name (values_given rest) (level_behind (leaf (word_app name)) (plain_none name) rest h).0

pub word_alone_passes : (name : Text) (rest : List Text) → values_given rest ≡ [] → fault_at (leaf (word_app name)) rest ≡ []
word_alone_passes name rest e =
    behind_level (leaf (word_app name)) (plain_none name) rest (subst AreValues (sym e) tt)
    (subst (λ vs. behind_fault (leaf (word_app name)) vs ≡ []) (sym e) (none_pass name))

pub word_with_number : (name : Text) (l m : ℕ) (rest : List Text) → m ≤ 1000000000 → fault_at (leaf (word_of_number name l m)) rest ≡ []
    → (v : Text) × (values_given rest ≡ v ∷ []) × (number_found (codes "N") (rows_after (leaf (word_of_number name l m)).rules [] rest) ≡ number_within l m v)
word_with_number name l m rest small h =
    let s = leaf (word_of_number name l m) in
    let b = level_behind s (plain_one name l m) rest h in
    let one = one_value name l m (values_given rest) b.0 in
    let rows : rows_after s.rules [] rest ≡ finished s.rules (behind s (one.0 ∷ [])) = b.1 ∙ ap (λ vs. finished s.rules (behind s vs)) one.1 in
    let text : one_of (codes "N") (rows_after s.rules [] rest) ≡ Some one.0 = ap (one_of (codes "N")) rows ∙ one_found name l m one.0 in
    (one.0, one.1, ap (option_and_then number_read) text ∙ number_same l m one.0 small one.2)

pub word_with_number_passes : (name : Text) (l m : ℕ) (rest : List Text) (v : Text) → values_given rest ≡ v ∷ [] → IsNumber l m v
    → fault_at (leaf (word_of_number name l m)) rest ≡ []
word_with_number_passes name l m rest v e good =
    let plain = number_is_value l m v good in
    let all : AreValues (v ∷ []) = (plain.0, plain.1, tt) in
    behind_level (leaf (word_of_number name l m)) (plain_one name l m) rest (subst AreValues (sym e) all)
    (subst (λ vs. behind_fault (leaf (word_of_number name l m)) vs ≡ []) (sym e) (one_passes name l m v good))

-- what is found of a number that may be there
abbrev pub MayFind : Text → ℕ → ℕ → List Text → Type 0
MayFind name l m rest =
    ((values_given rest ≡ []) × (number_found (codes "N") (rows_after (leaf (word_of_optional_number name l m)).rules [] rest) ≡ None))
    ⊎ ((v : Text) × (k : ℕ) × (values_given rest ≡ v ∷ []) × (number_found (codes "N") (rows_after (leaf (word_of_optional_number name l m)).rules [] rest) ≡ Some k)
    × (number_within l m v ≡ Some k))

pub word_with_optional_number : (name : Text) (l m : ℕ) (rest : List Text) → m ≤ 1000000000 → fault_at (leaf (word_of_optional_number name l m)) rest ≡ [] → MayFind name l m rest
word_with_optional_number name l m rest small h = go (optional_values name l m (values_given rest) b.0)
  where
    s : Shape
    s = leaf (word_of_optional_number name l m)

    b : (behind_fault s (values_given rest) ≡ []) × (rows_after s.rules [] rest ≡ finished s.rules (behind s (values_given rest)))
    b = level_behind s (plain_optional name l m) rest h

    go : (values_given rest ≡ []) ⊎ ((v : Text) × (values_given rest ≡ v ∷ []) × IsNumber l m v) → MayFind name l m rest
    go (inl none) =
        let rows : rows_after s.rules [] rest ≡ finished s.rules (behind s []) = b.1 ∙ ap (λ vs. finished s.rules (behind s vs)) none in
        inl (none, ap (λ r. option_and_then number_read (one_of (codes "N") r)) rows ∙ ap (option_and_then number_read) (optional_none name l m))
    go (inr one) =
        let rows : rows_after s.rules [] rest ≡ finished s.rules (behind s (one.0 ∷ [])) = b.1 ∙ ap (λ vs. finished s.rules (behind s vs)) one.1 in
        let text : one_of (codes "N") (rows_after s.rules [] rest) ≡ Some one.0 = ap (one_of (codes "N")) rows ∙ optional_found name l m one.0 in
        let told = number_told l m one.0 one.2 in
        inr (one.0, told.0, one.1, ap (option_and_then number_read) text ∙ number_same l m one.0 small one.2 ∙ told.1, told.1)

pub word_with_optional_number_passes : (name : Text) (l m : ℕ) (rest : List Text) (v : Text) → values_given rest ≡ v ∷ [] → IsNumber l m v
    → fault_at (leaf (word_of_optional_number name l m)) rest ≡ []
word_with_optional_number_passes name l m rest v e good =
    let plain = number_is_value l m v good in
    let all : AreValues (v ∷ []) = (plain.0, plain.1, tt) in
    behind_level (leaf (word_of_optional_number name l m)) (plain_optional name l m) rest (subst AreValues (sym e) all)
    (subst (λ vs. behind_fault (leaf (word_of_optional_number name l m)) vs ≡ []) (sym e) (optional_passes name l m v good))

pub word_without_number_passes : (name : Text) (l m : ℕ) (rest : List Text) → values_given rest ≡ [] → fault_at (leaf (word_of_optional_number name l m)) rest ≡ []
word_without_number_passes name l m rest e =
    behind_level (leaf (word_of_optional_number name l m)) (plain_optional name l m) rest (subst AreValues (sym e) tt)
    (subst (λ vs. behind_fault (leaf (word_of_optional_number name l m)) vs ≡ []) (sym e) (optional_left_out name l m))

pub word_with_numbers : (name : Text) (j k l m : ℕ) (rest : List Text) → k ≤ 1000000000 → m ≤ 1000000000 → fault_at (leaf (word_of_numbers name j k l m)) rest ≡ []
    → (v : Text) × (w : Text) × (values_given rest ≡ v ∷ w ∷ [])
    × (number_found (codes "W") (rows_after (leaf (word_of_numbers name j k l m)).rules [] rest) ≡ number_within j k v)
    × (number_found (codes "N") (rows_after (leaf (word_of_numbers name j k l m)).rules [] rest) ≡ number_within l m w)
word_with_numbers name j k l m rest few small h =
    let s = leaf (word_of_numbers name j k l m) in
    let b = level_behind s (plain_two name j k l m) rest h in
    let two = two_values name j k l m (values_given rest) b.0 in
    let rows : rows_after s.rules [] rest ≡ finished s.rules (behind s (two.0 ∷ two.1 ∷ [])) = b.1 ∙ ap (λ vs. finished s.rules (behind s vs)) two.2 in
    let found = two_found name j k l m two.0 two.1 in
    let first : one_of (codes "W") (rows_after s.rules [] rest) ≡ Some two.0 = ap (one_of (codes "W")) rows ∙ found.0 in
    let second : one_of (codes "N") (rows_after s.rules [] rest) ≡ Some two.1 = ap (one_of (codes "N")) rows ∙ found.1 in (
      two.0,
      two.1,
      two.2,
      ap (option_and_then number_read) first ∙ number_same j k two.0 few two.3,
      ap (option_and_then number_read) second ∙ number_same l m two.1 small two.4,
    )

pub word_with_numbers_passes : (name : Text) (j k l m : ℕ) (rest : List Text) (v w : Text) → values_given rest ≡ v ∷ w ∷ [] → IsNumber j k v → IsNumber l m w
    → fault_at (leaf (word_of_numbers name j k l m)) rest ≡ []
word_with_numbers_passes name j k l m rest v w e good fine =
    let plain = number_is_value j k v good in
    let plain2 = number_is_value l m w fine in
    let all : AreValues (v ∷ w ∷ []) = (plain.0, plain.1, (plain2.0, plain2.1, tt)) in
    behind_level (leaf (word_of_numbers name j k l m)) (plain_two name j k l m) rest (subst AreValues (sym e) all)
    (subst (λ vs. behind_fault (leaf (word_of_numbers name j k l m)) vs ≡ []) (sym e) (two_pass name j k l m v w good fine))

-- the bounds of a number
pub number_bounds : (l m k : ℕ) (v : Text) → number_within l m v ≡ Some k → (l ≤ k) × (k ≤ m)
unfolding number_within
number_bounds l m k v h =
    let good = told_number l m k v h in
    let ds = without_leading_plus v in
    let outer = both (is_numeral ds) _ good in
    let inner = both (nat_lt (digits_value 10 ds) (2 ^ 64)) _ outer.1 in
    let range = both (nat_le l (digits_value 10 ds)) (nat_le (digits_value 10 ds) m) inner.1 in
    let told : number_within l m v ≡ Some (digits_value 10 ds) = rw good refl in
    let same : digits_value 10 ds ≡ k = ap (λ o. unwrap_or o k) (sym told ∙ h) in
    (subst (λ x. l ≤ x) same (leb-true _ _ range.0), subst (λ x. x ≤ m) same (leb-true _ _ range.1))
