-- Texts that grow by a part for each element of a list.
use Rattle.std.proofs.Common.{◌≡◌, ℕ, ◌+◌, ◌<◌, ◌≤◌, List, [], ◌∷◌, ◌++◌, length, take, arith, refl, ap, ◌∙◌}
use Rattle.std.proofs.lemmas.List.{take_all}
use Rattle.std.specs.List.{flat_map, range_with_len}
use Rattle.std.proofs.lemmas.List.FromFn.{length-range_with_len}
use Rattle.legal_moves.proofs.Lists.{adds_more, number_at}

-- all parts are there
pub all_parts : {X Y : Type 0} (f : X → List Y) (xs : List X) (i : ℕ) (old new : List Y) → length xs ≤ i → new ≡ old ++ flat_map f (take i xs)
    → new ≡ old ++ flat_map f xs
all_parts f xs i old new past is = is ∙ ap (λ t. old ++ flat_map f t) (take_all i xs past)

-- one more of the parts of the numbers below n
pub next_part : {Y : Type 0} (f : ℕ → List Y) (n i : ℕ) (start old new : List Y) → i < n → old ≡ start ++ flat_map f (take i (range_with_len 0 n))
    → new ≡ old ++ f i → new ≡ start ++ flat_map f (take (i + 1) (range_with_len 0 n))
next_part f n i start old new small before more = adds_more f (range_with_len 0 n) i i start old new (omega (arith, small, length-range_with_len 0 n))
    (number_at n i small) before more

pub every_part : {Y : Type 0} (f : ℕ → List Y) (n i : ℕ) (old new : List Y) → n ≤ i → new ≡ old ++ flat_map f (take i (range_with_len 0 n))
    → new ≡ old ++ flat_map f (range_with_len 0 n)
every_part f n i old new past is = all_parts f (range_with_len 0 n) i old new (omega (arith, past, length-range_with_len 0 n)) is

-- ---- pieces one after another

assoc : {A : Type 0} (a b c : List A) → (a ++ b) ++ c ≡ a ++ (b ++ c)
assoc [] b c = refl
assoc (x ∷ a) b c = ap (λ t. x ∷ t) (assoc a b c)

pub two : {A : Type 0} (old x y a b : List A) → x ≡ old ++ a → y ≡ x ++ b → y ≡ old ++ (a ++ b)
two old x y a b p q = q ∙ ap (λ t. t ++ b) p ∙ assoc old a b

pub three : {A : Type 0} (old x y z a b c : List A) → x ≡ old ++ a → y ≡ x ++ b → z ≡ y ++ c → z ≡ old ++ (a ++ b ++ c)
three old x y z a b c p q r = two old y z (a ++ b) c (two old x y a b p q) r

pub five : {A : Type 0} (old x y z u v a b c d e : List A) → x ≡ old ++ a → y ≡ x ++ b → z ≡ y ++ c → u ≡ z ++ d → v ≡ u ++ e
    → v ≡ old ++ (a ++ b ++ c ++ d ++ e)
five old x y z u v a b c d e p q r s t = three old z u v (a ++ b ++ c) d e (three old x y z a b c p q r) s t

-- three pieces, from none
pub all_three : {A : Type 0} (none x y z a b c : List A) → none ≡ [] → x ≡ none ++ a → y ≡ x ++ b → z ≡ y ++ c → z ≡ a ++ b ++ c
all_three none x y z a b c empty p q r = three none x y z a b c p q r ∙ ap (λ t. t ++ (a ++ b ++ c)) empty
