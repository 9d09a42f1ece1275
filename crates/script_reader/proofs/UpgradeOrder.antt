-- Commands whose instruments are numbered in order of first naming.
use Rattle.std.proofs.Common.{◌≡◌, ℕ, ◌+◌, ◌<◌, ◌≤◌, Bool, true, false, cond, not, ◌&&◌, List, [], ◌∷◌, ◌++◌, refl, sym, ap, ◌∙◌, subst, ⊎_elim, arith, suc, zero}
use Rattle.std.specs.Prelude.{max, nat_le, ◌==◌, map}
use Rattle.std.specs.List.{filter, range_with_len, AllByRecursion}
use Rattle.std.proofs.lemmas.Bool.{cases_Bool}
use Rattle.std.proofs.lemmas.Bool.Decides.{nat_tests}
use Rattle.lab_plan.specs.declared.verb.Verb.{Verb}
use Rattle.lab_plan.specs.LabPlan.{firsts}

-- with so many instruments known, each command is on a known one or on the next
abbrev pub InOrder : ℕ → List (ℕ × Verb) → Type 0
InOrder known [] = Unit {0}
InOrder known (command ∷ commands) = (command.0 ≤ known) × InOrder (max known (suc command.0)) commands

-- how many are known behind the commands
abbrev pub known_after : ℕ → List (ℕ × Verb) → ℕ
known_after known [] = known
known_after known (command ∷ commands) = known_after (max known (suc command.0)) commands

pub known_after-append : (known : ℕ) (xs ys : List (ℕ × Verb)) → known_after known (xs ++ ys) ≡ known_after (known_after known xs) ys
known_after-append known [] ys = refl
known_after-append known (x ∷ xs) ys = known_after-append (max known (suc x.0)) xs ys

pub in_order_parts : (known : ℕ) (xs ys : List (ℕ × Verb)) → InOrder known (xs ++ ys) → InOrder known xs × InOrder (known_after known xs) ys
in_order_parts known [] ys h = (tt, h)
in_order_parts known (x ∷ xs) ys h = let rest = in_order_parts (max known (suc x.0)) xs ys h.1 in ((h.0, rest.0), rest.1)

-- ---- the first namings are in order

pub at_most : (a b : ℕ) → a ≤ b → nat_le a b ≡ true
at_most a b h = grind (arith, nat_tests)

two_filters : (p q r : ℕ → Bool) → ((x : ℕ) → (q x && p x) ≡ r x) → (xs : List ℕ) → filter p (filter q xs) ≡ filter r xs
two_filters p q r both [] = refl
two_filters p q r both (x ∷ xs) =
    let rest = two_filters p q r both xs in
    ⊎_elim
    (λ is.
    let same : p x ≡ r x = sym (ap (λ b. b && p x) is) ∙ both x in
    ap (λ b. filter p (cond b (x ∷ filter q xs) (filter q xs))) is
    ∙ ap (λ b. cond b (x ∷ filter p (filter q xs)) (filter p (filter q xs))) same ∙ ap (λ l. cond (r x) (x ∷ l) l) rest)
    (λ is.
    let gone : r x ≡ false = sym (both x) ∙ ap (λ b. b && p x) is in
    ap (λ b. filter p (cond b (x ∷ filter q xs) (filter q xs))) is ∙ rest ∙ sym (ap (λ b. cond b (x ∷ filter r xs) (filter r xs)) gone))
    (cases_Bool (q x))

-- of the others than n, those from k on
below : (k n x : ℕ) → nat_le k n ≡ false → (not (x == n) && nat_le k x) ≡ nat_le k x
below k n x h = grind (arith, nat_tests, h)

from_next : (k x : ℕ) → (not (x == k) && nat_le k x) ≡ nat_le (suc k) x
from_next k x = grind (arith, nat_tests)

abbrev from : ℕ → List (ℕ × Verb) → List ℕ
from k commands = filter (nat_le k) (firsts (map (λ (command : ℕ × Verb). command.0) commands))

from_known : (k : ℕ) (command : ℕ × Verb) (commands : List (ℕ × Verb)) → nat_le k command.0 ≡ false → from k (command ∷ commands) ≡ from k commands
from_known k command commands h = rw h (two_filters (nat_le k) (λ other. not (other == command.0)) (nat_le k) (λ x. below k command.0 x h) _)

from_new : (k : ℕ) (command : ℕ × Verb) (commands : List (ℕ × Verb)) → command.0 ≡ k → from k (command ∷ commands) ≡ k ∷ from (suc k) commands
from_new k command commands e =
    let new : nat_le k command.0 ≡ true = at_most k command.0 (omega arith) in
    rw new (λ i. e i ∷ ((λ j. filter (nat_le k) (filter (λ other. not (other == e j)) (firsts (map (λ (c : ℕ × Verb). c.0) commands))))
    ∙ two_filters (nat_le k) (λ other. not (other == k)) (nat_le (suc k)) (λ x. from_next k x) _) i)

-- the first that isn't known is the next
next_is : (k m : ℕ) (command : ℕ × Verb) (commands : List (ℕ × Verb)) → nat_le k command.0 ≡ true → from k (command ∷ commands) ≡ range_with_len k m
    → (rest : ℕ) × (m ≡ suc rest) × (command.0 ≡ k) × (from (suc k) commands ≡ range_with_len (suc k) rest)
next_is k zero command commands is e = let no = rw is at e in absurd (cc)
next_is k (suc m) command commands is e =
    let list = rw is at e in
    let head : command.0 ≡ k = cc in
    let same : k ∷ from (suc k) commands ≡ k ∷ range_with_len (k + 1) m = sym (from_new k command commands head) ∙ e in
    let tail : from (suc k) commands ≡ range_with_len (k + 1) m = cc in
    (m, refl, head, tail ∙ ap (λ n. range_with_len n m) (omega arith))

in_order_from : (k m : ℕ) (commands : List (ℕ × Verb)) → from k commands ≡ range_with_len k m → InOrder k commands × (known_after k commands ≡ k + m)
in_order_from k zero [] e = (tt, omega arith)
in_order_from k (suc m) [] e = absurd (cc)
in_order_from k m (command ∷ commands) e =
    ⊎_elim
    (λ is.
    let next = next_is k m command commands is e in
    let most : max k (suc command.0) ≡ suc k = omega (arith, next.2) in
    let rest = in_order_from (suc k) next.0 commands next.3 in
    let head : command.0 ≤ k = omega (arith, next.2) in
    let sum : suc k + next.0 ≡ k + m = omega (arith, next.1) in
    ((head, subst (λ n. InOrder n commands) (sym most) rest.0), ap (λ n. known_after n commands) most ∙ rest.1 ∙ sum))
    (λ is.
    let less : command.0 < k = grind (arith, nat_tests, is) in
    let most : max k (suc command.0) ≡ k = omega (arith, less) in
    let rest = in_order_from k m commands (sym (from_known k command commands is) ∙ e) in
    let head : command.0 ≤ k = omega (arith, less) in
    ((head, subst (λ n. InOrder n commands) (sym most) rest.0), ap (λ n. known_after n commands) most ∙ rest.1))
    (cases_Bool (nat_le k command.0))

all_kept : (xs : List ℕ) → filter (nat_le 0) xs ≡ xs
all_kept [] = refl
all_kept (x ∷ xs) =
    let least : nat_le 0 x ≡ true = at_most 0 x (omega arith) in
    λ i. cond (least i) (x ∷ all_kept xs i) (all_kept xs i)

pub in_order_all : (m : ℕ) (commands : List (ℕ × Verb))
    → firsts (map (λ (command : ℕ × Verb). command.0) commands) ≡ range_with_len 0 m → InOrder 0 commands × (known_after 0 commands ≡ m)
in_order_all m commands e = let all = in_order_from 0 m commands (all_kept _ ∙ e) in (all.0, all.1 ∙ omega arith)

pub known_within : (known count : ℕ) (commands : List (ℕ × Verb)) → known ≤ count
    → AllByRecursion (λ (command : ℕ × Verb). command.0 < count) commands → known_after known commands ≤ count
known_within known count [] most all = most
known_within known count (command ∷ commands) most all = known_within (max known (suc command.0)) count commands (let here = all.0 in omega arith) all.1
