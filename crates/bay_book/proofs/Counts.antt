-- How many asks pass a test.
use Rattle.std.proofs.Common.{◌≡◌, ℕ, suc, ◌+◌, ◌<◌, ◌≤◌, Bool, true, false, cond, List, [], ◌∷◌, ◌++◌, length, map, set, refl, ap, arith}
use Rattle.std.specs.Prelude.{not, ◌&&◌, All}
use Rattle.std.specs.List.{count_by, filter}
use Rattle.std.proofs.lemmas.List.Sums.{sum_by-set, sum_by_push, sum_by-cons}
use Rattle.bay_book.specs.declared.ask.Ask.{Ask}
use Rattle.bay_book.specs.declared.ask.Stage.{Stage}
use Rattle.bay_book.specs.declared.ask.Stage.TheVariants.{Waits}
use Rattle.bay_book.specs.Asks.{no_ask, ask_at, is_holding, is_over, is_waiting, given, turned}

-- (as `count_by` counts)
abbrev pub number_of : Bool → ℕ
number_of b = cond b 1 0

pub count_set : (p : Ask → Bool) (asks : List Ask) (j : ℕ) (a : Ask) (more : ℕ) → j < length asks → number_of (p a) ≤ number_of (p (ask_at asks j)) + more
    → count_by p (set asks j a) ≤ count_by p asks + more
count_set p asks j a more inside few = omega (arith, few, sum_by-set (λ (b : Ask). number_of (p b)) asks j a no_ask inside)

pub count_push : (p : Ask → Bool) (asks : List Ask) (a : Ask) → count_by p (asks ++ a ∷ []) ≡ count_by p asks + number_of (p a)
count_push p asks a = omega (arith, sum_by_push (λ (b : Ask). number_of (p b)) asks a)

count_or_not : (p : Ask → Bool) (a : Ask) (asks kept : List Ask) → count_by p kept ≤ count_by p asks → (t : Bool)
    → count_by p (cond t (a ∷ kept) kept) ≤ count_by p (a ∷ asks)
count_or_not p a asks kept few true =
    let f : Ask → ℕ = λ b. number_of (p b) in omega (arith, few, sum_by-cons f a asks, sum_by-cons f a kept)
count_or_not p a asks kept few false = let f : Ask → ℕ = λ b. number_of (p b) in omega (arith, few, sum_by-cons f a asks)

pub count_kept : (p q : Ask → Bool) (asks : List Ask) → count_by p (filter q asks) ≤ count_by p asks
count_kept p q [] = omega arith
count_kept p q (a ∷ asks) = count_or_not p a asks (filter q asks) (count_kept p q asks) (q a)

-- ---- those that wait

waiting_one : (a : Ask) → a.stage ≡ Waits → number_of (is_waiting a) ≡ 1
waiting_one a waits = ap (λ (s : Stage). number_of (not (is_holding s) && not (is_over s))) waits

-- one of them waits no more
pub one_less : (asks : List Ask) (j : ℕ) (a : Ask) → j < length asks → (ask_at asks j).stage ≡ Waits → is_waiting a ≡ false
    → count_by is_waiting (set asks j a) + 1 ≡ count_by is_waiting asks
one_less asks j a inside waits not =
    omega (
      arith,
      sum_by-set (λ (b : Ask). number_of (is_waiting b)) asks j a no_ask inside,
      waiting_one (ask_at asks j) waits,
      ap number_of not,
    )

pub waiting_give : (at : ℕ) (asks : List Ask) → count_by is_waiting (map (given at) asks) ≡ count_by is_waiting asks
waiting_give at [] = refl
waiting_give at (a ∷ asks) =
    let f : Ask → ℕ = λ b. number_of (is_waiting b) in
    let rest = waiting_give at asks in
    omega (arith, rest, sum_by-cons f a asks, sum_by-cons f (given at a) (map (given at) asks))

pub waiting_turn : (at : ℕ) (asks : List Ask) → count_by is_waiting (map (turned at) asks) ≡ count_by is_waiting asks
waiting_turn at [] = refl
waiting_turn at (a ∷ asks) =
    let f : Ask → ℕ = λ b. number_of (is_waiting b) in
    let rest = waiting_turn at asks in
    omega (arith, rest, sum_by-cons f a asks, sum_by-cons f (turned at a) (map (turned at) asks))

pub nobody_waits : (asks : List Ask) → All (λ a. is_waiting a ≡ false) asks → count_by is_waiting asks ≡ 0
nobody_waits [] none = refl
nobody_waits (a ∷ asks) none =
    let rest = nobody_waits asks (λ k d inside. none (suc k) d (omega (arith, inside))) in
    let here : number_of (is_waiting a) ≡ 0 = ap number_of (none 0 a (omega arith)) in
    omega (arith, rest, here, sum_by-cons (λ (b : Ask). number_of (is_waiting b)) a asks)
