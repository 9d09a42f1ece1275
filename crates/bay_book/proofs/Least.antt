-- The least of some moments, one after another.
use Rattle.std.proofs.Common.{◌≡◌, ◌⊎◌, ℕ, zero, suc, ◌+◌, ◌<◌, ◌≤◌, min, List, length, Option, None, Some, sym, ◌∙◌, subst, inl, inr, arith}
use Rattle.bay_book.specs.declared.ask.Ask.{Ask}
use Rattle.bay_book.specs.Asks.{ask_at}
use Rattle.bay_book.specs.Moments.{sooner}
use Rattle.bay_book.specs.Finding.{IsLeast}
use Rattle.bay_book.proofs.Bits.{below_cases}

-- of the first n
abbrev pub LeastTo : (Ask → Option ℕ) → List Ask → ℕ → Option ℕ → Type 0
LeastTo f asks n (Some m) =
    ((j : ℕ) × (j < n) × (f (ask_at asks j) ≡ Some m)) × ((i k : ℕ) → i < n → f (ask_at asks i) ≡ Some k → m ≤ k)
LeastTo f asks n None = (i : ℕ) → i < n → f (ask_at asks i) ≡ None

pub some_is : (a b : ℕ) → Some a ≡ Some b → a ≡ b
some_is a b h = cc

none_isnt : (o : Option ℕ) (b : ℕ) → o ≡ None → o ≡ Some b → ⊥
none_isnt o b n h = cc

pub le_or : (a b : ℕ) → (a ≤ b) ⊎ (b ≤ a)
le_or zero b = inl (omega arith)
le_or (suc a) zero = inr (omega arith)
le_or (suc a) (suc b) = elim (le_or a b) [ inl h ↦ inl (omega (arith, h)) | inr h ↦ inr (omega (arith, h)) ]

-- the nth is the least
now_least : (f : Ask → Option ℕ) (asks : List Ask) (n b : ℕ) → f (ask_at asks n) ≡ Some b
    → ((i k : ℕ) → i < n → f (ask_at asks i) ≡ Some k → b ≤ k) → LeastTo f asks (n + 1) (Some b)
now_least f asks n b is least = (
  (n, omega arith, is),
  λ i k h e. elim (below_cases i n h) [
    | inl less ↦ least i k less e
    | inr same ↦ omega (arith, some_is b k (sym is ∙ subst (λ j. f (ask_at asks j) ≡ Some k) same e))
  ],
)

-- the least of those before it still is
still_least : (f : Ask → Option ℕ) (asks : List Ask) (n a : ℕ) → LeastTo f asks n (Some a) → ((k : ℕ) → f (ask_at asks n) ≡ Some k → a ≤ k)
    → LeastTo f asks (n + 1) (Some a)
still_least f asks n a x here = (
  (x.0.0, omega (arith, x.0.1), x.0.2),
  λ i k h e. elim (below_cases i n h) [
    | inl less ↦ x.1 i k less e
    | inr same ↦ here k (subst (λ j. f (ask_at asks j) ≡ Some k) same e)
  ],
)

pub one_more_least : (f : Ask → Option ℕ) (asks : List Ask) (n : ℕ) (o r : Option ℕ) → r ≡ f (ask_at asks n) → LeastTo f asks n o
    → LeastTo f asks (n + 1) (sooner o r)
one_more_least f asks n None None is x = λ i h. elim (below_cases i n h) [
  | inl less ↦ x i less
  | inr same ↦ subst (λ j. f (ask_at asks j) ≡ None) (sym same) (sym is)
]
one_more_least f asks n None (Some b) is x = now_least f asks n b (sym is) (λ i k less e. absurd (none_isnt _ k (x i less) e))
one_more_least f asks n (Some a) None is x = still_least f asks n a x (λ k e. absurd (none_isnt _ k (sym is) e))
one_more_least f asks n (Some a) (Some b) is x = elim (le_or a b) [
  | inl le ↦
      let same : min a b ≡ a = omega (arith, le) in
      subst (λ m. LeastTo f asks (n + 1) (Some m)) (sym same) (still_least f asks n a x (λ k e. omega (arith, le, some_is b k (is ∙ e))))
  | inr le ↦
      let same : min a b ≡ b = omega (arith, le) in
      subst (λ m. LeastTo f asks (n + 1) (Some m)) (sym same)
      (now_least f asks n b (sym is) (λ i k less e. omega (arith, le, x.1 i k less e)))
]

pub all_least : (f : Ask → Option ℕ) (asks : List Ask) (n : ℕ) (o : Option ℕ) → n ≡ length asks → LeastTo f asks n o → IsLeast f asks o
all_least f asks n None all x = λ i h. x i (omega (arith, h, all))
all_least f asks n (Some m) all x = (
  (x.0.0, omega (arith, x.0.1, all), x.0.2),
  λ i k h e. x.1 i k (omega (arith, h, all)) e,
)
