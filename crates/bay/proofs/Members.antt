-- Elements of lists that were changed.
use Rattle.std.proofs.Common.{◌≡◌, ◌⊎◌, ℕ, zero, suc, ◌<◌, Bool, true, false, if◌then◌else◌, List, [], ◌∷◌, ◌++◌, length, map, get_or, set, ◌||◌, refl, sym, ap, ◌∙◌, subst, ◌≢◌, ◌≤◌, inl, inr, arith}
use Rattle.std.specs.List.{filter, list_any, AllPairs}
use Rattle.std.proofs.lemmas.Bool.{cases_eq}
use Rattle.bay.specs.Members.{Has}

or_first : (a b : Bool) → (a || b) ≡ false → a ≡ false
or_first true b h = h
or_first false b h = refl

or_second : (a b : Bool) → (a || b) ≡ false → b ≡ false
or_second true b h = absurd (cc)
or_second false b h = h

pub has_at : {X : Type 0} (xs : List X) (i : ℕ) (d : X) → i < length xs → Has xs (get_or xs i d)
has_at [] i d h = absurd (omega (arith, h))
has_at (x ∷ xs) zero d h = inl refl
has_at (x ∷ xs) (suc i) d h = inr (has_at xs i d (omega (arith, h)))

pub place_of : {X : Type 0} (xs : List X) (x d : X) → Has xs x → (i : ℕ) × (i < length xs) × (get_or xs i d ≡ x)
place_of [] x d h = absurd h
place_of (y ∷ ys) x d (inl is) = (zero, omega arith, is)
place_of (y ∷ ys) x d (inr h) = let p = place_of ys x d h in (suc p.0, omega (arith, p.1), p.2)

-- ---- one was written over

pub set_cases : {X : Type 0} (xs : List X) (i : ℕ) (v x : X) → Has (set xs i v) x → (v ≡ x) ⊎ Has xs x
set_cases [] i v x h = absurd h
set_cases (y ∷ ys) zero v x (inl is) = inl is
set_cases (y ∷ ys) zero v x (inr h) = inr (inr h)
set_cases (y ∷ ys) (suc i) v x (inl is) = inr (inl is)
set_cases (y ∷ ys) (suc i) v x (inr h) = elim (set_cases ys i v x h) [ inl is ↦ inl is | inr was ↦ inr (inr was) ]

pub set_new : {X : Type 0} (xs : List X) (i : ℕ) (v : X) → i < length xs → Has (set xs i v) v
set_new [] i v h = absurd (omega (arith, h))
set_new (y ∷ ys) zero v h = inl refl
set_new (y ∷ ys) (suc i) v h = inr (set_new ys i v (omega (arith, h)))

pub set_other : {X : Type 0} (xs : List X) (i : ℕ) (v x d : X) → Has xs x → (get_or xs i d ≡ x) ⊎ Has (set xs i v) x
set_other [] i v x d h = absurd h
set_other (y ∷ ys) zero v x d (inl is) = inl is
set_other (y ∷ ys) zero v x d (inr h) = inr (inr h)
set_other (y ∷ ys) (suc i) v x d (inl is) = inr (inl is)
set_other (y ∷ ys) (suc i) v x d (inr h) = elim (set_other ys i v x d h) [ inl is ↦ inl is | inr now ↦ inr (inr now) ]

-- ---- some were left out

cond_cases : {X : Type 0} (b : Bool) (y x : X) (ys : List X) → Has (if b then y ∷ ys else ys) x → ((b ≡ true) × (y ≡ x)) ⊎ Has ys x
cond_cases true y x ys (inl is) = inl (refl, is)
cond_cases true y x ys (inr h) = inr h
cond_cases false y x ys h = inr h

pub filter_cases : {X : Type 0} (p : X → Bool) (xs : List X) (x : X) → Has (filter p xs) x → Has xs x × (p x ≡ true)
filter_cases p [] x h = absurd h
filter_cases {X} p (y ∷ ys) x h = elim (cond_cases (p y) y x (filter p ys) h) [
  | inl here ↦ (inl here.1, subst (λ (z : X). p z ≡ true) here.1 here.0)
  | inr there ↦ let r = filter_cases p ys x there in (inr r.0, r.1)
]

kept_here : {X : Type 0} (b : Bool) (y : X) (ys : List X) → b ≡ true → Has (if b then y ∷ ys else ys) y
kept_here true y ys h = inl refl
kept_here false y ys h = absurd (cc)

kept_there : {X : Type 0} (b : Bool) (y x : X) (ys : List X) → Has ys x → Has (if b then y ∷ ys else ys) x
kept_there true y x ys h = inr h
kept_there false y x ys h = h

pub filter_has : {X : Type 0} (p : X → Bool) (xs : List X) (x : X) → Has xs x → p x ≡ true → Has (filter p xs) x
filter_has p [] x h t = absurd h
filter_has {X} p (y ∷ ys) x (inl is) t =
    subst (λ (z : X). Has (filter p (y ∷ ys)) z) is (kept_here (p y) y (filter p ys) (subst (λ (z : X). p z ≡ true) (sym is) t))
filter_has p (y ∷ ys) x (inr h) t = kept_there (p y) y x (filter p ys) (filter_has p ys x h t)

-- ---- one list behind another

pub append_cases : {X : Type 0} (xs ys : List X) (x : X) → Has (xs ++ ys) x → Has xs x ⊎ Has ys x
append_cases [] ys x h = inr h
append_cases (z ∷ zs) ys x (inl is) = inl (inl is)
append_cases (z ∷ zs) ys x (inr h) = elim (append_cases zs ys x h) [ inl a ↦ inl (inr a) | inr b ↦ inr b ]

pub append_first : {X : Type 0} (xs ys : List X) (x : X) → Has xs x → Has (xs ++ ys) x
append_first [] ys x h = absurd h
append_first (z ∷ zs) ys x (inl is) = inl is
append_first (z ∷ zs) ys x (inr h) = inr (append_first zs ys x h)

pub append_second : {X : Type 0} (xs ys : List X) (x : X) → Has ys x → Has (xs ++ ys) x
append_second [] ys x h = h
append_second (z ∷ zs) ys x h = inr (append_second zs ys x h)

-- ---- each was changed

pub map_cases : {X Y : Type 0} (f : X → Y) (xs : List X) (y : Y) → Has (map f xs) y → (x : X) × Has xs x × (f x ≡ y)
map_cases f [] y h = absurd h
map_cases f (x ∷ xs) y (inl is) = (x, inl refl, is)
map_cases f (x ∷ xs) y (inr h) = let r = map_cases f xs y h in (r.0, inr r.1, r.2)

pub map_has : {X Y : Type 0} (f : X → Y) (xs : List X) (x : X) → Has xs x → Has (map f xs) (f x)
map_has f [] x h = absurd h
map_has f (z ∷ xs) x (inl is) = inl (ap f is)
map_has f (z ∷ xs) x (inr h) = inr (map_has f xs x h)

-- none passes a test that none passes
pub any_none : {X : Type 0} (p : X → Bool) (xs : List X) (x : X) → list_any p xs ≡ false → Has xs x → p x ≡ false
any_none p [] x h has = absurd has
any_none {X} p (z ∷ xs) x h (inl is) = subst (λ (v : X). p v ≡ false) is (or_first (p z) (list_any p xs) h)
any_none p (z ∷ xs) x h (inr has) = any_none p xs x (or_second (p z) (list_any p xs) h) has

-- ---- places

set_cases_at : {X : Type 0} (xs : List X) (i : ℕ) (v x d : X) → Has (set xs i v) x
    → (v ≡ x) ⊎ ((j : ℕ) × (j < length xs) × (j ≢ i) × (get_or xs j d ≡ x))
set_cases_at [] i v x d h = absurd h
set_cases_at (y ∷ ys) zero v x d (inl is) = inl is
set_cases_at (y ∷ ys) zero v x d (inr h) = let p = place_of ys x d h in inr (suc p.0, omega (arith, p.1), omega arith, p.2)
set_cases_at (y ∷ ys) (suc i) v x d (inl is) = inr (zero, omega arith, omega arith, is)
set_cases_at (y ∷ ys) (suc i) v x d (inr h) = elim (set_cases_at ys i v x d h) [
  | inl is ↦ inl is
  | inr p ↦ inr (suc p.0, omega (arith, p.1), (let other = p.2 in omega (arith, other)), p.3)
]

pub cases_lt : (j i : ℕ) → (j < i) ⊎ (i ≤ j)
cases_lt zero zero = inr (omega arith)
cases_lt zero (suc i) = inl (omega arith)
cases_lt (suc j) zero = inr (omega arith)
cases_lt (suc j) (suc i) = elim (cases_lt j i) [ inl h ↦ inl (omega (arith, h)) | inr h ↦ inr (omega (arith, h)) ]

pub apart_at : {X : Type 0} (n : X → ℕ) (xs : List X) (j i : ℕ) (d : X) → AllPairs (λ (a b : X). n a < n b) xs → j < length xs → i < length xs → j ≢ i
    → n (get_or xs j d) ≢ n (get_or xs i d)
apart_at n xs j i d rises p q other = elim (cases_lt j i) [
  | inl less ↦ let r = rises j i d less q in omega (arith, r)
  | inr more ↦ let r = rises i j d (omega (arith, more, other)) p in omega (arith, r)
]

-- those that have the same number are the same
pub one_number : {X : Type 0} (n : X → ℕ) (xs : List X) (a b d : X) → AllPairs (λ (x y : X). n x < n y) xs → Has xs a → Has xs b → n a ≡ n b → a ≡ b
one_number {X} n xs a b d rises h g same =
    let p = place_of xs a d h in let q = place_of xs b d g in
    elim (cases_eq p.0 q.0) [
      | inl is ↦ sym p.2 ∙ (ap (λ k. get_or xs k d) is ∙ q.2)
      | inr other ↦
          let no = apart_at n xs p.0 q.0 d rises p.1 q.1 other in
          absurd (no (ap n p.2 ∙ (same ∙ sym (ap n q.2))))
    ]

-- where a number rises from place to place, all but the one that was written over have another number
pub set_others : {X : Type 0} (n : X → ℕ) (xs : List X) (i : ℕ) (v x d : X) → AllPairs (λ (a b : X). n a < n b) xs → i < length xs → Has (set xs i v) x
    → (v ≡ x) ⊎ (Has xs x × (n x ≢ n (get_or xs i d)))
set_others {X} n xs i v x d rises inside h = elim (set_cases_at xs i v x d h) [
  | inl is ↦ inl is
  | inr p ↦
      let here = subst (Has xs) p.3 (has_at xs p.0 d p.1) in
      let other : n (get_or xs p.0 d) ≢ n (get_or xs i d) = apart_at n xs p.0 i d rises p.1 inside p.2 in
      inr (here, subst (λ (z : X). n z ≢ n (get_or xs i d)) p.3 other)
]
