-- Elements of a list that are changed one by one.
use Rattle.std.proofs.Common.{◌≡◌, ℕ, zero, suc, ◌+◌, ◌<◌, ◌≤◌, List, [], ◌∷◌, length, map, take, drop, ◌++◌, get_or, set, refl, sym, ap, ◌∙◌, subst, arith, add-one, append-nil, length-set, below_more}
use Rattle.std.specs.List.{AllZip}
use Rattle.std.proofs.lemmas.List.{take_all, drop_all, get_or-set_same, get_or-set_other}

-- which default is given doesn't matter inside a list
pub any_default : {A : Type 0} (l : List A) (n : ℕ) (a b : A) → n < length l → get_or l n a ≡ get_or l n b
any_default [] n a b inside = absurd (omega (arith, inside))
any_default (x ∷ l) zero a b inside = refl
any_default (x ∷ l) (suc n) a b inside = any_default l n a b (omega (arith, inside))

module _ {A : Type 0} (R : ℕ → A → A → Type 0) (none : A) where
  -- the first, so many, are this to what they were, and the others as they were
  pub record Changed (n : ℕ) (old now : List A) : Type 0 where
    pub many : length now ≡ length old
    pub each : (i : ℕ) → i < n → R i (get_or old i none) (get_or now i none)
    pub others : (i : ℕ) → n ≤ i → get_or now i none ≡ get_or old i none

  pub none_changed : (old : List A) → Changed 0 old old
  none_changed old = record { many = refl; each = λ i less. absurd (omega (arith, less)); others = λ i from. refl }

  -- one that is read now is as it was
  pub as_it_was : (n : ℕ) (old now : List A) (x : A) → Changed n old now → n < length old → get_or now n x ≡ get_or old n none
  as_it_was n old now x s inside = any_default now n x none (let q = s.many in omega (arith, q, inside)) ∙ s.others n (omega arith)

  pub one_changed : (n : ℕ) (old now : List A) (x y : A) → Changed n old now → n < length old → R n (get_or now n x) y → Changed (n + 1) old (set now n y)
  one_changed n old now x y s inside is = record {
    many = length-set now n y ∙ s.many;
    each = below_more (λ i. R i (get_or old i none) (get_or (set now n y) i none)) n
        (λ i less. subst (R i (get_or old i none)) (sym (get_or-set_other now n i y none (λ e. absurd (omega (arith, e, less))))) (s.each i less))
        (subst (λ (z : A × A). R n z.0 z.1)
        (λ i. (as_it_was n old now x s inside i, sym (get_or-set_same now n y none (let q = s.many in omega (arith, q, inside))) i)) is);
    others = λ i from. get_or-set_other now n i y none (λ e. absurd (omega (arith, e, from))) ∙ s.others i (omega (arith, from));
  }

-- each of a list is this to what it was
module _ {A : Type 0} (R : A → A → Type 0) (none : A) where
  zipped : (old new : List A) → length new ≡ length old → ((i : ℕ) → i < length old → R (get_or old i none) (get_or new i none)) → AllZip R old new
  zipped [] [] many each = tt
  zipped [] (y ∷ new) many each = absurd (omega (arith, many))
  zipped (x ∷ old) [] many each = absurd (omega (arith, many))
  zipped (x ∷ old) (y ∷ new) many each = (each 0 (omega arith), zipped old new (omega (arith, many)) (λ i less. each (suc i) (omega (arith, less))))

  pub all_zipped : (n : ℕ) (old now : List A) → Changed (λ _. R) none n old now → length old ≤ n → AllZip R old now
  all_zipped n old now s all = zipped old now s.many (λ i less. s.each i (omega (arith, less, all)))

-- ---- each becomes what it is mapped to

module _ {A : Type 0} (f : A → A) where
  abbrev so_far : List A → ℕ → List A
  so_far l n = map f (take n l) ++ drop n l

  next : (l : List A) (n : ℕ) (d : A) → n < length l → set (so_far l n) n (f (get_or (so_far l n) n d)) ≡ so_far l (suc n)
  next [] n d less = absurd (omega (arith, less))
  next (x ∷ l) zero d less = refl
  next (x ∷ l) (suc n) d less = ap (λ z. f x ∷ z) (next l n d (omega (arith, less)))

  -- one that is read now is as it was
  pub not_yet : (l now : List A) (n : ℕ) (x d : A) → n < length l → now ≡ map f (take n l) ++ drop n l → get_or now n x ≡ get_or l n d
  not_yet l now n x d less is = ap (λ z. get_or z n x) is ∙ read l n less where
    read : (l : List A) (n : ℕ) → n < length l → get_or (so_far l n) n x ≡ get_or l n d
    read [] n less = absurd (omega (arith, less))
    read (y ∷ l) zero less = refl
    read (y ∷ l) (suc n) less = read l n (omega (arith, less))

  pub one_mapped : (l now : List A) (n : ℕ) (d y : A) → n < length l → now ≡ map f (take n l) ++ drop n l
      → y ≡ f (get_or now n d) → set now n y ≡ map f (take (n + 1) l) ++ drop (n + 1) l
  one_mapped l now n d y less is made =
      ap (set now n) made
      ∙ (ap (λ z. set z n (f (get_or z n d))) is
      ∙ (next l n d less ∙ ap (so_far l) (sym (add-one n))))

  pub all_mapped : (l : List A) (n : ℕ) → length l ≤ n → map f (take n l) ++ drop n l ≡ map f l
  all_mapped l n all =
      ap (λ z. map f (take n l) ++ z) (drop_all n l all)
      ∙ (append-nil (map f (take n l)) ∙ ap (map f) (take_all n l all))
