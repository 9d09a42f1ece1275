-- An edge has one number: no pair of jobs stands twice among the edges.
use Rattle.std.proofs.Common.{◌≡◌, ℕ, zero, suc, ◌+◌, ◌-◌, ◌<◌, ◌≤◌, List, [], ◌∷◌, ◌++◌, Bool, true, false, ◌&&◌, length, map, get_or, refl, sym, ap, ◌∙◌, subst, arith, ◌⊎◌, ⊎_elim, inl, inr}
use Rattle.std.specs.Prelude.{None, Some, ◌==◌, slice_get}
use Rattle.std.specs.List.{AllByRecursion, flat_map, range_with_len, filter, Contains}
use Rattle.std.proofs.lemmas.Bool.{cases_Bool, false_from_ne_true}
use Rattle.std.proofs.lemmas.Bool.Decides.{Decides-eqb}
use Rattle.std.proofs.lemmas.Option.{get_or_from_slice_get, slice_get_within}
use Rattle.std.proofs.lemmas.List.Elements.{Contains-get_or}
use Rattle.lab_plan.specs.LabPlan.{LabPlan, edges, pairs, lower_first}
use Rattle.script_reader.specs.Steps.{edge_between}
use Rattle.script_reader.proofs.Places.{position_found, position_none}

-- ---- pairs in ascending order

Before : ℕ × ℕ → ℕ × ℕ → Type 0
Before p q = (p.0 < q.0) ⊎ ((p.0 ≡ q.0) × (p.1 < q.1))

Ascends : List (ℕ × ℕ) → Type 0
Ascends [] = Unit {0}
Ascends (p ∷ ps) = AllByRecursion (Before p) ps × Ascends ps

joined : {X : Type 0} (P : X → Type 0) (xs ys : List X) → AllByRecursion P xs → AllByRecursion P ys → AllByRecursion P (xs ++ ys)
joined P [] ys h k = k
joined P (x ∷ xs) ys h k = (h.0, joined P xs ys h.1 k)

weaker : {X : Type 0} (P Q : X → Type 0) → ((x : X) → P x → Q x) → (xs : List X) → AllByRecursion P xs → AllByRecursion Q xs
weaker P Q f [] h = tt
weaker P Q f (x ∷ xs) h = (f x h.0, weaker P Q f xs h.1)

-- the pairs of one lower job, from a higher one on
row : ℕ → ℕ → ℕ → List (ℕ × ℕ)
row low a n = map (λ high. (low, high)) (range_with_len a n)

row_later : (low k a n : ℕ) → k < a → AllByRecursion (Before (low, k)) (row low a n)
unfolding row Before
row_later low k a zero h = tt
row_later low k a (suc n) h = (inr (refl, h), row_later low k (a + 1) n (omega arith))

row_ascends : (low a n : ℕ) → Ascends (row low a n)
unfolding row Ascends
row_ascends low a zero = tt
row_ascends low a (suc n) = (row_later low a (a + 1) n (omega arith), row_ascends low (a + 1) n)

row_low : (low a n : ℕ) → AllByRecursion (λ (p : ℕ × ℕ). p.0 ≡ low) (row low a n)
unfolding row
row_low low a zero = tt
row_low low a (suc n) = (refl, row_low low (a + 1) n)

rows : ℕ → ℕ → ℕ → List (ℕ × ℕ)
rows jobs a n = flat_map (λ low. row low (low + 1) (jobs - (low + 1))) (range_with_len a n)

rows_low : (jobs a n : ℕ) → AllByRecursion (λ (p : ℕ × ℕ). a ≤ p.0) (rows jobs a n)
unfolding rows
rows_low jobs a zero = tt
rows_low jobs a (suc n) =
    joined (λ (p : ℕ × ℕ). a ≤ p.0) (row a (a + 1) (jobs - (a + 1))) (rows jobs (a + 1) n)
    (weaker (λ (p : ℕ × ℕ). p.0 ≡ a) (λ (p : ℕ × ℕ). a ≤ p.0) (λ p e. omega (arith, e)) (row a (a + 1) (jobs - (a + 1))) (row_low a (a + 1) (jobs - (a + 1))))
    (weaker (λ (p : ℕ × ℕ). a + 1 ≤ p.0) (λ (p : ℕ × ℕ). a ≤ p.0) (λ p h. omega (arith, h)) (rows jobs (a + 1) n) (rows_low jobs (a + 1) n))

-- a list of one lower job, and then pairs of higher ones
ascends_joined : (low : ℕ) (xs ys : List (ℕ × ℕ)) → AllByRecursion (λ (p : ℕ × ℕ). p.0 ≡ low) xs
    → AllByRecursion (λ (p : ℕ × ℕ). low + 1 ≤ p.0) ys → Ascends xs → Ascends ys → Ascends (xs ++ ys)
unfolding Ascends Before
ascends_joined low [] ys all above h k = k
ascends_joined low (x ∷ xs) ys all above h k =
    let is = all.0 in (
      joined (Before x) xs ys h.0 (weaker (λ (p : ℕ × ℕ). low + 1 ≤ p.0) (Before x) (λ p less. inl (omega (arith, less, is))) ys above),
      ascends_joined low xs ys all.1 above h.1 k,
    )

rows_ascend : (jobs a n : ℕ) → Ascends (rows jobs a n)
unfolding rows Ascends
rows_ascend jobs a zero = tt
rows_ascend jobs a (suc n) =
    ascends_joined a (row a (a + 1) (jobs - (a + 1))) (rows jobs (a + 1) n) (row_low a (a + 1) (jobs - (a + 1)))
    (rows_low jobs (a + 1) n) (row_ascends a (a + 1) (jobs - (a + 1))) (rows_ascend jobs (a + 1) n)

kept : (P : ℕ × ℕ → Type 0) (p : ℕ × ℕ → Bool) (xs : List (ℕ × ℕ)) → AllByRecursion P xs → AllByRecursion P (filter p xs)
kept P p [] h = tt
kept P p (x ∷ xs) h = ⊎_elim (λ is. rw is (h.0, kept P p xs h.1)) (λ is. rw is (kept P p xs h.1)) (cases_Bool (p x))

filter_ascends : (p : ℕ × ℕ → Bool) (xs : List (ℕ × ℕ)) → Ascends xs → Ascends (filter p xs)
unfolding Ascends
filter_ascends p [] h = tt
filter_ascends p (x ∷ xs) h =
    ⊎_elim (λ is. rw is (kept (Before x) p xs h.0, filter_ascends p xs h.1)) (λ is. rw is (filter_ascends p xs h.1)) (cases_Bool (p x))

edges_ascend : (plan : LabPlan) → Ascends (edges plan)
unfolding edges rows row
edges_ascend plan = filter_ascends _ (pairs (length plan.jobs)) (rows_ascend (length plan.jobs) 0 (length plan.jobs))

-- ---- one number

at : (P : ℕ × ℕ → Type 0) (xs : List (ℕ × ℕ)) (i : ℕ) (d : ℕ × ℕ) → AllByRecursion P xs → i < length xs → P (get_or xs i d)
at P [] i d h inside = absurd (omega arith)
at P (x ∷ xs) zero d h inside = h.0
at P (x ∷ xs) (suc i) d h inside = at P xs i d h.1 (omega arith)

earlier : (xs : List (ℕ × ℕ)) (i j : ℕ) (d : ℕ × ℕ) → Ascends xs → i < j → j < length xs → Before (get_or xs i d) (get_or xs j d)
unfolding Ascends
earlier [] i j d h less inside = absurd (omega arith)
earlier (x ∷ xs) zero zero d h less inside = absurd (omega arith)
earlier (x ∷ xs) zero (suc j) d h less inside = at (Before x) xs j d h.0 (omega arith)
earlier (x ∷ xs) (suc i) zero d h less inside = absurd (omega arith)
earlier (x ∷ xs) (suc i) (suc j) d h less inside = earlier xs i j d h.1 (omega arith) (omega arith)

not_itself : (p q : ℕ × ℕ) → p ≡ q → Before p q → ⊥
unfolding Before
not_itself p q e h =
    let low = ap (λ (x : ℕ × ℕ). x.0) e in
    let high = ap (λ (x : ℕ × ℕ). x.1) e in
    ⊎_elim (λ less. omega (arith, low, less)) (λ less. let below = less.1 in omega (arith, high, below)) h

abbrev is_pair : ℕ × ℕ → ℕ × ℕ → Bool
is_pair wanted pair = (pair.0 == wanted.0) && (pair.1 == wanted.1)

both : (a b : Bool) → (a && b) ≡ true → (a ≡ true) × (b ≡ true)
both true b e = (refl, e)
both false b e = cc

pair_is : (wanted pair : ℕ × ℕ) → is_pair wanted pair ≡ true → pair ≡ wanted
pair_is wanted pair e =
    let parts = both (pair.0 == wanted.0) (pair.1 == wanted.1) e in
    let low = (Decides-eqb pair.0 wanted.0).0 parts.0 in
    let high = (Decides-eqb pair.1 wanted.1).0 parts.1 in
    λ i. (low i, high i)

is_itself : (wanted : ℕ × ℕ) → is_pair wanted wanted ≡ true
is_itself wanted = rw ((Decides-eqb wanted.0 wanted.0).1 refl, (Decides-eqb wanted.1 wanted.1).1 refl) refl

pub edge_found : (plan : LabPlan) (a b e : ℕ) → slice_get (edges plan) e ≡ Some (lower_first a b) → (edge_between plan a b ≡ Some e) × (e < length (edges plan))
edge_found plan a b e found =
    let wanted = lower_first a b in
    let inside = slice_get_within (edges plan) e wanted found in
    let here : get_or (edges plan) e (0, 0) ≡ wanted = get_or_from_slice_get (edges plan) e wanted (0, 0) found in
    let before : (k : ℕ) → k < e → is_pair wanted (get_or (edges plan) k (0, 0)) ≡ false =
    λ k less. false_from_ne_true _
    (λ same. not_itself _ _ (pair_is wanted _ same ∙ sym here) (earlier (edges plan) k e (0, 0) (edges_ascend plan) less inside)) in
    (position_found (is_pair wanted) (edges plan) e (0, 0) inside before (ap (is_pair wanted) here ∙ is_itself wanted), inside)

pub edge_none : (plan : LabPlan) (a b : ℕ) → (Contains (edges plan) (lower_first a b) → ⊥) → edge_between plan a b ≡ None
edge_none plan a b none =
    let wanted = lower_first a b in
    position_none (is_pair wanted) (edges plan) (0, 0)
    (λ k below. false_from_ne_true _ (λ same. none (subst (Contains (edges plan)) (pair_is wanted _ same) (Contains-get_or (edges plan) k (0, 0) below))))
