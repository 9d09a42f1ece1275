-- Who is there: counts of desks by job.
use Rattle.std.proofs.Common.{◌≡◌, ◌≢◌, ℕ, suc, ◌+◌, ◌<◌, ◌≤◌, ◌==◌, inl, inr, cond, List, [], ◌∷◌, ◌++◌, length, take, get_or, zero-add, arith, refl, sym, ap, ◌∙◌, subst}
use Rattle.std.specs.List.{count_by}
use Rattle.std.proofs.lemmas.Bool.{cases_eq, eq-eqb, ne_eqb}
use Rattle.std.proofs.lemmas.List.{get_or-map, take_all}
use Rattle.std.proofs.lemmas.List.Sums.{sum_by-cons, count_by_more_yes, count_by_more_no}
use Rattle.turns.specs.Lists.{Each}
use Rattle.edge_rule.specs.DeskView.{DeskView}
use Rattle.edge_rule.specs.Company.{Distinct, jobs_of}
use Rattle.edge_rule.specs.Ending.{Any}

-- how often j stands in the list
abbrev pub times : ℕ → List ℕ → ℕ
times j xs = count_by (λ k. k == j) xs

times_first : (j k : ℕ) (xs : List ℕ) → times j (k ∷ xs) ≡ cond (k == j) 1 0 + times j xs
times_first j k xs = sum_by-cons (λ n. cond (n == j) 1 0) k xs

pub times_here : (j k : ℕ) (xs : List ℕ) → k ≡ j → times j (k ∷ xs) ≡ times j xs + 1
times_here j k xs is = let first = times_first j k xs ∙ ap (λ b. cond b 1 0 + times j xs) (eq-eqb k j is) in omega (arith, first)

pub times_not : (j k : ℕ) (xs : List ℕ) → k ≢ j → times j (k ∷ xs) ≡ times j xs
times_not j k xs other = times_first j k xs ∙ (ap (λ b. cond b 1 0 + times j xs) (ne_eqb k j other) ∙ zero-add (times j xs))

-- ---- whether a job is there

-- what some element of a part has, some element of the whole has
pub any_left : {A : Type 0} (P : A → Type 0) (a b : List A) → Any P a → Any P (a ++ b)
any_left P [] b h = absurd h
any_left P (x ∷ a) b (inl h) = inl h
any_left P (x ∷ a) b (inr h) = inr (any_left P a b h)

pub any_right : {A : Type 0} (P : A → Type 0) (a b : List A) → Any P b → Any P (a ++ b)
any_right P [] b h = h
any_right P (x ∷ a) b h = inr (any_right P a b h)

pub none_there : (j : ℕ) (desks : List DeskView) → times j (jobs_of desks) ≡ 0 → Any (λ (d : DeskView). d.job ≡ j) desks → ⊥
none_there j [] nought a = a
none_there j (d ∷ desks) nought (inl is) =
    let here : times j (jobs_of desks) + 1 ≡ 0 = sym (times_here j d.job (jobs_of desks) is) ∙ nought in
    absurd (omega (arith, here))
none_there j (d ∷ desks) nought (inr a) = elim (cases_eq d.job j) [
  | inl is ↦ let here : times j (jobs_of desks) + 1 ≡ 0 = sym (times_here j d.job (jobs_of desks) is) ∙ nought in absurd (omega (arith, here))
  | inr other ↦ none_there j desks (sym (times_not j d.job (jobs_of desks) other) ∙ nought) a
]

pub some_there : (j : ℕ) (desks : List DeskView) → times j (jobs_of desks) ≢ 0 → Any (λ (d : DeskView). d.job ≡ j) desks
some_there j [] some = absurd (some refl)
some_there j (d ∷ desks) some = elim (cases_eq d.job j) [
  | inl is ↦ inl is
  | inr other ↦ inr (some_there j desks (λ nought. some (times_not j d.job (jobs_of desks) other ∙ nought)))
]

-- ---- whether no two are of one job

absent : (j : ℕ) (xs : List ℕ) → Each (λ (k : ℕ). k ≢ j) xs → times j xs ≡ 0
absent j [] e = refl
absent j (k ∷ xs) e = times_not j k xs e.0 ∙ absent j xs e.1

all_absent : (j : ℕ) (xs : List ℕ) → times j xs ≡ 0 → Each (λ (k : ℕ). k ≢ j) xs
all_absent j [] nought = tt
all_absent j (k ∷ xs) nought = elim (cases_eq k j) [
  | inl is ↦ let here : times j xs + 1 ≡ 0 = sym (times_here j k xs is) ∙ nought in absurd (omega (arith, here))
  | inr other ↦ (other, all_absent j xs (sym (times_not j k xs other) ∙ nought))
]

pub seldom : (j : ℕ) (xs : List ℕ) → Distinct xs → times j xs ≤ 1
seldom j [] d = omega arith
seldom j (k ∷ xs) d = elim (cases_eq k j) [
  | inl is ↦ let none = absent j xs (subst (λ z. Each (λ (n : ℕ). n ≢ z) xs) is d.0) in let here = times_here j k xs is in omega (arith, none, here)
  | inr other ↦ let rest = seldom j xs d.1 in let not = times_not j k xs other in omega (arith, rest, not)
]

-- each stands there at most once
abbrev pub AreSeldom : List ℕ → List ℕ → Type 0
AreSeldom all xs = Each (λ (k : ℕ). times k all ≤ 1) xs

more_of : (j k : ℕ) (xs : List ℕ) → times j xs ≤ times j (k ∷ xs)
more_of j k xs = elim (cases_eq k j) [
  | inl is ↦ let here = times_here j k xs is in omega (arith, here)
  | inr other ↦ let not = times_not j k xs other in omega (arith, not)
]

fewer : (k : ℕ) (all xs : List ℕ) → AreSeldom (k ∷ all) xs → AreSeldom all xs
fewer k all [] e = tt
fewer k all (x ∷ xs) e = (let a = e.0 in let b = more_of x k all in omega (arith, a, b), fewer k all xs e.1)

pub apart : (xs : List ℕ) → AreSeldom xs xs → Distinct xs
apart [] e = tt
apart (k ∷ xs) e = (all_absent k xs (let here = times_here k k xs refl in let once = e.0 in omega (arith, here, once)), apart xs (fewer k xs xs e.1))

-- ---- one desk after another

jobs_count : (desks : List DeskView) → length (jobs_of desks) ≡ length desks
jobs_count [] = refl
jobs_count (d ∷ desks) = ap suc (jobs_count desks)

job_at : (desks : List DeskView) (i : ℕ) (x : DeskView) → i < length desks → x ≡ get_or desks i x → get_or (jobs_of desks) i 0 ≡ x.job
job_at desks i x inside is = get_or-map (λ (d : DeskView). d.job) desks i x 0 inside ∙ ap (λ (d : DeskView). d.job) (sym is)

pub one_counted : (desks : List DeskView) (i : ℕ) (x : DeskView) (j n : ℕ) → i < length desks → x ≡ get_or desks i x
    → n ≡ times j (take i (jobs_of desks)) → x.job ≡ j → n + 1 ≡ times j (take (i + 1) (jobs_of desks))
one_counted desks i x j n inside is so_far here =
    let long : length (jobs_of desks) ≡ length desks = jobs_count desks in
    ap (λ z. z + 1) so_far
    ∙ sym (count_by_more_yes (λ k. k == j) (jobs_of desks) i 0 (omega arith) (eq-eqb (get_or (jobs_of desks) i 0) j (job_at desks i x inside is ∙ here)))

pub none_counted : (desks : List DeskView) (i : ℕ) (x : DeskView) (j n : ℕ) → i < length desks → x ≡ get_or desks i x
    → n ≡ times j (take i (jobs_of desks)) → x.job ≢ j → n ≡ times j (take (i + 1) (jobs_of desks))
none_counted desks i x j n inside is so_far other =
    let long : length (jobs_of desks) ≡ length desks = jobs_count desks in
    so_far ∙ sym (count_by_more_no (λ k. k == j) (jobs_of desks) i 0 (omega arith)
    (ne_eqb (get_or (jobs_of desks) i 0) j (λ e. other (sym (job_at desks i x inside is) ∙ e))))

pub all_counted : (desks : List DeskView) (n i j : ℕ) → length desks ≤ i → n ≡ times j (take i (jobs_of desks)) → n ≡ times j (jobs_of desks)
all_counted desks n i j past is =
    let long : length (jobs_of desks) ≡ length desks = jobs_count desks in
    is ∙ ap (times j) (take_all i (jobs_of desks) (omega arith))

-- the jobs of the first desks stand there at most once
abbrev pub AreSeldomSoFar : List DeskView → ℕ → Type 0
AreSeldomSoFar desks n = (i : ℕ) → i < n → times (get_or (jobs_of desks) i 0) (jobs_of desks) ≤ 1

pub seldom_more : (desks : List DeskView) (n : ℕ) (x : DeskView) → n < length desks → x ≡ get_or desks n x
    → AreSeldomSoFar desks n → times x.job (jobs_of desks) ≤ 1 → AreSeldomSoFar desks (n + 1)
seldom_more desks n x inside is so_far once i below = elim (cases_eq i n) [
  | inl here ↦ subst (λ z. times z (jobs_of desks) ≤ 1) (sym (ap (λ k. get_or (jobs_of desks) k 0) here ∙ job_at desks n x inside is)) once
  | inr other ↦ so_far i (omega arith)
]

each_from : (P : ℕ → Type 0) (xs : List ℕ) → ((i : ℕ) → i < length xs → P (get_or xs i 0)) → Each P xs
each_from P [] h = tt
each_from P (x ∷ xs) h = (h 0 (omega arith), each_from P xs (λ i below. h (suc i) (omega arith)))

pub apart_at_last : (desks : List DeskView) (n : ℕ) → length desks ≤ n → AreSeldomSoFar desks n → Distinct (jobs_of desks)
apart_at_last desks n past so_far = let long : length (jobs_of desks) ≡ length desks = jobs_count desks in
    apart (jobs_of desks) (each_from (λ k. times k (jobs_of desks) ≤ 1) (jobs_of desks) (λ i below. so_far i (omega arith)))

pub not_apart : (desks : List DeskView) (j : ℕ) → 1 < times j (jobs_of desks) → Distinct (jobs_of desks) → ⊥
not_apart desks j often d = let once = seldom j (jobs_of desks) d in absurd (omega (arith, often, once))
