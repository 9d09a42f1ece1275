-- The pairs of jobs, one at a time.
use Rattle.std.proofs.Common.{◌≡◌, ℕ, zero, suc, ◌+◌, ◌-◌, ◌<◌, [], ◌∷◌, ◌++◌, Bool, true, false, cond, ◌||◌, map, filter, arith, sym, ap, ◌∙◌, append-nil}
use Rattle.std.specs.List.{range_with_len, list_any, flat_map}
use Rattle.std.proofs.Math.Bool.{or-false, or-true}
use Rattle.std.proofs.lemmas.List.{map-append}
use Rattle.std.proofs.lemmas.List.Concat.{flat_map-append}
use Rattle.std.proofs.lemmas.List.Elements.{filter-append}
use Rattle.std.proofs.lemmas.List.Folds.{list_any-append}
use Rattle.lab_plan.specs.NamedBy.{row, rows}
use Rattle.lab_plan.proofs.Ranges.{range_push, range_more}

pub row_more : (low k : ℕ) → low < k → row low (k + 1) ≡ row low k ++ (low, k) ∷ []
row_more low k below =
    let n : ℕ = k - (low + 1) in
    let e : k + 1 - (low + 1) ≡ suc n = omega arith in
    let last : low + 1 + n ≡ k = omega arith in
    ap (λ m. map (λ high. (low, high)) (range_with_len (low + 1) m)) e
    ∙ ap (map (λ high. (low, high))) (range_push (low + 1) n)
    ∙ map-append (λ high. (low, high)) (range_with_len (low + 1) n) ((low + 1 + n) ∷ [])
    ∙ ap (λ m. row low k ++ (low, m) ∷ []) last

pub row_none : (low : ℕ) → row low (low + 1) ≡ []
row_none low = let e : low + 1 - (low + 1) ≡ 0 = omega arith in ap (λ m. map (λ high. (low, high)) (range_with_len (low + 1) m)) e

pub rows_more : (jobs n : ℕ) → rows jobs (n + 1) ≡ rows jobs n ++ row n jobs
rows_more jobs n = ap (flat_map (λ low. row low jobs)) (range_more n)
    ∙ flat_map-append (λ low. row low jobs) (range_with_len 0 n) (n ∷ []) ∙ ap (λ ps. rows jobs n ++ ps) (append-nil (row n jobs))

pub any_row_more : (p : ℕ × ℕ → Bool) (low k : ℕ) → low < k → list_any p (row low (k + 1)) ≡ (list_any p (row low k) || p (low, k))
any_row_more p low k below = ap (list_any p) (row_more low k below)
    ∙ list_any-append p (row low k) ((low, k) ∷ []) ∙ ap (λ b. list_any p (row low k) || b) (or-false (p (low, k)))

pub any_rows_more : (p : ℕ × ℕ → Bool) (jobs n : ℕ) → list_any p (rows jobs (n + 1)) ≡ (list_any p (rows jobs n) || list_any p (row n jobs))
any_rows_more p jobs n = ap (list_any p) (rows_more jobs n) ∙ list_any-append p (rows jobs n) (row n jobs)

row_from : (p : ℕ × ℕ → Bool) (low k n : ℕ) → low < k → p (low, k) ≡ true → list_any p (row low (k + 1 + n)) ≡ true
row_from p low k zero below is =
    let e : k + 1 + 0 ≡ k + 1 = omega arith in
    ap (λ m. list_any p (row low m)) e ∙ any_row_more p low k below ∙ ap (λ b. list_any p (row low k) || b) is ∙ or-true (list_any p (row low k))
row_from p low k (suc n) below is =
    let e : k + 1 + suc n ≡ k + 1 + n + 1 = omega arith in
    let more : low < k + 1 + n = omega arith in
    ap (λ m. list_any p (row low m)) e ∙ any_row_more p low (k + 1 + n) more ∙ ap (λ b. b || p (low, k + 1 + n)) (row_from p low k n below is)

rows_from : (p : ℕ × ℕ → Bool) (jobs k n : ℕ) → list_any p (row k jobs) ≡ true → list_any p (rows jobs (k + 1 + n)) ≡ true
rows_from p jobs k zero is =
    let e : k + 1 + 0 ≡ k + 1 = omega arith in
    ap (λ m. list_any p (rows jobs m)) e ∙ any_rows_more p jobs k ∙ ap (λ b. list_any p (rows jobs k) || b) is ∙ or-true (list_any p (rows jobs k))
rows_from p jobs k (suc n) is =
    let e : k + 1 + suc n ≡ k + 1 + n + 1 = omega arith in
    ap (λ m. list_any p (rows jobs m)) e ∙ any_rows_more p jobs (k + 1 + n) ∙ ap (λ b. b || list_any p (row (k + 1 + n) jobs)) (rows_from p jobs k n is)

-- what one pair of a row has, the row has, and what one row has, the rows have
pub any_row_found : (p : ℕ × ℕ → Bool) (low k jobs : ℕ) → low < k → k < jobs → true ≡ p (low, k) → true ≡ list_any p (row low jobs)
any_row_found p low k jobs below inside is =
    let e : k + 1 + (jobs - (k + 1)) ≡ jobs = omega arith in
    sym (row_from p low k (jobs - (k + 1)) below (sym is)) ∙ ap (λ m. list_any p (row low m)) e

pub any_rows_found : (p : ℕ × ℕ → Bool) (jobs k : ℕ) → k < jobs → true ≡ list_any p (row k jobs) → true ≡ list_any p (rows jobs jobs)
any_rows_found p jobs k inside is =
    let e : k + 1 + (jobs - (k + 1)) ≡ jobs = omega arith in
    sym (rows_from p jobs k (jobs - (k + 1)) (sym is)) ∙ ap (λ m. list_any p (rows jobs m)) e

kept_row_more : (p : ℕ × ℕ → Bool) (low k : ℕ) → low < k → filter p (row low (k + 1)) ≡ filter p (row low k) ++ cond (p (low, k)) ((low, k) ∷ []) []
kept_row_more p low k below = ap (filter p) (row_more low k below) ∙ filter-append p (row low k) ((low, k) ∷ [])

pub kept_row_yes : (p : ℕ × ℕ → Bool) (low k : ℕ) → low < k → true ≡ p (low, k) → filter p (row low (k + 1)) ≡ filter p (row low k) ++ (low, k) ∷ []
kept_row_yes p low k below h = kept_row_more p low k below ∙ ap (λ b. filter p (row low k) ++ cond b ((low, k) ∷ []) []) (sym h)

pub kept_row_no : (p : ℕ × ℕ → Bool) (low k : ℕ) → low < k → false ≡ p (low, k) → filter p (row low (k + 1)) ≡ filter p (row low k)
kept_row_no p low k below h = kept_row_more p low k below
    ∙ ap (λ b. filter p (row low k) ++ cond b ((low, k) ∷ []) []) (sym h) ∙ append-nil (filter p (row low k))

pub kept_rows_more : (p : ℕ × ℕ → Bool) (jobs n : ℕ) → filter p (rows jobs (n + 1)) ≡ filter p (rows jobs n) ++ filter p (row n jobs)
kept_rows_more p jobs n = ap (filter p) (rows_more jobs n) ∙ filter-append p (rows jobs n) (row n jobs)
