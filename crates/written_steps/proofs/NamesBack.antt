-- A name of the plan stands for what it names: a job, an edge by its two jobs, a bottle of an edge by its instrument.
use Rattle.std.proofs.Common.{◌≡◌, ◌≢◌, ◌⊎◌, ℕ, zero, suc, ◌<◌, ◌≤◌, false, List, [], length, inl, inr, refl, sym, ap, ◌∙◌, arith, ⊎_elim}
use Rattle.std.specs.Prelude.{Some, ◌==◌, min, max}
use Rattle.std.specs.List.{AllPairs, range_with_len}
use Rattle.std.specs.Option.{option_map}
use Rattle.std.specs.Str.{bytes_eq}
use Rattle.std.proofs.lemmas.Bool.{false_from_ne_true}
use Rattle.std.proofs.lemmas.Bool.Decides.{Decides-eqb}
use Rattle.std.proofs.lemmas.Option.{slice_get-get_or}
use Rattle.std.proofs.lemmas.Slice.Eq.{bytes_eq-Decides}
use Rattle.std.proofs.lemmas.List.Kept.{AllPairs-filter}
use Rattle.std.proofs.lemmas.List.FromFn.{get_or-range_with_len, length-range_with_len}
use Rattle.lab_plan.specs.LabPlan.{JobPlan, LabPlan, no_job, edges, ends, bottles, common, both_name, instrument_numbers, lower_first}
use Rattle.lab_plan.specs.IsPlan.{IsPlan}
use Rattle.lab_plan.specs.Texts.{job_name, instrument_name}
use Rattle.lab_plan.proofs.Edges.{ends_are_pair}
use Rattle.legal_steps.specs.State.{IsOwn, neighbour}
use Rattle.legal_steps.specs.Legal.{IsJob, instrument_of}
use Rattle.script_reader.specs.Steps.{job_named, edge_between, edge_named, bottle_named}
use Rattle.script_reader.proofs.Places.{position_found}
use Rattle.script_reader.proofs.EdgeNumbers.{edge_found}
use Rattle.script_reader.proofs.OfInstruments.{bottle_inside}
use Rattle.step_texts.specs.Names.{other_name, bottle_name}

other_bytes : (a b : List ℕ) → (a ≡ b → ⊥) → bytes_eq a b ≡ false
other_bytes a b differ = false_from_ne_true (bytes_eq a b) (λ e. differ ((bytes_eq-Decides a b).0 e))

-- ---- jobs

pub job_back : (plan : LabPlan) (j : ℕ) → IsPlan plan → IsJob plan j → job_named plan (job_name plan j) ≡ Some j
job_back plan j is inside =
    let name = job_name plan j in
    position_found (λ (job : JobPlan). bytes_eq name job.name) plan.jobs j no_job inside
    (λ k less. other_bytes name _ (λ e. is.draft.jobs_distinct k j no_job less inside (sym e))) ((bytes_eq-Decides name name).1 refl)

-- ---- edges

-- a job at an edge, and its neighbour there, are the edge's ends
ends_back : (plan : LabPlan) (j e : ℕ) → IsOwn plan j e → lower_first j (neighbour plan j e) ≡ ends plan e
ends_back plan j e own =
    let less = (ends_are_pair plan e own.is_edge).0 in
    ⊎_elim
    (λ lower. rw ((Decides-eqb (ends plan e).0 j).1 lower) (both j (ends plan e).1 lower (omega (arith, less, lower))))
    (λ higher. rw (false_from_ne_true ((ends plan e).0 == j) (λ t. let same = (Decides-eqb (ends plan e).0 j).0 t in omega (arith, less, same, higher)))
    (turned j (ends plan e).0 higher (omega (arith, less, higher))))
    own.at_end
  where
    both : (a b : ℕ) → (ends plan e).0 ≡ a → a < b → lower_first a b ≡ ((ends plan e).0, b)
    both a b is less =
        let low : min a b ≡ (ends plan e).0 = omega (arith, is, less) in
        let high : max a b ≡ b = omega (arith, less) in
        λ i. (low i, high i)

    turned : (a b : ℕ) → (ends plan e).1 ≡ a → b < a → lower_first a b ≡ (b, (ends plan e).1)
    turned a b is less =
        let low : min a b ≡ b = omega (arith, less) in
        let high : max a b ≡ (ends plan e).1 = omega (arith, is, less) in
        λ i. (low i, high i)

pub other_is_job : (plan : LabPlan) (j e : ℕ) → IsOwn plan j e → IsJob plan (neighbour plan j e)
other_is_job plan j e own =
    let pair = ends_are_pair plan e own.is_edge in
    let less = pair.0 in
    let below = pair.1 in
    let whole = ends_back plan j e own in
    let high : max j (neighbour plan j e) ≡ (ends plan e).1 = ap (λ (p : ℕ × ℕ). p.1) whole in
    omega (arith, below, high)

pub own_is_job : (plan : LabPlan) (j e : ℕ) → IsOwn plan j e → IsJob plan j
own_is_job plan j e own =
    let pair = ends_are_pair plan e own.is_edge in
    let below = pair.1 in
    let high : max j (neighbour plan j e) ≡ (ends plan e).1 = ap (λ (p : ℕ × ℕ). p.1) (ends_back plan j e own) in
    omega (arith, below, high)

between_back : (plan : LabPlan) (j e : ℕ) → IsOwn plan j e → edge_between plan j (neighbour plan j e) ≡ Some e
between_back plan j e own =
    (edge_found plan j (neighbour plan j e) e
    (slice_get-get_or (edges plan) e (0, 0) own.is_edge ∙ ap Some (sym (ends_back plan j e own)))).0

pub edge_back : (plan : LabPlan) (j e : ℕ) → IsPlan plan → IsOwn plan j e → edge_named plan (job_name plan j) (other_name plan j e) ≡ Some (j, e)
edge_back plan j e is own =
    rw (job_back plan j is (own_is_job plan j e own), job_back plan (neighbour plan j e) is (other_is_job plan j e own)) (
    ap (option_map (λ k. (j, k))) (between_back plan j e own))

-- ---- bottles

-- the instruments of an edge's bottles are distinct
numbers_distinct : (n : ℕ) → AllPairs (λ a b. a ≢ b) (range_with_len 0 n)
numbers_distinct n i j d less inside e =
    let size = length-range_with_len 0 n in
    let first = get_or-range_with_len 0 n i d (omega (arith, less, inside, size)) in
    let second = get_or-range_with_len 0 n j d (omega (arith, inside, size)) in
    omega (arith, e, first, second, less)

bottles_distinct : (plan : LabPlan) (e : ℕ) → AllPairs (λ a b. a ≢ b) (bottles plan e)
unfolding common
bottles_distinct plan e = AllPairs-filter (λ a b. a ≢ b) (both_name plan (ends plan e)) (instrument_numbers plan) (numbers_distinct (length plan.instruments))

less-or-not : (a b : ℕ) → (a < b) ⊎ (b ≤ a)
less-or-not a zero = inr (omega arith)
less-or-not zero (suc b) = inl (omega arith)
less-or-not (suc a) (suc b) = elim (less-or-not a b) [
  | inl up ↦ inl (omega (arith, up))
  | inr down ↦ inr (omega (arith, down))
]

order : (a b : ℕ) → a ≢ b → (a < b) ⊎ (b < a)
order a b other = elim (less-or-not a b) [
  | inl up ↦ inl up
  | inr not_up ↦ inr (omega (arith, other, not_up))
]

-- two bottles of an edge have other names
names_differ : (plan : LabPlan) (e k m : ℕ) → IsPlan plan → k < m → m < length (bottles plan e) → bottle_name plan e m ≢ bottle_name plan e k
names_differ plan e k m is less inside same =
    let a = instrument_of plan e k in
    let b = instrument_of plan e m in
    let first = bottle_inside plan e k (omega (arith, less, inside)) in
    let second = bottle_inside plan e m inside in
    let other = bottles_distinct plan e k m 0 less inside in
    let distinct = is.draft.instruments_distinct in
    elim (order a b other) [
      | inl up ↦ distinct a b [] up second (sym same)
      | inr down ↦ distinct b a [] down first same
    ]

pub bottle_back : (plan : LabPlan) (e k : ℕ) → IsPlan plan → k < length (bottles plan e) → bottle_named plan e (bottle_name plan e k) ≡ Some k
bottle_back plan e k is inside =
    let name = bottle_name plan e k in
    position_found (λ i. bytes_eq name (instrument_name plan i)) (bottles plan e) k 0 inside
    (λ m less. other_bytes name _ (λ same. names_differ plan e m k is less inside same)) ((bytes_eq-Decides name name).1 refl)
