-- Chains that are longest.
use Rattle.std.proofs.Common.{◌≡◌, ℕ, zero, suc, ◌+◌, ◌<◌, ◌≤◌, true, false, List, [], ◌∷◌, length, get_or, refl, sym, ap, subst, inl, inr, arith, Option, None, Some}
use Rattle.std.proofs.lemmas.Bool.{cases_eq, ltb-true, ltb-false}
use Rattle.std.specs.List.{All}
use Rattle.lab_plan.specs.LabPlan.{LabPlan}
use Rattle.legal_steps.specs.Opening.{the_opening}
use Rattle.legal_steps.specs.Precedence.{Precedes}
use Rattle.chains.specs.Chains.{IsChain, IsLongestChain, IsLongestFrom, AreLongest, IsBestBelow, chain_at, is_longer}
use Rattle.chains.proofs.Precedence.{goes_down}

module _ (plan : LabPlan) where
  first_inside : (job : ℕ) (later : List ℕ) → IsChain plan (job ∷ later) → job < length plan.jobs
  first_inside job [] is = is
  first_inside job (next ∷ later) is = (goes_down plan job next is.0).1

  -- ---- a chain that begins with a job

  pub from_none : (chains : List (List ℕ)) (job : ℕ) (inside : job < length plan.jobs) → IsBestBelow plan chains job job None → IsLongestFrom plan job (job ∷ [])
  from_none chains job inside none = record { later = []; begins = refl; is_chain = inside; longest = most } where
    most : (other : List ℕ) → IsChain plan (job ∷ other) → length other ≤ 0
    most [] is = omega arith
    most (next ∷ other) is = absurd (none next (goes_down plan job next is.0).0 is.0)

  pub from_best : (chains : List (List ℕ)) (job best : ℕ) → length chains ≡ job → AreLongest plan chains → IsBestBelow plan chains job job (Some best)
      → IsLongestFrom plan job (job ∷ chain_at chains best)
  from_best chains job best long all (less, leads, most) =
      let b = all best (omega (arith, less, long)) in record {
        later = chain_at chains best;
        begins = refl;
        is_chain = subst (λ l. IsChain plan (job ∷ l)) (sym b.begins) (leads, b.is_chain);
        longest = longest;
      } where
        longest : (other : List ℕ) → IsChain plan (job ∷ other) → length other ≤ length (chain_at chains best)
        longest [] is = omega arith
        longest (next ∷ other) is =
            let down = (goes_down plan job next is.0).0 in
            let n = all next (omega (arith, down, long)) in
            let a = n.longest other is.1 in
            let c : length (chain_at chains next) ≡ suc (length n.later) = ap length n.begins in
            let d = most next down is.0 in
            let e : length (next ∷ other) ≤ length (chain_at chains best) = omega (arith, a, c, d) in e

  -- ---- one job more is asked

  pub no_more : (chains : List (List ℕ)) (job n : ℕ) (best : Option ℕ) → ¬ Precedes plan (the_opening plan) job n → IsBestBelow plan chains job n best
      → IsBestBelow plan chains job (n + 1) best
  no_more chains job n None other is = λ k less p. elim (cases_eq k n) [
    | inl same ↦ other (subst (Precedes plan (the_opening plan) job) same p)
    | inr apart ↦ is k (omega (arith, less, apart)) p
  ]
  no_more chains job n (Some best) other (below, leads, most) = (
    let s = below in omega (arith, s),
    leads,
    λ k less p. elim (cases_eq k n) [
      | inl same ↦ absurd (other (subst (Precedes plan (the_opening plan) job) same p))
      | inr apart ↦ most k (omega (arith, less, apart)) p
    ],
  )

  pub stays : (chains : List (List ℕ)) (job n : ℕ) (best : Option ℕ) → is_longer chains n best ≡ false → IsBestBelow plan chains job n best
      → IsBestBelow plan chains job (n + 1) best
  stays chains job n None other is = absurd (cc)
  stays chains job n (Some best) other (below, leads, most) = (
    let s = below in omega (arith, s),
    leads,
    λ k less p. elim (cases_eq k n) [
      | inl same ↦ (let fewer = ltb-false (length (chain_at chains best)) (length (chain_at chains n)) other in
          subst (λ m. length (chain_at chains m) ≤ length (chain_at chains best)) (sym same) fewer)
      | inr apart ↦ most k (omega (arith, less, apart)) p
    ],
  )

  pub takes : (chains : List (List ℕ)) (job n : ℕ) (best : Option ℕ) → Precedes plan (the_opening plan) job n → is_longer chains n best ≡ true
      → IsBestBelow plan chains job n best → IsBestBelow plan chains job (n + 1) (Some n)
  takes chains job n None leads longer is = (
    omega arith,
    leads,
    λ k less p. elim (cases_eq k n) [
      | inl same ↦ (let e : length (chain_at chains k) ≡ length (chain_at chains n) = ap (λ m. length (chain_at chains m)) same in omega (arith, e))
      | inr apart ↦ absurd (is k (omega (arith, less, apart)) p)
    ],
  )
  takes chains job n (Some best) leads longer (below, first, most) = (
    omega arith,
    leads,
    λ k less p. elim (cases_eq k n) [
      | inl same ↦ (let e : length (chain_at chains k) ≡ length (chain_at chains n) = ap (λ m. length (chain_at chains m)) same in omega (arith, e))
      | inr apart ↦ (let a = most k (omega (arith, less, apart)) p in
          let c = ltb-true (length (chain_at chains best)) (length (chain_at chains n)) longer in omega (arith, a, c))
    ],
  )

  -- ---- the longest of all

  pub of_all : (chains : List (List ℕ)) (best : ℕ) (chain : List ℕ) → AreLongest plan chains → length chains ≡ length plan.jobs → best < length chains
      → ((k : ℕ) → k < length chains → length (chain_at chains k) ≤ length (chain_at chains best)) → chain ≡ chain_at chains best → IsLongestChain plan chain
  of_all chains best chain all long inside most is = subst (IsLongestChain plan) (sym is) (record {
    is_chain = subst (IsChain plan) (sym (all best inside).begins) (all best inside).is_chain;
    longest = longest;
  }) where
    longest : (other : List ℕ) → IsChain plan other → length other ≤ length (chain_at chains best)
    longest [] is = omega arith
    longest (first ∷ other) is =
        let there = first_inside first other is in
        let small : first < length chains = omega (arith, there, long) in
        let f = all first small in
        let a = f.longest other is in
        let c : length (chain_at chains first) ≡ suc (length f.later) = ap length f.begins in
        let d = most first small in
        let e : length (first ∷ other) ≤ length (chain_at chains best) = omega (arith, a, c, d) in e

  pub of_none : (jobs : List ℕ) → length plan.jobs ≡ 0 → jobs ≡ [] → IsLongestChain plan jobs
  of_none jobs none is = subst (IsLongestChain plan) (sym is) (record { is_chain = tt; longest = longest }) where
    longest : (other : List ℕ) → IsChain plan other → length other ≤ 0
    longest [] is = omega arith
    longest (first ∷ other) is = let there = first_inside first other is in absurd (omega (arith, there, none))

  -- the jobs of a chain are the plan's
  inside_at : (chain : List ℕ) (k d : ℕ) → IsChain plan chain → k < length chain → get_or chain k d < length plan.jobs
  inside_at [] k d is less = absurd (omega (arith, less))
  inside_at (job ∷ later) zero d is less = first_inside job later is
  inside_at (job ∷ []) (suc k) d is less = absurd (omega (arith, less))
  inside_at (job ∷ next ∷ later) (suc k) d is less = inside_at (next ∷ later) k d is.1 (omega (arith, less))

  pub all_inside : (chain : List ℕ) → IsChain plan chain → All (λ job. job < length plan.jobs) chain
  all_inside chain is = λ k d less. inside_at chain k d is less

pub any_default : {A : Type 0} (l : List A) (k : ℕ) (d e : A) → k < length l → get_or l k d ≡ get_or l k e
any_default [] k d e less = absurd (omega (arith, less))
any_default (x ∷ l) zero d e less = refl
any_default (x ∷ l) (suc k) d e less = any_default l k d e (omega (arith, less))
