-- A set of jobs as a list: read, and changed at a job.
use Rattle.std.proofs.Common.{◌≡◌, ℕ, ◌-◌, ◌*◌, ◌%◌, ◌^◌, ◌<◌, ◌≤◌, ◌||◌, bit_and, bit_or, Bool, true, false, List, length, replicate, set, slice_index_or, get_or-set_same, get_or-set_other, length-set, w32, refl, sym, ap, ◌∙◌, subst, inl, inr, arith}
use Rattle.std.proofs.Math.Bool.{or-false, or-true}
use Rattle.std.specs.Int.{bit_not}
use Rattle.std.proofs.lemmas.Bool.{cases_eq, eq-eqb, ne_eqb}
use Rattle.std.proofs.lemmas.List.{ext_get_or, get_or-replicate, length-replicate}
use Rattle.std.proofs.lemmas.List.FromFn.{length-map-range_with_len, get_or-map-range_with_len}
use Rattle.std.proofs.lemmas.Nat.Bits.{bit_at_ones}
use Rattle.lab_plan.specs.InstrumentSets.{holds}
use Rattle.late_thirst.proofs.NextIn.{one_holds}
use Rattle.late_thirst.proofs.Gone.{has_with}
use Rattle.late_thirst.proofs.Those.{without_same, without_other}
use Rattle.settling.specs.Members.{members}

pub length_members : (s n : ℕ) → length (members s n) ≡ n
length_members s n = length-map-range_with_len (holds s) 0 n

pub member_at : (s n j : ℕ) (d : Bool) → j < n → slice_index_or (members s n) j d ≡ holds s j
member_at s n j d below = get_or-map-range_with_len (holds s) 0 n j j d below (omega arith)

-- two lists of members are the same if the same is so of each job
same_members : (s n : ℕ) (l : List Bool) → length l ≡ n → ((i : ℕ) → i < n → slice_index_or l i false ≡ holds s i) → members s n ≡ l
same_members s n l long each = ext_get_or false (members s n) l (length_members s n ∙ sym long) (λ i below.
    let inside : i < n = let m = length_members s n in omega (arith, below, m) in member_at s n i false inside ∙ sym (each i inside))

pub members_with : (s n j : ℕ) → j < n → n ≤ 32 → members (bit_or s (1 * 2 ^ j % 2 ^ 32)) n ≡ set (members s n) j true
members_with s n j below few =
    let with : ℕ = bit_or s (1 * 2 ^ j % 2 ^ 32) in let small : j < 32 = omega (arith, below, few) in
    same_members with n (set (members s n) j true) (length-set (members s n) j true ∙ length_members s n) (λ i inside. elim (cases_eq i j) [
      | inl same ↦ subst (λ k. slice_index_or (set (members s n) j true) k false ≡ holds with k) (sym same)
          (get_or-set_same (members s n) j true false (let m = length_members s n in omega (arith, below, m))
          ∙ sym (has_with s j j small ∙ (ap (λ b. holds s j || b) (eq-eqb j j refl) ∙ or-true (holds s j))))
      | inr other ↦ get_or-set_other (members s n) j i true false other ∙ (member_at s n i false inside
          ∙ sym (has_with s j i small ∙ (ap (λ b. holds s i || b) (ne_eqb j i (λ e. other (sym e))) ∙ or-false (holds s i))))
    ])

pub members_without : (s n j : ℕ) → j < n → n ≤ 32 → members (bit_and s (bit_not w32 (1 * 2 ^ j % 2 ^ 32))) n ≡ set (members s n) j false
members_without s n j below few =
    let with : ℕ = bit_and s (bit_not w32 (1 * 2 ^ j % 2 ^ 32)) in let small : j < 32 = omega (arith, below, few) in
    same_members with n (set (members s n) j false) (length-set (members s n) j false ∙ length_members s n) (λ i inside. elim (cases_eq i j) [
      | inl same ↦ subst (λ k. slice_index_or (set (members s n) j false) k false ≡ holds with k) (sym same)
          (get_or-set_same (members s n) j false false (let m = length_members s n in omega (arith, below, m)) ∙ sym (without_same s j small))
      | inr other ↦ get_or-set_other (members s n) j i false false other ∙ (member_at s n i false inside ∙ sym (without_other s j i small (λ high. absurd (omega (arith, high, inside, few))) other))
    ])

pub all_members : (n : ℕ) → n ≤ 32 → members 4294967295 n ≡ replicate n true
all_members n few = same_members 4294967295 n (replicate n true) (length-replicate n true)
    (λ i inside. get_or-replicate n i true false inside ∙ sym (one_holds 4294967295 i (bit_at_ones 32 i (omega (arith, inside, few)))))
