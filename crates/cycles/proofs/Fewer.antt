-- Fewer are left after one was taken out.
use Rattle.std.proofs.Common.{◌≡◌, ℕ, zero, suc, ◌<◌, Bool, true, false, cond, List, [], ◌∷◌, length, get_or, inl, inr, sym, ◌∙◌, set, arith}
use Rattle.std.specs.Prelude.{count_by}
use Rattle.std.proofs.Math.ListN.{get_or-eq_default}
use Rattle.std.proofs.lemmas.Bool.{cases_lt, false≢true}
use Rattle.std.proofs.lemmas.List.{get_or_read}
use Rattle.std.proofs.lemmas.List.Sums.{sum_by-cons}
use Rattle.cycles.specs.Peeling.{IsLeft}

-- a job that is left is one of the jobs
pub in_range : (left : List Bool) (job : ℕ) → IsLeft left job → job < length left
in_range left job t = elim (cases_lt job (length left)) [ inl l ↦ l | inr l ↦ let o = get_or-eq_default left false {n = job} (omega (arith, l)) in absurd (cc) ]

-- what was read of a job, by any default
pub read_left : (left : List Bool) (job : ℕ) (x v : Bool) → job < length left → x ≡ get_or left job x → x ≡ v → get_or left job false ≡ v
read_left left job x v inside is same = sym (get_or_read left job x inside is false) ∙ same

abbrev pub count_left : List Bool → ℕ
count_left left = count_by (λ is_left. is_left) left

pub fewer_left : (left : List Bool) (job : ℕ) → IsLeft left job → count_left (set left job false) < count_left left
fewer_left [] job t = absurd (false≢true t)
fewer_left (false ∷ left) zero t = absurd (false≢true t)
fewer_left (true ∷ left) zero t = omega (arith, sum_by-cons (λ b. cond b 1 0) false left, sum_by-cons (λ b. cond b 1 0) true left)
fewer_left (b ∷ left) (suc job) t =
    let less = fewer_left left job t in
    omega (arith, less, sum_by-cons (λ b. cond b 1 0) b left, sum_by-cons (λ b. cond b 1 0) b (set left job false))
