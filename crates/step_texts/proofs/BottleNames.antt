-- The instrument of a bottle is one of the plan's.
use Rattle.std.proofs.Common.{ℕ, ◌<◌, length, slice_index_or, arith}
use Rattle.std.specs.List.{All, range_with_len}
use Rattle.std.proofs.lemmas.List.Elements.{All-filter}
use Rattle.std.proofs.lemmas.List.FromFn.{get_or-range_with_len, length-range_with_len}
use Rattle.lab_plan.specs.LabPlan.{LabPlan, bottles, common, ends, both_name, instrument_numbers}

numbers_below : (n : ℕ) → All (λ k. k < n) (range_with_len 0 n)
numbers_below n k d inside =
    rw (get_or-range_with_len 0 n k d (omega (arith, inside, length-range_with_len 0 n))) (omega (arith, inside, length-range_with_len 0 n))

pub instrument_below : (plan : LabPlan) (e k : ℕ) → k < length (bottles plan e) → slice_index_or (bottles plan e) k 0 < length plan.instruments
unfolding common
instrument_below plan e k inside =
    let P : ℕ → Type 0 = λ i. i < length plan.instruments in
    All-filter (both_name plan (ends plan e)) P (instrument_numbers plan) (numbers_below (length plan.instruments)) k 0 inside
