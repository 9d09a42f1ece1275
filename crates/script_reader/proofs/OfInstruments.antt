-- The bottles of an edge are of instruments of the plan.
use Rattle.std.proofs.Common.{ℕ, zero, suc, ◌+◌, ◌<◌, ◌≤◌, length, arith}
use Rattle.std.specs.Prelude.{slice_index}
use Rattle.std.specs.List.{All, AllByRecursion, range_with_len}
use Rattle.std.proofs.lemmas.List.Elements.{All-filter, All-from_recursion}
use Rattle.lab_plan.specs.LabPlan.{LabPlan, bottles, common, ends, both_name, instrument_numbers}

range_below : (a n m : ℕ) → a + n ≤ m → AllByRecursion (λ i. i < m) (range_with_len a n)
range_below a zero m h = tt
range_below a (suc n) m h = (omega arith, range_below (a + 1) n m (omega arith))

bottles_inside : (plan : LabPlan) (e : ℕ) → All (λ i. i < length plan.instruments) (bottles plan e)
unfolding common
bottles_inside plan e =
    All-filter (both_name plan (ends plan e)) (λ i. i < length plan.instruments) (instrument_numbers plan) (All-from_recursion
    (λ i. i < length plan.instruments) (instrument_numbers plan) (range_below 0 (length plan.instruments) (length plan.instruments) (omega arith)))

pub bottle_inside : (plan : LabPlan) (e k : ℕ) → k < length (bottles plan e) → slice_index (bottles plan e) k < length plan.instruments
bottle_inside plan e k h = bottles_inside plan e k 0 h
