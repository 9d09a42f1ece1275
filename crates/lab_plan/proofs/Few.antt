-- At most 496 pairs of jobs.
use Rattle.std.proofs.Common.{ℕ, ◌≤◌, List, Bool, true, nat_le, length, arith, refl}
use Rattle.std.specs.List.{All}
use Rattle.std.proofs.lemmas.Bool.{agree_below_at, leb-true}
use Rattle.std.proofs.lemmas.List.Sums.{length-filter, count_by-le-length}
use Rattle.lab_plan.specs.NamedBy.{meet, meeting, rows}
use Rattle.lab_plan.specs.PairTables.{IsPair}
use Rattle.lab_plan.proofs.Edges.{rows_are_pairs}

few_rows : (jobs : ℕ) → jobs ≤ 32 → length (rows jobs jobs) ≤ 496
few_rows jobs h = leb-true (length (rows jobs jobs)) 496 (agree_below_at (λ n. nat_le (length (rows n n)) 496) (λ n. true) 33 jobs refl (omega (arith, h)))

pub few_pairs : (sets : List ℕ) (instruments jobs : ℕ) → jobs ≤ 32 → length (meeting sets instruments jobs) ≤ 496
few_pairs sets instruments jobs h =
    let p : ℕ × ℕ → Bool = meet sets instruments in
    omega (arith, length-filter p (rows jobs jobs), count_by-le-length p (rows jobs jobs), few_rows jobs h)

pub all_pairs : (sets : List ℕ) (instruments jobs : ℕ) → jobs ≤ 32 → All IsPair (meeting sets instruments jobs)
all_pairs sets instruments jobs h k d within = let is = rows_are_pairs (meet sets instruments) jobs k d within in (is.0, omega (arith, is, h))
