-- Pictures that are narrow.
use Rattle.std.proofs.Common.{arith, ℕ, ◌*◌, ◌≤◌, inl, inr, mul-le-mul_right}
use Rattle.std.specs.Prelude.{◌/◌, max, ◌-◌}
use Rattle.std.proofs.lemmas.Bool.{cases_lt}
use Rattle.std.proofs.Math.Nat.{div-mul-le_self, mul-div_left, mul-le-mul_left}
use Rattle.round_picture.specs.Scale.{place, round_width}
use Rattle.round_picture.specs.Gantt.{full_width}

-- a width of at most what all have is within it, or it is one
width_within : (q w last : ℕ) → q * max last 1 ≤ 1200 → w ≤ max q 1 → last ≤ 4000 → w * last ≤ 4000
width_within q w last all few short = elim (cases_lt 0 q) [
  | inl some ↦
      let thin : w ≤ q = omega (arith, few, some) in
      let one = mul-le-mul_right last thin in
      let two : q * last ≤ q * max last 1 = mul-le-mul_left q (omega arith) in
      omega (arith, one, two, all)
  | inr none ↦
      let thin : w ≤ 1 = omega (arith, few, none) in
      let one = mul-le-mul_right last thin in
      omega (arith, one, short)
]

place_within : (last : ℕ) → place last last ≤ 4000
unfolding place
place_within last = grind (arith, width_within (1200 / max last 1) (round_width last) last (div-mul-le_self 1200 (max last 1)), mul-div_left 4000)

pub full_within : (last : ℕ) → full_width last ≤ 4180
full_within last = omega (arith, place_within last)
