-- For readers: where a round stands in the picture of a run, whose last round is given. What happens in round k stands at `place last k`.
use Rattle.std.specs.Prelude.{ℕ, ◌-◌, ◌*◌, ◌/◌, nat_le, min, max, List, [], ◌∷◌, if◌then◌else◌}

-- how wide a round is: from 24 units down to one, so that up to 1200 rounds are at most 1200 units wide
abbrev pub round_width : ℕ → ℕ
round_width last = max (min (1200 / max last 1) 24) 1

-- where a round stands: past 4000 rounds several share a unit, and all have 4000 together
unfoldable pub place : ℕ → ℕ → ℕ
place last k = if nat_le last 4000 then round_width last * k else 4000 * k / last

-- how wide is what goes on from one round to another: one unit at least
abbrev pub width : ℕ → ℕ → ℕ → ℕ
width last a b = max (place last b - place last a) 1

-- the rounds from one number of the scale to the next: 1, 2 or 5 times a power of ten, so that at most 20 numbers stand behind the 0
abbrev pub powers : List ℕ
powers = 1 ∷ 10 ∷ 100 ∷ 1000 ∷ 10000 ∷ 100000 ∷ 1000000 ∷ 10000000 ∷ 100000000 ∷ []

abbrev pub step_in : List ℕ → ℕ → ℕ
step_in [] last = 1000000000
step_in (p ∷ larger) last =
    if nat_le last (20 * p) then p else (if nat_le last (40 * p) then 2 * p else (if nat_le last (100 * p) then 5 * p else step_in larger last))

unfoldable pub step_of : ℕ → ℕ
step_of last = step_in powers last
