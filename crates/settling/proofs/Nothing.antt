-- No event leads from a world to itself.
use Rattle.std.proofs.Common.{◌≡◌, ℕ, ◌+◌, List, [], refl, arith}
use Rattle.legal_steps.specs.declared.counts.Counts.{Counts}
use Rattle.legal_steps.specs.Counting.{counts_of}
use Rattle.interleaving.specs.Counting.{both_counts, count_at, GoOnBy}
use Rattle.interleaving.specs.World.{WorldView, LeadsTo}
use Rattle.interleaving.proofs.GoingOn.{on_still}

plus_none : (n : ℕ) → n ≡ n + 0
plus_none n = omega arith

none_more : (x : Counts) (k : ℕ) → x ≡ both_counts x (counts_of k [])
none_more x k = λ i. record { meals = plus_none x.meals i; sessions_done = plus_none x.sessions_done i; withdrawn = plus_none x.withdrawn i }

none_counted : (counts : List Counts) → GoOnBy counts [] counts
none_counted counts = record { one_each = refl; counted = λ k below. none_more (count_at counts k) k }

pub leads_none : (w : WorldView) → LeadsTo w [] w
leads_none w = record { run = record { legal = tt; leads = refl }; counted = none_counted w.counts; same_plan = refl; goes_on = on_still w }
