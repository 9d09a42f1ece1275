use Rattle.std.proofs.Common.{◌≡◌, ◌↔◌, ℕ, ◌^◌, ◌<◌, ◌≤◌, true, List, length, slice_index_or, sym, subst}
use Rattle.std.specs.Int.{bit_at}
use Rattle.std.specs.List.{All}
use Rattle.lab_plan.specs.Limits.{most_instruments, most_bottles}
use Rattle.lab_plan.specs.InstrumentSets.{holds}
use Rattle.lab_plan.proofs.Gathered.{small_instruments, are_named}
use Rattle.lab_plan.proofs.plan.Plan.needed_bottles.Goals as goal

-- the set has the places of the instruments that are needed
abbrev AreNeeded : ℕ → ℕ → List ℕ → Type 0
AreNeeded set needs bottles = (k : ℕ) → k < length bottles → (bit_at set k ≡ 1) ↔ (holds needs (slice_index_or bottles k 0) ≡ true)

pub within-requires-clause-few : goal.within-requires-clause-few
within-requires-clause-few g c =
    subst (λ (l : List ℕ). length l ≤ most_bottles) (sym c.bottles_at.ensures.bottles) (c.bottles_at.ensures.plan.few_bottles c.args.edge c.requires.is_edge)

pub within-requires-clause-numbered : goal.within-requires-clause-numbered
within-requires-clause-numbered g c =
    subst (All (λ i. i < most_instruments)) (sym c.bottles_at.ensures.bottles) (small_instruments c.args.self.now c.args.edge c.bottles_at.ensures.plan)

pub returns : goal.returns
returns g c =
    are_named c.args.self.now c.args.job c.args.session c.args.edge c.within.result c.needed.result c.needed.ensures.needs
    (subst (λ (l : List ℕ). c.within.result < 2 ^ length l) c.bottles_at.ensures.bottles c.within.ensures.of_edge)
    (subst (AreNeeded c.within.result c.needed.result) c.bottles_at.ensures.bottles c.within.ensures.just)
