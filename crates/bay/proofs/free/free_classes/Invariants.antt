use Rattle.std.proofs.Common.{◌≡◌, ℕ, ◌<◌, ◌↔◌}
use Rattle.std.specs.Int.{bit_at}
use Rattle.bay.specs.Cores.{IsFreeClass}
use Rattle.bay.proofs.free.free_classes.Given as goal

abbrev pub invariant-loop-class : goal.invariant-loop-class
invariant-loop-class l = (j : ℕ) → (bit_at l.free j ≡ 1) ↔ ((j < l.class) × IsFreeClass l.classes l.book.asks j)
