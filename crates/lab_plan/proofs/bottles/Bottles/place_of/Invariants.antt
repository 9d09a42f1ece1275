use Rattle.std.proofs.Common.{◌≡◌, ◌≢◌, ℕ, ◌<◌, slice_index_or}
use Rattle.lab_plan.proofs.bottles.Bottles.place_of.Given as goal

abbrev pub invariant-loop-other : goal.invariant-loop-other
invariant-loop-other g l = record {
  counted : l.next ≡ l.other-index;
  not_yet : (k : ℕ) → k < l.other-index → slice_index_or l.other-items k 0 ≢ l.instrument;
}
