use Rattle.std.proofs.Common.{◌≡◌, ℕ, ◌<◌, length, slice_index_or}
use Rattle.legal_steps.proofs.RoomShares.{sum_to}
use Rattle.plan_logs.specs.Rooms.{on_by}
use Rattle.plan_logs.proofs.rooms.rooms.Given as goal

abbrev pub invariant-loop-job : goal.invariant-loop-job
invariant-loop-job g l = (length l.rooms.items ≡ length l.plan.instruments)
    × ((i : ℕ) → i < length l.plan.instruments → slice_index_or l.rooms.items i 0 ≡ sum_to (on_by l.plan i) l.job)
