use Rattle.std.proofs.Common.{◌≡◌, map}
use Rattle.std.specs.List.{range_with_len}
use Rattle.instrument_log.specs.InstrumentLog.{empty_log}
use Rattle.legal_steps.specs.WholeLogs.{room_of}
use Rattle.plan_logs.proofs.rooms.empty_logs.Given as goal

abbrev pub invariant-loop-number : goal.invariant-loop-number
invariant-loop-number g l = l.logs.items ≡ map (λ i. empty_log (room_of l.plan i)) (range_with_len 0 l.number)
