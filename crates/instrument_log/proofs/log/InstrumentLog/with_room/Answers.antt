use Rattle.instrument_log.proofs.LogLemmas.{IsKept-empty}
use Rattle.instrument_log.proofs.log.InstrumentLog.with_room.Goals as goal

pub invariant_of-result : goal.invariant_of-result
invariant_of-result g c = (rw c.in_ok-with_capacity.ensures.items (IsKept-empty c.args.room), c.in_ok-with_capacity.ensures.capacity)
