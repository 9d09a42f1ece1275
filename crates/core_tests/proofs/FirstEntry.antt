-- A log without entries takes a first place.
use Rattle.std.proofs.Common.{◌≡◌, ◌<◌, List, [], ◌∷◌, length, arith}
use Rattle.instrument_log.specs.declared.entry.Entry.{Entry}
use Rattle.instrument_log.specs.InstrumentLog.{LogView, MayAppend}
use Rattle.instrument_log.specs.Parts.{open_entry, Follows}

follows : (entries : List Entry) (entry : Entry) → length entries ≡ 0 → entry.place ≡ 1 → Follows entries entry
unfolding open_entry
follows [] entry none first = first
follows (x ∷ entries) entry none first = absurd (omega (arith, none))

pub may_begin : (log : LogView) (entry : Entry) → length log.entries ≡ 0 → 0 < log.room → entry.place ≡ 1 → MayAppend log entry
may_begin log entry none room first = record { follows = follows log.entries entry none first; has_room = omega (arith, none, room) }
