-- How a log is kept.
use Rattle.std.specs.Prelude.{◌≡◌, ℕ, ◌≤◌, List, length, map}
use Rattle.lab_plan.specs.Limits.{largest_number}
use Rattle.instrument_log.specs.declared.entry.Entry.{Entry}
use Rattle.instrument_log.specs.Entries.{entry_bytes, entry_of}
use Rattle.instrument_log.specs.Dial.{dial}
use Rattle.instrument_log.specs.Parts.{unfinished_of}
use Rattle.instrument_log.specs.InstrumentLog.{IsLog}

-- the entries that are kept as these bytes
abbrev pub entries_of : List (List ℕ) → List Entry
entries_of packed = map entry_of packed

-- the bytes are those of a log's entries, and the rest is what its last part and its dial are
pub record IsKept (packed : List (List ℕ)) (room unfinished value : ℕ) : Type 0 where
  pub is_log : IsLog (record { entries = entries_of packed; room = room })
  pub packed_is : packed ≡ map entry_bytes (entries_of packed)
  pub unfinished_is : unfinished ≡ unfinished_of (entries_of packed)
  pub counted : unfinished_of (entries_of packed) ≤ length packed
  pub value_is : value ≡ dial (entries_of packed)
  pub value_to : value ≤ largest_number
