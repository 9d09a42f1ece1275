-- A fault of an entry, by its instrument and its place.
use Rattle.std.proofs.Common.{◌≡◌, ℕ, ◌+◌, ◌<◌, List, Some, length, refl}
use Rattle.std.specs.List.{slice_get}
use Rattle.std.proofs.lemmas.Option.{slice_get_within}
use Rattle.report_reader.specs.Line.{EntryText, JobText}
use Rattle.report_reader.specs.Report.{LogText}
use Rattle.timeline.specs.declared.fault.EntryCause.{EntryCause}
use Rattle.timeline.specs.declared.fault.EntryCause.TheVariants as causes
use Rattle.timeline.specs.Faults.{FailsAt, HasFault}

pub fault_at : (jobs : List JobText) (logs : List LogText) (n : ℕ) (log : LogText) (place : ℕ) (cause : EntryCause) → slice_get logs n ≡ Some log
    → FailsAt jobs log.entries place cause → HasFault jobs logs (n + 1) (place + 1) cause
fault_at jobs logs n log place cause stands fails = record {
  i = n;
  k = place;
  log = log;
  instrument_is = refl;
  entry_is = refl;
  stands = stands;
  fails = fails;
}

-- an entry that fails is one of the log
pub fails_within : (jobs : List JobText) (entries : List EntryText) (k : ℕ) (cause : EntryCause) → FailsAt jobs entries k cause → k < length entries
fails_within jobs entries k causes.NoJobLine f = slice_get_within entries k f.entry f.stands
fails_within jobs entries k causes.LimitPassed f = slice_get_within entries k f.entry f.stands
fails_within jobs entries k causes.NoSuchPlace f = slice_get_within entries k f.entry f.stands
fails_within jobs entries k causes.OutOfOrder f = slice_get_within entries k f.entry f.stands
fails_within jobs entries k causes.SessionTwice f = slice_get_within entries k f.entry f.stands
