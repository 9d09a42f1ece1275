-- For readers: the limits of a log's entries, and the 16 bytes that spell one.
use Rattle.std.specs.Prelude.{ℕ, zero, suc, ◌<◌, ◌≤◌, ◌+◌, ◌*◌, List, ◌++◌, slice_index_or}
use Rattle.std.specs.Int.{bytes_low_first}
use Rattle.lab_plan.specs.declared.verb.Verb.{Verb}
use Rattle.lab_plan.specs.declared.verb.Verb.TheVariants.{Set, Add, Read}
use Rattle.lab_plan.specs.Limits.{most_jobs, most_sessions, most_commands, largest_number}
use Rattle.lab_plan.specs.Verbs.{verb_number, Fits}
use Rattle.instrument_log.specs.declared.entry.Entry.{Entry}

-- an entry within the limits of a plan
pub record IsWithinLimits (entry : Entry) : Type 0 where
  pub job_within : entry.job < most_jobs
  pub session_from : 1 ≤ entry.session
  pub session_to : entry.session ≤ most_sessions
  pub length_to : entry.length ≤ most_commands
  pub place_from : 1 ≤ entry.place
  pub place_to : entry.place ≤ entry.length
  pub verb_fits : Fits entry.verb
  pub value_to : entry.value ≤ largest_number

-- the byte that says which verb it is
abbrev pub verb_code : Verb → ℕ
verb_code (Set number) = 0
verb_code (Add number) = 1
verb_code Read = 2

-- a number in this many bytes, the least first
abbrev pub field : ℕ → ℕ → List ℕ
field bytes number = bytes_low_first 0 bytes number

-- byte 0 the job, 1 to 2 the session, 3 to 5 the place, 6 to 8 the length, 9 the verb, 10 to 12 its number, 13 to 15 the value
unfoldable pub entry_bytes : Entry → List ℕ
entry_bytes entry = field 1 entry.job ++ field 2 entry.session ++ field 3 entry.place ++ field 3 entry.length
    ++ field 1 (verb_code entry.verb) ++ field 3 (verb_number entry.verb) ++ field 3 entry.value

-- the verb of a code and a number
abbrev pub verb_of : ℕ → ℕ → Verb
verb_of zero number = Set number
verb_of (suc zero) number = Add number
verb_of (suc (suc more)) number = Read

-- the number in two or three of the bytes, from this place on, the least first
abbrev pub two_from : ℕ → List ℕ → ℕ
two_from place bytes = slice_index_or bytes place 0 + 256 * slice_index_or bytes (place + 1) 0

abbrev pub three_from : ℕ → List ℕ → ℕ
three_from place bytes = two_from place bytes + 65536 * slice_index_or bytes (place + 2) 0

-- the entry that 16 bytes spell
unfoldable pub entry_of : List ℕ → Entry
entry_of bytes = record {
  job = slice_index_or bytes 0 0;
  session = two_from 1 bytes;
  place = three_from 3 bytes;
  length = three_from 6 bytes;
  verb = verb_of (slice_index_or bytes 9 0) (three_from 10 bytes);
  value = three_from 13 bytes;
}
