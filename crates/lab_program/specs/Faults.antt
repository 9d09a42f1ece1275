-- For readers: faults of runs, and the statuses that the program ends with.
use Rattle.std.specs.Prelude.{ℕ, Result, Ok, Err}
use Rattle.script_reader.specs.declared.fault.ScriptCause.{ScriptCause}
use Rattle.script_reader.specs.declared.fault.ScriptCause.TheVariants as causes
use Rattle.lab_program.specs.declared.input.ReadFault.{ReadFault}
use Rattle.lab_program.specs.declared.input.ReadFault.TheVariants as reading
use Rattle.lab_program.specs.declared.faults.RunFault.{RunFault}
use Rattle.lab_program.specs.declared.faults.RunFault.TheVariants.{Script, Step, Read, TooLong, Write, NoMemory}
use Rattle.lab_program.specs.declared.faults.Outcome.{Outcome}
use Rattle.lab_program.specs.declared.faults.Outcome.TheVariants.{Finished, Unfinished}

-- why an input was not read, as the fault of a run
abbrev pub fault_of : ReadFault → RunFault
fault_of reading.Read = Read
fault_of reading.TooLong = TooLong
fault_of reading.NoMemory = NoMemory

abbrev pub status_of_cause : ScriptCause → ℕ
status_of_cause causes.NoMemory = 5
status_of_cause _ = 1

-- the status that a run ends with: 0 and 3 by its outcome, else by its fault
abbrev pub status_of : Result Outcome RunFault → ℕ
status_of (Ok Finished) = 0
status_of (Ok Unfinished) = 3
status_of (Err (Script fault)) = status_of_cause fault.cause
status_of (Err (Step line)) = 1
status_of (Err Read) = 4
status_of (Err TooLong) = 4
status_of (Err Write) = 4
status_of (Err NoMemory) = 5

-- how often a read failed, if that is why the input was not read
abbrev pub reads_failed_by : ReadFault → ℕ
reads_failed_by reading.Read = 1
reads_failed_by reading.TooLong = 0
reads_failed_by reading.NoMemory = 0

abbrev pub read_failures : {A : Type 0} → Result A ReadFault → ℕ
read_failures (Ok answer) = 0
read_failures (Err fault) = reads_failed_by fault

-- how often a read, and a write or a flush, failed in a run that answers so
abbrev pub failed_reads : Result Outcome RunFault → ℕ
failed_reads (Err Read) = 1
failed_reads _ = 0

abbrev pub failed_writes : Result Outcome RunFault → ℕ
failed_writes (Err Write) = 1
failed_writes _ = 0
