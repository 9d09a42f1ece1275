-- For readers: what is told of a fault, and what is put into the caller's memory.
use Rattle.std.specs.Prelude.{◌≡◌, ◌⊎◌, ℕ, ◌≤◌, ◌<◌, List, length, ◌++◌, drop, Err}
use Rattle.script_reader.specs.declared.fault.ScriptCause.{ScriptCause}
use Rattle.script_reader.specs.declared.fault.ScriptCause.TheVariants as causes
use Rattle.lab_program.specs.declared.faults.RunFault.{RunFault}
use Rattle.lab_program.specs.declared.faults.RunFault.TheVariants.{Script, Step}
use Rattle.lab_program.specs.Faults.{status_of}
use Rattle.c_tells.specs.declared.told.Told.{Told}

-- ---- what is told of a fault

-- k for Sk
abbrev pub cause_number : ScriptCause → ℕ
cause_number causes.NoHeader = 1
cause_number causes.UnknownWord = 2
cause_number causes.BadName = 3
cause_number causes.BadNumber = 4
cause_number causes.JobTwice = 5
cause_number causes.NotInSession = 6
cause_number causes.NotInJob = 7
cause_number causes.EmptySession = 8
cause_number causes.SessionNotClosed = 9
cause_number causes.LimitPassed = 10
cause_number causes.TooManyInCommon = 11
cause_number causes.NoMemory = 12
cause_number causes.BadStep = 13
cause_number causes.NotItsOwn = 14

-- the line that the fault names, and why; 0 if it names none
abbrev pub told_of : RunFault → Told
told_of (Script fault) = record { written = 0; line = fault.line; cause = cause_number fault.cause }
told_of (Step line) = record { written = 0; line = line; cause = 0 }
told_of _ = record { written = 0; line = 0; cause = 0 }

-- the length of a text, and no fault
abbrev pub told_length : ℕ → Told
told_length written = record { written = written; line = 0; cause = 0 }

-- ---- texts

-- the text stands at the front of the room, and the rest of the room is as it was
pub record Puts (text old new : List ℕ) : Type 0 where
  pub fits : length text ≤ length old
  pub bytes : new ≡ text ++ drop (length text) old

-- a text was put, or there is no room for it and nothing is put; the status then is 6
abbrev pub Gives : ℕ → List ℕ → List ℕ → List ℕ → ℕ → Type 0
Gives full text old new status = ((status ≡ full) × Puts text old new) ⊎ ((status ≡ 6) × (length old < length text) × (new ≡ old))

-- the same, and its length is told
abbrev pub Delivers : ℕ → List ℕ → List ℕ → List ℕ → Told → ℕ → Type 0
Delivers full text old new told status = (told ≡ told_length (length text)) × Gives full text old new status

-- the room stays as it was, and the fault is told
abbrev pub Fails : RunFault → List ℕ → List ℕ → Told → ℕ → Type 0
Fails fault old new told status = (status ≡ status_of (Err fault)) × (new ≡ old) × (told ≡ told_of fault)
