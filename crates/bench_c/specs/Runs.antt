-- What the call of a whole run leaves in the caller's memory, and its status.
use Rattle.std.specs.Prelude.{ℕ, ◌<◌, List, length, Result, Ok, Err}
use Rattle.lab_program.specs.declared.faults.RunFault.{RunFault}
use Rattle.lab_program.specs.declared.faults.RunFault.TheVariants.{Read, TooLong, Write, NoMemory}
use Rattle.lab_program.specs.declared.faults.Outcome.{Outcome}
use Rattle.lab_program.specs.Faults.{status_of}
use Rattle.c_tells.specs.declared.told.Told.{Told}
use Rattle.c_tells.specs.Telling.{Delivers, Fails}

-- ---- how one call ends

-- for an answer of a run, and the text that went out
abbrev pub Tells : Result Outcome RunFault → List ℕ → List ℕ → List ℕ → Told → ℕ → Type 0
Tells (Ok outcome) text old new told status = Delivers (status_of (Ok outcome)) text old new told status
Tells (Err Write) text old new told status = Fails NoMemory old new told status
Tells (Err fault) text old new told status = Fails fault old new told status

-- ---- what a call says of its script

-- For readers: what is promised of a call. By its status (the program's: 0 and 3 by the outcome, 1 for a script or a step that is refused, 4 for a script that
-- is too long, 5 if no memory is left): the text that such a run writes stands at the front of the report, and its length is told; or that text is longer than
-- the room (6), and its length is told; or the script is refused for a fault that it has, and its line and cause are told. Then, and without memory, the
-- report stays as it was
abbrev pub AnswersAs : (List ℕ → List ℕ → Outcome → Type 0) → (List ℕ → RunFault → Type 0)
    → List ℕ → List ℕ → List ℕ → Told → ℕ → Result Outcome RunFault → Type 0
AnswersAs Writes Refuses script old new told status (Ok outcome) =
    (text : List ℕ) × Writes script text outcome × Delivers (status_of (Ok outcome)) text old new told status
AnswersAs Writes Refuses script old new told status (Err Read) = ⊥
AnswersAs Writes Refuses script old new told status (Err Write) = ⊥
AnswersAs Writes Refuses script old new told status (Err TooLong) = (16777216 < length script) × Fails TooLong old new told status
AnswersAs Writes Refuses script old new told status (Err NoMemory) = Fails NoMemory old new told status
AnswersAs Writes Refuses script old new told status (Err fault) = Refuses script fault × Fails fault old new told status

abbrev pub Answers : (List ℕ → List ℕ → Outcome → Type 0) → (List ℕ → RunFault → Type 0)
    → List ℕ → List ℕ → List ℕ → Told → ℕ → Type 0
Answers Writes Refuses script old new told status =
    (answer : Result Outcome RunFault) × AnswersAs Writes Refuses script old new told status answer
