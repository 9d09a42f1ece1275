-- For readers: what a program answers for the input that it reads, and what has gone out then. What it writes for an input, and which
-- inputs it refuses, is each task's own.
use Rattle.std.specs.Prelude.{ℕ, List, Option, Result, Ok, Err}
use Rattle.std.specs.Io.KnownBytes.{Keeps, Appends}
use Rattle.script_reader.specs.Script.{text_lines, Refuses}
use Rattle.report.specs.Taken.{AppendsPrefix}
use Rattle.lab_program.specs.declared.faults.RunFault.{RunFault}
use Rattle.lab_program.specs.declared.faults.RunFault.TheVariants.{Script, Read, TooLong, Write, NoMemory}
use Rattle.lab_program.specs.declared.faults.Outcome.{Outcome}
use Rattle.lab_program.specs.Input.{IsInput, IsTooLong}

-- for an input: Ok means that the text went out, and a write fault that a prefix of it did; otherwise nothing did
abbrev pub AnswersFor : (List ℕ → List ℕ → Outcome → Type 0) → (List ℕ → RunFault → Type 0)
    → List ℕ → Option (List ℕ) → Option (List ℕ) → Result Outcome RunFault → Type 0
AnswersFor Writes Refuses input old new (Ok outcome) = (text : List ℕ) × Writes input text outcome × Appends old new text
AnswersFor Writes Refuses input old new (Err Write) = (text : List ℕ) × (outcome : Outcome) × Writes input text outcome × AppendsPrefix old new text
AnswersFor Writes Refuses input old new (Err NoMemory) = Keeps old new
AnswersFor Writes Refuses input old new (Err Read) = ⊥
AnswersFor Writes Refuses input old new (Err TooLong) = ⊥
AnswersFor Writes Refuses input old new (Err fault) = Refuses input fault × Keeps old new

-- for a source: what it had left was the input, or it was not read, or too long
abbrev pub AnswersTo : (List ℕ → List ℕ → Outcome → Type 0) → (List ℕ → RunFault → Type 0)
    → Option (List ℕ) → Option (List ℕ) → Option (List ℕ) → Result Outcome RunFault → Type 0
AnswersTo Writes Refuses left old new (Err Read) = Keeps old new
AnswersTo Writes Refuses left old new (Err TooLong) = IsTooLong left × Keeps old new
AnswersTo Writes Refuses left old new (Err NoMemory) = Keeps old new
AnswersTo Writes Refuses left old new result = (input : List ℕ) × IsInput left input × AnswersFor Writes Refuses input old new result

-- the input is no script
abbrev pub ScriptRefuses : List ℕ → RunFault → Type 0
ScriptRefuses input (Script fault) = Refuses (text_lines input) fault
ScriptRefuses input _ = ⊥
