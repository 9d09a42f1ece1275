-- What is answered when the report of a run is sent.
use Rattle.std.specs.Prelude.{◌≡◌, ℕ, List, Option, Result, Ok, Err}
use Rattle.std.specs.Io.KnownBytes.{Appends}
use Rattle.report.specs.Taken.{AppendsPrefix}
use Rattle.lab_program.specs.declared.faults.RunFault.{RunFault}
use Rattle.lab_program.specs.declared.faults.RunFault.TheVariants.{Write}
use Rattle.lab_program.specs.declared.faults.Outcome.{Outcome}

-- the text went out, and the outcome is answered; or the sink failed, and a prefix of it did
abbrev pub Shows : Option (List ℕ) → Option (List ℕ) → List ℕ → Outcome → Result Outcome RunFault → Type 0
Shows old new text outcome (Ok answer) = (answer ≡ outcome) × Appends old new text
Shows old new text outcome (Err Write) = AppendsPrefix old new text
Shows old new text outcome (Err fault) = ⊥
