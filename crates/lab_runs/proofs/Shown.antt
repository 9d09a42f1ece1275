-- From a report that was sent to what is answered for an input.
use Rattle.std.proofs.Common.{ℕ, List, Option, Result, Ok, Err, sym, subst}
use Rattle.lab_program.specs.declared.faults.RunFault.{RunFault}
use Rattle.lab_program.specs.declared.faults.RunFault.TheVariants.{Script, Step, Read, TooLong, Write, NoMemory}
use Rattle.lab_program.specs.declared.faults.Outcome.{Outcome}
use Rattle.lab_program.specs.Answers.{AnswersFor}
use Rattle.lab_runs.specs.Shown.{Shows}

pub answered : (Writes : List ℕ → List ℕ → Outcome → Type 0) (Refuses : List ℕ → RunFault → Type 0)
    (input text : List ℕ) (outcome : Outcome) (old new : Option (List ℕ)) (r : Result Outcome RunFault)
    → Writes input text outcome → Shows old new text outcome r → AnswersFor Writes Refuses input old new r
answered W R input text outcome old new (Ok answer) writes s = (text, subst (W input text) (sym s.0) writes, s.1)
answered W R input text outcome old new (Err Write) writes s = (text, outcome, writes, s)
answered W R input text outcome old new (Err (Script fault)) writes s = absurd s
answered W R input text outcome old new (Err (Step line)) writes s = absurd s
answered W R input text outcome old new (Err Read) writes s = absurd s
answered W R input text outcome old new (Err TooLong) writes s = absurd s
answered W R input text outcome old new (Err NoMemory) writes s = absurd s
