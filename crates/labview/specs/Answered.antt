-- For readers: what is answered to a command line of `labview`.
use Rattle.std.specs.Prelude.{◌≡◌, ◌⊎◌, ℕ, List, Option, Some, Result, Err}
use Rattle.std.specs.Io.KnownBytes.{Keeps}
use Rattle.lab_program.specs.declared.faults.RunFault.{RunFault}
use Rattle.lab_program.specs.declared.faults.Outcome.{Outcome}
use Rattle.lab_program.specs.Faults.{status_of}
use Rattle.command_line.specs.declared.words.NoTask.{NoTask}
use Rattle.command_line.specs.Ends.{EndsWithoutTask}
use Rattle.measured_orders.specs.declared.gain.Gain.{Gain}
use Rattle.labview_words.specs.declared.words.Task.{Task}
use Rattle.labview_words.specs.declared.words.Task.TheVariants.{Show, Script, Steps}
use Rattle.labview_words.specs.Words.{task_of}
use Rattle.labview_words.specs.Answers.{AnswersWords}
use Rattle.lab_views.specs.declared.view_fault.ViewFault.{ViewFault}
use Rattle.lab_views.specs.Answered.{ViewAnswers, status_of_view}
use Rattle.journal_views.specs.Journals.{ScriptAnswers, StepsAnswers}

-- the answer to a task, and its status
abbrev pub TaskAnswers : Task → Option (List ℕ) → Option (List ℕ) → Option (List ℕ) → ℕ → Type 0
TaskAnswers (Show view) left old new status =
    (told : Option Gain) × (answer : Result Outcome ViewFault) × ViewAnswers view told left old new answer × (status ≡ status_of_view answer)
TaskAnswers Script left old new status = (answer : Result Outcome RunFault) × ScriptAnswers left old new answer × (status ≡ status_of answer)
TaskAnswers Steps left old new status = (answer : Result Outcome RunFault) × StepsAnswers left old new answer × (status ≡ status_of answer)

-- the words ask for a task, and this is its answer and its status; or they ask for none, and nothing went to the sink
abbrev pub AnswersCommand : List (List ℕ) → Option (List ℕ) → Option (List ℕ) → Option (List ℕ) → ℕ → Type 0
AnswersCommand words left old new status =
    ((task : Task) × (task_of words ≡ Some task) × TaskAnswers task left old new status)
    ⊎ ((reason : NoTask) × AnswersWords words (Err reason) × Keeps old new × EndsWithoutTask reason status)
