-- For readers: what each task answers, and the words that ask for it.
use Rattle.std.specs.Prelude.{◌≡◌, ◌⊎◌, ℕ, List, Option, Some, Result, Err}
use Rattle.std.specs.Io.KnownBytes.{Keeps}
use Rattle.command_line.specs.declared.words.NoTask.{NoTask}
use Rattle.command_line.specs.Ends.{EndsWithoutTask}
use Rattle.labrun_words.specs.Answers.{AnswersWords}
use Rattle.labrun_words.specs.Words.{task_of}
use Rattle.labrun_words.specs.declared.words.Task.{Task}
use Rattle.labrun_words.specs.declared.words.Task.TheVariants.{Rounds, Threads, Replay, Check, Upgrade}
use Rattle.lab_program.specs.declared.faults.RunFault.{RunFault}
use Rattle.lab_program.specs.declared.faults.Outcome.{Outcome}
use Rattle.lab_program.specs.Faults.{status_of}
use Rattle.lab_runs.specs.Replays.{ReplayAnswers}
use Rattle.lab_runs.specs.Scripts.{CheckAnswers, UpgradeAnswers}
use Rattle.lab_runs.specs.Shared.{RoundsAnswer, ThreadsAnswer}

-- for what a source had left, and what a sink has taken before and after
abbrev pub TaskAnswers : Task → Option (List ℕ) → Option (List ℕ) → Option (List ℕ) → Result Outcome RunFault → Type 0
TaskAnswers (Rounds limit) left old new result = RoundsAnswer limit left old new result
TaskAnswers (Threads workers turns) left old new result = ThreadsAnswer turns left old new result
TaskAnswers Replay left old new result = ReplayAnswers left old new result
TaskAnswers Check left old new result = CheckAnswers left old new result
TaskAnswers Upgrade left old new result = UpgradeAnswers left old new result

-- the words ask for a task, and this is its answer and its status; or they ask for none, and nothing went to the sink
abbrev pub AnswersCommand : List (List ℕ) → Option (List ℕ) → Option (List ℕ) → Option (List ℕ) → ℕ → Type 0
AnswersCommand words left old new status =
    ((task : Task) × (answer : Result Outcome RunFault) × (task_of words ≡ Some task) × TaskAnswers task left old new answer × (status ≡ status_of answer))
    ⊎ ((reason : NoTask) × AnswersWords words (Err reason) × Keeps old new × EndsWithoutTask reason status)
