-- For readers: what is answered to the words of the command line.
use Rattle.std.specs.Prelude.{ℕ, List, Result}
use Rattle.command_line.specs.Answers.{Answers}
use Rattle.command_line.specs.declared.words.NoTask.{NoTask}
use Rattle.labrun_words.specs.Command.{labrun_app}
use Rattle.labrun_words.specs.Words.{task_of}
use Rattle.labrun_words.specs.declared.words.Task.{Task}

abbrev pub AnswersWords : List (List ℕ) → Result Task NoTask → Type 0
AnswersWords words answer = Answers labrun_app (task_of words) words answer
