-- For readers: what is answered to the words of the command line.
use Rattle.std.specs.Prelude.{ℕ, List, Result}
use Rattle.command_line.specs.Answers.{Answers}
use Rattle.command_line.specs.declared.words.NoTask.{NoTask}
use Rattle.labview_words.specs.Command.{labview_app}
use Rattle.labview_words.specs.Words.{task_of}
use Rattle.labview_words.specs.declared.words.Task.{Task}

abbrev pub AnswersWords : List (List ℕ) → Result Task NoTask → Type 0
AnswersWords words answer = Answers labview_app (task_of words) words answer
