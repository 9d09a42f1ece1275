-- For readers: the status if the words gave no task.
use Rattle.std.specs.Prelude.{◌≡◌, ◌⊎◌, ℕ}
use Rattle.command_line.specs.declared.words.NoTask.{NoTask}
use Rattle.command_line.specs.declared.words.NoTask.TheVariants.{Help, Refused, NoMemory}

-- 0 for help that was printed, and 4 if it wasn't
abbrev pub EndsWithHelp : ℕ → Type 0
EndsWithHelp status = (status ≡ 0) ⊎ (status ≡ 4)

-- 2 for words that are refused, 5 if no memory is left
abbrev pub EndsWithoutTask : NoTask → ℕ → Type 0
EndsWithoutTask (Help text) status = EndsWithHelp status
EndsWithoutTask (Refused why) status = status ≡ 2
EndsWithoutTask NoMemory status = status ≡ 5
