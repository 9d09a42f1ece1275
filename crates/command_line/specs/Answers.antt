-- For readers: what is answered to the words of a command line.
use Rattle.std.specs.Prelude.{◌≡◌, ℕ, false, List, [], ◌∷◌, Option, None, Some, Result, Ok, Err}
use Rattle.clap.specs.Words.{App, IsAmong, fault_of}
use Rattle.clap.specs.declared.error.kind.ErrorKind.TheVariants as kind
use Rattle.command_line.specs.Grammar.{asks_for_help}
use Rattle.command_line.specs.declared.words.NoTask.{NoTask}
use Rattle.command_line.specs.declared.words.NoTask.TheVariants.{Help, Refused, NoMemory}

-- words that ask for a task give it; those at which clap answers with help give help, `--help` and `-h` as the first word among them;
-- all others are refused. While the words are read there may be no memory, whatever they are
abbrev pub Answers : {T : Type 0} → App → Option T → List (List ℕ) → Result T NoTask → Type 0
Answers app asked words (Ok task) = asked ≡ Some task
Answers app asked words (Err (Help text)) = (asked ≡ None) × IsAmong kind.DisplayHelp (fault_of app words)
Answers app asked words (Err (Refused why)) = (asked ≡ None) × (asks_for_help words ≡ false) × (fault_of app words ≡ kind.DisplayHelp ∷ [] → ⊥)
Answers app asked words (Err NoMemory) = Unit
