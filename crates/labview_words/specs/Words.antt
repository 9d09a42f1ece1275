-- For readers: the words of the command line, the program's own name first.
use Rattle.std.specs.Prelude.{ℕ, List, [], ◌∷◌, Option, None, Some, codes, option_map, if◌then◌else◌}
use Rattle.std.specs.Str.{bytes_eq}
use Rattle.command_line.specs.Grammar.{alone, number_within, values_given, with_number}
use Rattle.labview_words.specs.declared.words.Task.{Task}
use Rattle.labview_words.specs.declared.words.Task.TheVariants.{Show, Script, Steps}
use Rattle.labview_words.specs.declared.words.View.{View}
use Rattle.labview_words.specs.declared.words.View.TheVariants.{Explain, Picture, Table, Arrange, ArrangeMeasured, Trace, Waits, Blocks, Gantt}

-- a view over the most rounds
abbrev pub shown_over : (ℕ → View) → ℕ → Task
shown_over view limit = Show (view limit)

-- a word with the most rounds
abbrev pub over : (ℕ → View) → List (List ℕ) → Option Task
over view values = with_number (shown_over view) 0 1000000000 values

-- a word that may have the most rounds
abbrev pub alone_or_over : Task → (ℕ → Task) → List (List ℕ) → Option Task
alone_or_over task measured [] = Some task
alone_or_over task measured (limit ∷ []) = option_map measured (number_within 0 1000000000 limit)
alone_or_over task measured _ = None

-- the task of a word with its values
unfoldable pub task_with : List ℕ → List (List ℕ) → Option Task
task_with word values =
    if bytes_eq word (codes "explain") then alone (Show Explain) values
    else (if bytes_eq word (codes "picture") then alone (Show Picture) values
    else (if bytes_eq word (codes "table") then alone (Show Table) values
    else (if bytes_eq word (codes "script") then alone Script values
    else (if bytes_eq word (codes "steps") then alone Steps values
    else (if bytes_eq word (codes "arrange") then alone_or_over (Show Arrange) (shown_over ArrangeMeasured) values
    else (if bytes_eq word (codes "trace") then over Trace values
    else (if bytes_eq word (codes "waits") then over Waits values
    else (if bytes_eq word (codes "blocks") then over Blocks values
    else (if bytes_eq word (codes "gantt") then over Gantt values else None)))))))))

-- the task that some words ask for; none without a word
abbrev pub task_of : List (List ℕ) → Option Task
task_of (name ∷ word ∷ rest) = task_with word (values_given rest)
task_of _ = None
