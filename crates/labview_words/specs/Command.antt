-- The command line as clap is told of it, and what is made of that which it finds.
use Rattle.std.specs.Prelude.{ℕ, List, Option, None, Some, codes, option_map, if◌then◌else◌}
use Rattle.std.specs.Str.{bytes_eq}
use Rattle.clap.specs.Words.{App, Row, Text, with_subcommand}
use Rattle.command_line.specs.Command.{program_app, word_app, word_of_number, word_of_optional_number}
use Rattle.command_line.specs.Reading.{number_found}
use Rattle.labview_words.specs.declared.words.Task.{Task}
use Rattle.labview_words.specs.declared.words.Task.TheVariants.{Show, Script, Steps}
use Rattle.labview_words.specs.declared.words.View.{View}
use Rattle.labview_words.specs.declared.words.View.TheVariants.{Explain, Picture, Table, Arrange, ArrangeMeasured, Trace, Waits, Blocks, Gantt}
use Rattle.labview_words.specs.Words.{shown_over}

-- `labview` with the words that need no value
abbrev pub app_without_rounds : App
app_without_rounds =
    with_subcommand (with_subcommand (with_subcommand (with_subcommand (with_subcommand (with_subcommand (program_app (codes "labview"))
    (word_app (codes "explain")).top)
    (word_app (codes "picture")).top)
    (word_app (codes "table")).top)
    (word_app (codes "script")).top)
    (word_app (codes "steps")).top)
    (word_of_optional_number (codes "arrange") 0 1000000000).top

-- and with those that need the most rounds
abbrev pub labview_app : App
labview_app =
    with_subcommand (with_subcommand (with_subcommand (with_subcommand app_without_rounds
    (word_of_number (codes "trace") 0 1000000000).top)
    (word_of_number (codes "waits") 0 1000000000).top)
    (word_of_number (codes "blocks") 0 1000000000).top)
    (word_of_number (codes "gantt") 0 1000000000).top

-- `arrange` alone, or with the most rounds
abbrev pub arrange_found : Option ℕ → View
arrange_found None = Arrange
arrange_found (Some limit) = ArrangeMeasured limit

-- the task of a word and of the value that was found after it
abbrev pub task_found : Option (Text × List Row) → Option Task
task_found None = None
task_found (Some (word, rows)) =
    if bytes_eq word (codes "explain") then Some (Show Explain)
    else (if bytes_eq word (codes "picture") then Some (Show Picture)
    else (if bytes_eq word (codes "table") then Some (Show Table)
    else (if bytes_eq word (codes "script") then Some Script
    else (if bytes_eq word (codes "steps") then Some Steps
    else (if bytes_eq word (codes "arrange") then Some (Show (arrange_found (number_found (codes "N") rows)))
    else (if bytes_eq word (codes "trace") then option_map (shown_over Trace) (number_found (codes "N") rows)
    else (if bytes_eq word (codes "waits") then option_map (shown_over Waits) (number_found (codes "N") rows)
    else (if bytes_eq word (codes "blocks") then option_map (shown_over Blocks) (number_found (codes "N") rows)
    else (if bytes_eq word (codes "gantt") then option_map (shown_over Gantt) (number_found (codes "N") rows) else None)))))))))
