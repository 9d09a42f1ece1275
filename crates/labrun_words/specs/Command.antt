-- The command line as clap is told of it, and what is made of that which it finds.
use Rattle.std.specs.Prelude.{List, Option, None, Some, codes, option_map, if◌then◌else◌}
use Rattle.std.specs.Str.{bytes_eq}
use Rattle.clap.specs.Words.{App, Row, Text, with_subcommand}
use Rattle.command_line.specs.Command.{program_app, word_app, word_of_number, word_of_numbers}
use Rattle.command_line.specs.Grammar.{both_given}
use Rattle.command_line.specs.Reading.{number_found}
use Rattle.labrun_words.specs.declared.words.Task.{Task}
use Rattle.labrun_words.specs.declared.words.Task.TheVariants.{Rounds, Threads, Replay, Check, Upgrade}

abbrev rounds_app : App
rounds_app = word_of_number (codes "rounds") 0 1000000000

abbrev threads_app : App
threads_app = word_of_numbers (codes "threads") 1 32 0 1000000000

-- `labrun` with its five words
abbrev pub labrun_app : App
labrun_app =
    with_subcommand (with_subcommand (with_subcommand (with_subcommand (with_subcommand (program_app (codes "labrun")) rounds_app.top) threads_app.top)
    (word_app (codes "replay")).top) (word_app (codes "check")).top) (word_app (codes "upgrade")).top

-- the task of a word and of the values that were found after it
abbrev pub task_found : Option (Text × List Row) → Option Task
task_found None = Some (Rounds 10000)
task_found (Some (name, rows)) =
    if bytes_eq name (codes "rounds") then option_map Rounds (number_found (codes "N") rows)
    else (if bytes_eq name (codes "threads") then both_given Threads (number_found (codes "W") rows) (number_found (codes "N") rows)
    else (if bytes_eq name (codes "replay") then Some Replay
    else (if bytes_eq name (codes "check") then Some Check else (if bytes_eq name (codes "upgrade") then Some Upgrade else None))))
