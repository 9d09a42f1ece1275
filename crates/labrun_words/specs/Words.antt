-- For readers: the words of the command line, the program's own name first.
use Rattle.std.specs.Prelude.{◌≤◌, ℕ, List, [], ◌∷◌, Option, None, Some, codes, if◌then◌else◌}
use Rattle.std.specs.Str.{bytes_eq}
use Rattle.command_line.specs.Grammar.{alone, values_given, with_number, with_numbers}
use Rattle.labrun_words.specs.declared.words.Task.{Task}
use Rattle.labrun_words.specs.declared.words.Task.TheVariants.{Rounds, Threads, Replay, Check, Upgrade}

-- the task of a word with its values: `rounds N`, `threads W N`, and words without values
unfoldable pub task_with : List ℕ → List (List ℕ) → Option Task
task_with word values =
    if bytes_eq word (codes "rounds") then with_number Rounds 0 1000000000 values
    else (if bytes_eq word (codes "threads") then with_numbers Threads 1 32 0 1000000000 values
    else (if bytes_eq word (codes "replay") then alone Replay values
    else (if bytes_eq word (codes "check") then alone Check values
    else (if bytes_eq word (codes "upgrade") then alone Upgrade values else None))))

-- the task that some words ask for; none as `rounds 10000`, and `--` alone as none
abbrev pub task_of : List (List ℕ) → Option Task
task_of [] = Some (Rounds 10000)
task_of (name ∷ []) = Some (Rounds 10000)
task_of (name ∷ word ∷ rest) = if bytes_eq word (codes "--") then alone (Rounds 10000) rest else task_with word (values_given rest)

-- a run by threads has 1 to 32 workers
abbrev pub MayRun : Task → Type 0
MayRun (Threads workers turns) = (1 ≤ workers) × (workers ≤ 32)
MayRun _ = Unit
