-- For readers: which asks hold by the lines of a journal.
use Rattle.std.specs.Prelude.{ℕ, ◌==◌, Bool, false, if◌then◌else◌, List, [], ◌∷◌, Option, None, Some}
use Rattle.bay_log.specs.declared.line.Entry.{Entry}
use Rattle.bay_log.specs.declared.line.Line.{Line}
use Rattle.bay_log.specs.declared.line.Line.TheVariants.{Head, Hold, Back, End, Note}

-- what each ask holds after a line, from what it held before
abbrev pub after : (ℕ → Option Entry) → Line → ℕ → Option Entry
after held (Head bay base next granted) n = held n
after held (Hold ask entry) n = if n == ask then Some entry else held n
after held (Back from to) n = if n == to then held from else if n == from then None else held n
after held (End ask how at) n = if n == ask then None else held n
after held (Note ask text) n = held n

abbrev pub alive_from : (ℕ → Option Entry) → List Line → ℕ → Option Entry
alive_from held [] = held
alive_from held (line ∷ lines) = alive_from (after held line) lines

-- what an ask holds after all lines
abbrev pub alive : List Line → ℕ → Option Entry
alive lines = alive_from (λ n. None) lines

-- the line by which an ask begins to hold
abbrev pub begins : ℕ → Line → Bool
begins n (Head bay base next granted) = false
begins n (Hold ask entry) = n == ask
begins n (Back from to) = n == to
begins n (End ask how at) = false
begins n (Note ask text) = false
