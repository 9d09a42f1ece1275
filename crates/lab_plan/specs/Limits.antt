-- For readers: the limits of a plan, as the format of scripts sets them.
use Rattle.std.specs.Prelude.{ℕ}

-- jobs of a plan
abbrev pub most_jobs : ℕ
most_jobs = 32

-- instruments of a plan
abbrev pub most_instruments : ℕ
most_instruments = 56

-- sessions of a job
abbrev pub most_sessions : ℕ
most_sessions = 1000

-- commands of a plan, of all its jobs together
abbrev pub most_commands : ℕ
most_commands = 100000

-- instruments that two jobs have in common: bottles of an edge
abbrev pub most_bottles : ℕ
most_bottles = 28

-- the number of a command, of a dial, and of a patience
abbrev pub largest_number : ℕ
largest_number = 999999
