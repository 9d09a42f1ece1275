-- For readers: what a job has done, as it is counted.
use Rattle.std.specs.Prelude.{ℕ, List}
use Rattle.legal_steps.specs.declared.counts.Counts.{Counts}
use Rattle.legal_steps.specs.declared.event.Event.{Event}
use Rattle.legal_steps.specs.Run.{meals_of, sessions_done_of, withdrawn_of}

-- the counts of a job before its first event
abbrev pub no_counts : Counts
no_counts = record { meals = 0; sessions_done = 0; withdrawn = 0 }

-- the counts of job j in a list of events: its meals, the sessions that it ended, and those that it gave up
abbrev pub counts_of : ℕ → List Event → Counts
counts_of j events = record { meals = meals_of j events; sessions_done = sessions_done_of j events; withdrawn = withdrawn_of j events }
