-- For readers: how the turns of a job are counted, and those of them in which its session waits.
use Rattle.std.specs.Prelude.{Bool, ◌&&◌, if◌then◌else◌}
use Rattle.legal_steps.specs.declared.phase.JobState.{JobState}
use Rattle.turns.specs.Patience.{Waited, one_more, is_waiting, waited_in}
use Rattle.live_lab.specs.declared.clock.Clock.{Clock}

-- a clock before the job's first turn
abbrev pub no_clock : Clock
no_clock = record { turns = 0; waited = 0; session = 0 }

-- its count of patience, and the session that it is of
abbrev pub waits : Clock → Waited
waits x = record { turns = x.waited; session = x.session }

-- the count after a turn that left the job in this phase, at whose start it was thirsty or not
abbrev pub waited_then : Waited → Bool → JobState → Waited
waited_then w thirsty phase = record {
  turns = if thirsty && is_waiting phase.drinking then one_more 4294967295 (waited_in w phase.session) else waited_in w phase.session;
  session = phase.session;
}

abbrev pub ticked : Clock → Waited → Clock
ticked x w = record { turns = one_more 18446744073709551615 x.turns; waited = w.turns; session = w.session }

-- the clock after such a turn
abbrev pub after_turn : Bool → JobState → Clock → Clock
after_turn thirsty phase x = ticked x (waited_then (waits x) thirsty phase)
