-- For readers: a lab as contracts see it, and what is true of every lab.
use Rattle.std.specs.Prelude.{◌≡◌, ℕ, ◌<◌, List, length, replicate, slice_index_or}
use Rattle.lab_plan.specs.LabPlan.{LabPlan}
use Rattle.legal_steps.specs.State.{session}
use Rattle.legal_steps.specs.Opening.{the_opening}
use Rattle.turns.specs.Patience.{waited_in}
use Rattle.interleaving.specs.Kept.{TapeView}
use Rattle.interleaving.specs.World.{WorldView}
use Rattle.interleaving.specs.Start.{at_start}
use Rattle.lab_program.specs.Answers.{ScriptRefuses}
use Rattle.lab_program.specs.declared.faults.RunFault.{RunFault}
use Rattle.lab_program.specs.declared.faults.RunFault.TheVariants.{TooLong, NoMemory}
use Rattle.live_lab.specs.declared.clock.Clock.{Clock}
use Rattle.late_thirst.specs.Outside.{LineView, nobody}
use Rattle.live_lab.specs.Clocks.{no_clock, waits}

-- its world, a clock for each job, and who waits outside
pub record LabView : Type 0 where
  pub world : WorldView
  pub clocks : List Clock
  pub line : LineView

-- the world of a plan before its first event
abbrev pub opened : LabPlan → WorldView
opened plan = at_start plan (the_opening plan)

-- the lab began in the plan's initial state, from which its past leads to where it is, as of every world; and each job has a clock
pub record IsLab (w : WorldView) (clocks : List Clock) : Type 0 where
  pub opening : w.opening ≡ the_opening w.plan
  pub one_each : length clocks ≡ length w.plan.jobs

-- each job has a place in the line
abbrev pub IsLineOf : WorldView → LineView → Type 0
IsLineOf w line = length line.places ≡ length w.plan.jobs

-- a lab in this world, with new clocks, and nobody outside
abbrev pub lab_in : WorldView → LabView
lab_in w = record { world = w; clocks = replicate (length w.plan.jobs) no_clock; line = nobody (length w.plan.jobs) }

-- a lab of the plan before its first event
abbrev pub fresh_lab : LabPlan → LabView
fresh_lab plan = lab_in (opened plan)

-- the same lab, but that this is kept of it
abbrev pub with_kept : LabView → TapeView → LabView
with_kept x kept = record x { world = record x.world { kept = kept } }

-- the same lab, but that this is its line
abbrev pub with_line : LabView → LineView → LabView
with_line x line = record { world = x.world; clocks = x.clocks; line = line }

-- why no lab was opened: the script is too long, or it has this fault; or there was no memory
abbrev pub IsWhyNot : List ℕ → RunFault → Type 0
IsWhyNot script TooLong = 16777216 < length script
IsWhyNot script NoMemory = Unit {0}
IsWhyNot script fault = ScriptRefuses script fault

-- ---- what is read of a lab

abbrev pub clock_at : LabView → ℕ → Clock
clock_at x j = slice_index_or x.clocks j no_clock

-- how many turns the session that job j is in, or was in last, has waited
abbrev pub waited : LabView → ℕ → ℕ
waited x j = waited_in (waits (clock_at x j)) (session x.world.state j)
