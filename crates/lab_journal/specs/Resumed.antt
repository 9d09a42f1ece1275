-- For readers: how a lab comes back from a journal, or why it doesn't.
use Rattle.std.specs.Prelude.{◌≡◌, ◌≢◌, ◌⊎◌, ◌≤◌, ℕ, true, List, ◌++◌, length, map, take, replicate, slice_get, None, Some}
use Rattle.std.specs.List.{All}
use Rattle.legal_steps.specs.declared.event.Event.{Event}
use Rattle.legal_steps.specs.declared.event.Event.TheVariants.{Act}
use Rattle.legal_steps.specs.declared.event.StepLine.{StepLine}
use Rattle.legal_steps.specs.declared.phase.Drinking.TheVariants.{Reaching}
use Rattle.legal_steps.specs.State.{State, drinking}
use Rattle.legal_steps.specs.Legal.{IsJob}
use Rattle.legal_steps.specs.Opening.{the_opening}
use Rattle.legal_steps.specs.Run.{StopsAt}
use Rattle.lab_plan.specs.LabPlan.{LabPlan}
use Rattle.interleaving.specs.World.{IsReachedBy}
use Rattle.script_reader.specs.declared.fault.ScriptCause.TheVariants.{BadStep}
use Rattle.script_reader.specs.Steps.{StepsRefuse}
use Rattle.explaining.specs.Explanations.{events_from_opening}
use Rattle.lab_program.specs.declared.faults.RunFault.{RunFault}
use Rattle.lab_program.specs.declared.faults.RunFault.TheVariants.{Script, Step, NoMemory}
use Rattle.late_thirst.specs.Outside.{nobody}
use Rattle.live_lab.specs.Clocks.{no_clock}
use Rattle.live_lab.specs.Labs.{LabView}
use Rattle.journal_texts.specs.Lines.{AreWholeLines}
use Rattle.journal_texts.specs.Sums.{wrong_sum}
use Rattle.lab_journal.specs.Rooms.{room_for}
use Rattle.lab_journal.specs.Meaning.{JournalMeans, HasBadAddition}

-- ---- the lab

abbrev pub IsAct : Event → Type 0
IsAct event = (j : ℕ) × (event ≡ Act j)

-- The first n bytes of the journal were taken: a script with steps and sessions that came, whose sums are right. The steps were done, one after another, from
-- the initial state on, by the plan with these sessions, and then the commands in hand. Only these are kept, since the journal has the others, with room for
-- the steps of two calls; each clock is new; and nobody is outside, nor ever has to be: who was has to ask again, and the number of overtakes is 0
pub record IsResumed (journal : List ℕ) (n : ℕ) (x : LabView) : Type 0 where
  pub lines : AreWholeLines journal n
  pub steps : List StepLine
  pub means : JournalMeans (take n journal) x.world.plan steps
  pub sums : wrong_sum (take n journal) ≡ None
  pub acts : List Event
  pub are_acts : All IsAct acts
  pub none_in_hand : (j : ℕ) → IsJob x.world.plan j → drinking x.world.state j ≢ Reaching
  pub opening : x.world.opening ≡ the_opening x.world.plan
  pub past : x.world.past ≡ events_from_opening x.world.plan steps ++ acts
  pub reached : IsReachedBy x.world.plan x.world.opening x.world.past x.world.state x.world.counts
  pub kept : x.world.kept.events ≡ acts
  pub whole : x.world.kept.whole ≡ true
  pub room : room_for x.world.plan 0 ≤ x.world.kept.room
  pub clocks : x.clocks ≡ replicate (length x.world.plan.jobs) no_clock
  pub line : x.line ≡ nobody (length x.world.plan.jobs)

-- ---- or the reason

-- a script with steps and sessions that came, and this line's step is the first that isn't legal
pub record HasIllegalStep (text : List ℕ) (line : ℕ) : Type 0 where
  pub plan : LabPlan
  pub steps : List StepLine
  pub means : JournalMeans text plan steps
  pub place : ℕ
  pub state : State
  pub stops : StopsAt plan (the_opening plan) (events_from_opening plan steps) place state
  pub at_line : slice_get (map (λ (step : StepLine). step.line) steps) place ≡ Some line

-- the text has this fault as a script with steps, or in what came, or all is legal and this sum is wrong; or this line's step isn't legal; or there was no
-- memory
abbrev pub IsRefused : List ℕ → RunFault → Type 0
IsRefused text (Script fault) = StepsRefuse text fault ⊎ HasBadAddition text fault ⊎ ((fault.cause ≡ BadStep) × (wrong_sum text ≡ Some fault.line))
IsRefused text (Step line) = HasIllegalStep text line
IsRefused text NoMemory = Unit {0}
IsRefused text _ = ⊥

abbrev pub IsNotResumed : List ℕ → RunFault → Type 0
IsNotResumed journal fault = (n : ℕ) × AreWholeLines journal n × IsRefused (take n journal) fault
