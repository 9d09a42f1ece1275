-- What comes of a journal: the world after its steps, and the lab after the commands in hand.
use Rattle.std.specs.Prelude.{◌≡◌, ◌≢◌, ℕ, ◌≤◌, true, List, ◌++◌, length, map, replicate, slice_get, Result, Ok, Err, None, Some}
use Rattle.std.specs.List.{All}
use Rattle.lab_plan.specs.LabPlan.{LabPlan}
use Rattle.legal_steps.specs.declared.event.Event.{Event}
use Rattle.legal_steps.specs.declared.event.Step.{Step}
use Rattle.legal_steps.specs.declared.event.StepLine.{StepLine}
use Rattle.legal_steps.specs.declared.phase.Drinking.TheVariants.{Reaching}
use Rattle.legal_steps.specs.State.{drinking}
use Rattle.legal_steps.specs.Legal.{IsJob}
use Rattle.legal_steps.specs.Opening.{the_opening}
use Rattle.legal_steps.specs.Run.{StopsAt}
use Rattle.legal_steps.specs.Steps.{IsStepOf, step_events}
use Rattle.interleaving.specs.World.{WorldView, GoesOnBy}
use Rattle.explaining.specs.Explanations.{events_from_opening}
use Rattle.late_thirst.specs.Outside.{nobody}
use Rattle.live_lab.specs.Clocks.{no_clock}
use Rattle.live_lab.specs.Labs.{LabView}
use Rattle.journal_texts.specs.Sums.{wrong_sum}
use Rattle.lab_journal.specs.Rooms.{room_for}
use Rattle.lab_journal.specs.Meaning.{JournalMeans}
use Rattle.lab_journal.specs.Resumed.{IsAct}

-- each step of the one plan is one of the other
abbrev pub KeepsSteps : LabPlan → LabPlan → Type 0
KeepsSteps plan longer = (step : Step) → IsStepOf plan step → IsStepOf longer step

-- at most n commands in hand were done
pub record Finishes (n : ℕ) (old new : WorldView) : Type 0 where
  pub acts : List Event
  pub are_acts : All IsAct acts
  pub few : length acts ≤ n
  pub same_plan : new.plan ≡ old.plan
  pub goes_on : GoesOnBy old acts new

-- the steps were done one after another; or this line's is the first that isn't legal
abbrev pub TakesSteps : WorldView → List StepLine → Result (Unit {0}) ℕ → WorldView → Type 0
TakesSteps old steps (Ok done) new =
    (new.plan ≡ old.plan) × GoesOnBy old (step_events old.plan old.state (map (λ (step : StepLine). step.step) steps)) new
TakesSteps old steps (Err line) new =
    (place : ℕ) × StopsAt old.plan old.state (step_events old.plan old.state (map (λ (step : StepLine). step.step) steps)) place new.state
    × (slice_get (map (λ (step : StepLine). step.line) steps) place ≡ Some line)

-- the world after the steps of a text, whose sums are right
pub record IsReplayed (text : List ℕ) (w : WorldView) : Type 0 where
  pub steps : List StepLine
  pub means : JournalMeans text w.plan steps
  pub sums : wrong_sum text ≡ None
  pub opening : w.opening ≡ the_opening w.plan
  pub past : w.past ≡ events_from_opening w.plan steps

-- the lab in such a world, after the commands in hand, with nobody outside
pub record IsKeptIn (w : WorldView) (x : LabView) : Type 0 where
  pub acts : List Event
  pub are_acts : All IsAct acts
  pub same_plan : x.world.plan ≡ w.plan
  pub none_in_hand : (j : ℕ) → IsJob x.world.plan j → drinking x.world.state j ≢ Reaching
  pub opening : x.world.opening ≡ w.opening
  pub past : x.world.past ≡ w.past ++ acts
  pub kept : x.world.kept.events ≡ acts
  pub whole : x.world.kept.whole ≡ true
  pub room : room_for x.world.plan 0 ≤ x.world.kept.room
  pub clocks : x.clocks ≡ replicate (length x.world.plan.jobs) no_clock
  pub line : x.line ≡ nobody (length x.world.plan.jobs)
