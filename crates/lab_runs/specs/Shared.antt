-- For readers: runs of a script by rounds and by threads, and what is promised of them: the headline.
use Rattle.std.specs.Prelude.{◌≡◌, ◌≢◌, ℕ, List, [], length, Option, Result}
use Rattle.lab_plan.specs.LabPlan.{LabPlan}
use Rattle.legal_steps.specs.declared.event.Event.{Event}
use Rattle.legal_steps.specs.Opening.{the_opening}
use Rattle.script_reader.specs.Script.{ScriptMeans}
use Rattle.report.specs.Events.{retired_after}
use Rattle.rounds.specs.declared.ended.Ended.{Ended}
use Rattle.rounds.specs.declared.ended.Ended.TheVariants.{Quiet}
use Rattle.rounds.specs.OneRun.{RanRounds}
use Rattle.rounds.specs.FromOpening.{fresh_players}
use Rattle.whole_runs.specs.Turns.{TakeTurns}
use Rattle.lab_program.specs.declared.faults.RunFault.{RunFault}
use Rattle.lab_program.specs.declared.faults.Outcome.{Outcome}
use Rattle.lab_program.specs.Answers.{ScriptRefuses, AnswersTo}
use Rattle.lab_program.specs.Reports.{Reports}

-- Whatever the schedule: the input is a script and means a plan, and the text is the report of one list of events of this plan, each legal after the ones
-- before it from the initial state on. The headline holds of it (Reports). The events of each job are whole turns, one after another, at most this many;
-- and exactly that many if not every job is retired. In a turn all that is due is done, except an exchange whose edge had changed since the look
pub record RunsByTurns (turns : ℕ) (input text : List ℕ) (outcome : Outcome) : Type 0 where
  pub plan : LabPlan
  pub means : ScriptMeans input plan
  pub history : List Event
  pub reported : Reports plan history text outcome
  pub takes_turns : TakeTurns plan history turns (retired_after plan (the_opening plan) history)

-- The same in rounds, each with one turn of each job, in ascending order. They ended because all jobs were retired, or after as many as were asked for,
-- and the last wasn't quiet: somebody did something in it, or the ends of an edge saw different words
pub record RunsInRounds (limit : ℕ) (input text : List ℕ) (outcome : Outcome) : Type 0 where
  pub by_turns : RunsByTurns limit input text outcome
  pub ended : Ended
  pub number : ℕ
  pub rounds : RanRounds by_turns.plan limit (fresh_players (length by_turns.plan.jobs)) [] ended number by_turns.history
  pub not_quiet : ended ≢ Quiet

-- a script and a limit have one report
abbrev pub HasOneRun : Type 0
HasOneRun = (limit : ℕ) (input text text' : List ℕ) (outcome outcome' : Outcome)
    → RunsInRounds limit input text outcome → RunsInRounds limit input text' outcome'
    → (text ≡ text') × (outcome ≡ outcome')

-- what the runs answer, for what a source had left, and what a sink has taken before and after
abbrev pub RoundsAnswer : ℕ → Option (List ℕ) → Option (List ℕ) → Option (List ℕ) → Result Outcome RunFault → Type 0
RoundsAnswer limit left old new result = AnswersTo (RunsInRounds limit) ScriptRefuses left old new result

abbrev pub ThreadsAnswer : ℕ → Option (List ℕ) → Option (List ℕ) → Option (List ℕ) → Result Outcome RunFault → Type 0
ThreadsAnswer turns left old new result = AnswersTo (RunsByTurns turns) ScriptRefuses left old new result
