-- For readers: what a check and an upgrade of a script write for an input.
use Rattle.std.specs.Prelude.{◌≡◌, ℕ, ◌≤◌, List, length, Option, Result}
use Rattle.lab_plan.specs.LabPlan.{LabPlan}
use Rattle.lab_plan.specs.Upgrade.{script_text}
use Rattle.script_reader.specs.Script.{ScriptMeans}
use Rattle.lab_program.specs.declared.faults.RunFault.{RunFault}
use Rattle.lab_program.specs.declared.faults.Outcome.{Outcome}
use Rattle.lab_program.specs.declared.faults.Outcome.TheVariants.{Finished}
use Rattle.lab_program.specs.Answers.{ScriptRefuses, AnswersTo}
use Rattle.lab_runs.specs.Counts.{counts_line}

-- the input is a script, and the text has its counts
pub record Checks (input text : List ℕ) (outcome : Outcome) : Type 0 where
  pub plan : LabPlan
  pub means : ScriptMeans input plan
  pub counts : text ≡ counts_line plan
  pub ends : outcome ≡ Finished

-- the input is a script, and the text is the script of version 2 that means the same plan, never too long for an input
pub record Upgrades (input text : List ℕ) (outcome : Outcome) : Type 0 where
  pub plan : LabPlan
  pub means : ScriptMeans input plan
  pub upgraded : text ≡ script_text plan
  pub means_same : ScriptMeans text (record plan { version = 2 })
  pub short : length text ≤ 3696678
  pub ends : outcome ≡ Finished

-- upgrading what an upgrade wrote gives the same text
abbrev pub UpgradeIsStable : Type 0
UpgradeIsStable = (input text again : List ℕ) (first second : Outcome) → Upgrades input text first → Upgrades text again second → again ≡ text

-- ---- what a run answers

abbrev pub CheckAnswers : Option (List ℕ) → Option (List ℕ) → Option (List ℕ) → Result Outcome RunFault → Type 0
CheckAnswers left old new result = AnswersTo Checks ScriptRefuses left old new result

abbrev pub UpgradeAnswers : Option (List ℕ) → Option (List ℕ) → Option (List ℕ) → Result Outcome RunFault → Type 0
UpgradeAnswers left old new result = AnswersTo Upgrades ScriptRefuses left old new result
