-- The upgraded script of a plan: what it means, and how long it is.
use Rattle.std.specs.Prelude.{◌≤◌, length}
use Rattle.lab_plan.specs.LabPlan.{LabPlan}
use Rattle.lab_plan.specs.IsPlan.{IsPlan}
use Rattle.lab_plan.specs.Upgrade.{script_text}
use Rattle.script_reader.specs.Script.{ScriptMeans}

-- it is a script, and it means that plan in version 2
abbrev pub UpgradeMeansPlan : Type 0
UpgradeMeansPlan = (plan : LabPlan) → IsPlan plan → ScriptMeans (script_text plan) (record plan { version = 2 })

-- it has at most as many bytes as all jobs, sessions and commands that a plan may have can take
abbrev pub UpgradeIsShort : Type 0
UpgradeIsShort = (plan : LabPlan) → IsPlan plan → length (script_text plan) ≤ 3696678
