-- The upgraded text of an upgraded text is the same.
use Rattle.std.proofs.Common.{sym, ap, ◌∙◌}
use Rattle.lab_plan.specs.Upgrade.{script_text}
use Rattle.script_reader.specs.Laws.{HasOnePlan}
use Rattle.lab_runs.specs.Scripts.{UpgradeIsStable}

pub is_stable : HasOnePlan → UpgradeIsStable
is_stable one input text again first second u v =
    v.upgraded ∙ ap script_text (one text v.plan (record u.plan { version = 2 }) v.means u.means_same) ∙ sym u.upgraded
