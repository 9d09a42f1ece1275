use Rattle.script_reader.proofs.UpgradeMeans.{upgrade_means}
use Rattle.script_reader.proofs.upgrade_law.upgrade_means_plan.Goals as goal

pub returns : goal.returns
returns c = upgrade_means
