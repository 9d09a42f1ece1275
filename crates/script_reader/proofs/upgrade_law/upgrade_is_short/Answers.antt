use Rattle.script_reader.proofs.UpgradeShort.{upgrade_short}
use Rattle.script_reader.proofs.upgrade_law.upgrade_is_short.Goals as goal

pub returns : goal.returns
returns c = upgrade_short
