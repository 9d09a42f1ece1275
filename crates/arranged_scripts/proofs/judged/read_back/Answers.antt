use Rattle.arranged_scripts.proofs.Arranged.{no_script}
use Rattle.arranged_scripts.proofs.judged.read_back.Goals as goal

pub returns-in_default : goal.returns-in_default
returns-in_default g c = no_script c.one_meaning.ensures.either c.args.text.now c.in-Err.fault c.in-Err.ensures c.in_default.not-NoMemory
