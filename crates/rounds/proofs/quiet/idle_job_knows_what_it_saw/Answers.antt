use Rattle.rounds.proofs.QuietRound.{idle_job_knows_what_it_saw}
use Rattle.rounds.proofs.quiet.idle_job_knows_what_it_saw.Goals as goal

pub returns : goal.returns
returns c = idle_job_knows_what_it_saw
