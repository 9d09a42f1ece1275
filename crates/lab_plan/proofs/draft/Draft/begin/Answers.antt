use Rattle.std.proofs.Common.{is_ok, arith}
use Rattle.lab_plan.specs.Building.{and_session}
use Rattle.lab_plan.proofs.OnLast.{last_job_changed}
use Rattle.lab_plan.proofs.draft.Draft.begin.Goals as goal

pub returns : goal.returns
returns g c =
    last_job_changed c.self.inside.version c.self.inside.jobs.items c.self.inside.instruments.items
    c.args.self.now (and_session c.args.patience) c.len-last.result c.index_mut-job.result.now c.begin.new.self
    (is_ok c.begin.result) c.self.view_is c.requires (grind arith) c.index_mut-job.ensures.value c.begin.ensures
