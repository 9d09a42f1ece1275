use Rattle.std.proofs.Common.{is_ok, arith}
use Rattle.lab_plan.specs.Building.{in_last_session}
use Rattle.lab_plan.proofs.OnLast.{last_job_changed, has_job}
use Rattle.lab_plan.proofs.draft.Draft.push.Goals as goal

pub returns : goal.returns
returns g c =
    last_job_changed c.self.inside.version c.self.inside.jobs.items c.self.inside.instruments.items c.args.self.now
    (in_last_session c.args.instrument c.args.verb) c.len-last.result c.index_mut-job.result.now c.push.new.self
    (is_ok c.push.result) c.self.view_is (has_job c.args.self.now c.requires) (grind arith) c.index_mut-job.ensures.value c.push.ensures
