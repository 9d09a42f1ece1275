use Rattle.round_picture.specs.Gantt.{row_text}
use Rattle.waiting.proofs.Ranges.{one_more}
use Rattle.round_picture.proofs.gantt.add_rows.Goals as goal

pub loop-job-preserved : goal.loop-job-preserved
loop-job-preserved g c =
    one_more (row_text c.args.plan.now c.args.run.now) c.args.out.now.items c.loop-job.out.items c.add_row.new.out.items c.loop-job.job
    c.loop-job.invariant c.in_ok-add_row.ensures
