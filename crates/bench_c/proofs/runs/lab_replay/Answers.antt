use Rattle.lab_runs.specs.Replays.{ReplaysScript, ReplayRefuses}
use Rattle.bench_c.proofs.Called.{answered}
use Rattle.bench_c.proofs.runs.lab_replay.Goals as goal

pub returns : goal.returns
returns c =
    answered ReplaysScript ReplayRefuses c.args.script.now c.bytes.result.now c.args.report.now c.tell.new.room c.tell.new.told c.tell.result
    c.run_replay-answer.result _ _ _ c.new.ensures.left c.new-sink.ensures c.bytes.ensures c.run_replay-answer.ensures.answer
    c.run_replay-answer.ensures.reads c.tell.ensures
