use Rattle.lab_program.specs.Answers.{ScriptRefuses}
use Rattle.lab_runs.specs.Scripts.{Checks}
use Rattle.bench_c.proofs.Called.{answered}
use Rattle.bench_c.proofs.runs.lab_check.Goals as goal

pub returns : goal.returns
returns c =
    answered Checks ScriptRefuses c.args.script.now c.bytes.result.now c.args.report.now c.tell.new.room c.tell.new.told c.tell.result
    c.run_check-answer.result _ _ _ c.new.ensures.left c.new-sink.ensures c.bytes.ensures c.run_check-answer.ensures.answer
    c.run_check-answer.ensures.reads c.tell.ensures
