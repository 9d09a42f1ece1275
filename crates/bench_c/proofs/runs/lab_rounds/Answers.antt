use Rattle.lab_program.specs.Answers.{ScriptRefuses}
use Rattle.lab_runs.specs.Shared.{RunsInRounds}
use Rattle.bench_c.proofs.Called.{answered}
use Rattle.bench_c.proofs.runs.lab_rounds.Goals as goal

pub returns-clause-answer : goal.returns-clause-answer
returns-clause-answer c =
    answered (RunsInRounds c.args.limit) ScriptRefuses c.args.script.now c.bytes.result.now c.args.report.now c.tell.new.room c.tell.new.told c.tell.result
    c.run_rounds-answer.result _ _ _ c.new.ensures.left c.new-sink.ensures c.bytes.ensures c.run_rounds-answer.ensures.answer
    c.run_rounds-answer.ensures.reads c.tell.ensures
