use Rattle.lab_program.specs.Answers.{ScriptRefuses}
use Rattle.lab_runs.specs.Scripts.{Upgrades}
use Rattle.bench_c.proofs.Called.{answered}
use Rattle.bench_c.proofs.runs.lab_upgrade.Goals as goal

pub returns-clause-answer : goal.returns-clause-answer
returns-clause-answer c =
    answered Upgrades ScriptRefuses c.args.script.now c.bytes.result.now c.args.report.now c.tell.new.room c.tell.new.told c.tell.result
    c.run_upgrade-answer.result _ _ _ c.new.ensures.left c.new-sink.ensures c.bytes.ensures c.run_upgrade-answer.ensures.answer
    c.run_upgrade-answer.ensures.reads c.tell.ensures
