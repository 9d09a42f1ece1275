use Rattle.std.proofs.Common.{arith, ap, Err}
use Rattle.lab_program.specs.declared.input.ReadFault.{ReadFault}
use Rattle.lab_program.specs.Answers.{ScriptRefuses}
use Rattle.lab_runs.specs.Shared.{RunsInRounds}
use Rattle.lab_program.proofs.RunAnswers.{for_read, not_read, reads_of}
use Rattle.lab_runs.proofs.SharedRuns.{has_one_run}
use Rattle.lab_runs.proofs.shared.run_rounds.Goals as goal

pub returns-in_err-input-clause-answer : goal.returns-in_err-input-clause-answer
returns-in_err-input-clause-answer g c =
    not_read (RunsInRounds c.args.limit) ScriptRefuses (g.R.Source.left c.args.source.now)
    (g.W.Sink.taken c.args.sink.now) c.in_err-input.field-0.0 c.from_residual.result c.from_residual.ensures.1
    (λ is. c.in_err-input.ensures.long (ap (λ (e : ReadFault). Err e) is))

pub returns-in_err-input-clause-reads : goal.returns-in_err-input-clause-reads
returns-in_err-input-clause-reads g c =
    reads_of c.in_err-input.field-0.0 c.from_residual.result (g.R.Source.failures c.args.source.now)
    (g.R.Source.failures c.read_input.new.source) c.from_residual.ensures.1 c.in_err-input.ensures.count

pub returns-clause-answer : goal.returns-clause-answer
returns-clause-answer g c =
    let input = c.in_ok-input.input in
    for_read (RunsInRounds c.args.limit) ScriptRefuses (g.R.Source.left c.args.source.now) (g.W.Sink.taken c.args.sink.now)
    (g.W.Sink.taken c.in_rounds.new.sink) c.deref.result.now input.items c.in_rounds.result
    c.deref.ensures.value c.in_ok-input.ensures.whole (omega (arith, input.ok.0, c.in_ok-input.ensures.limit)) c.in_rounds.ensures.answer

pub returns-in_err-input-clause-one : goal.returns-in_err-input-clause-one
returns-in_err-input-clause-one g c = has_one_run c.one_meaning.ensures.plan c.one_run.ensures

pub returns-clause-one : goal.returns-clause-one
returns-clause-one g c = has_one_run c.one_meaning.ensures.plan c.one_run.ensures
