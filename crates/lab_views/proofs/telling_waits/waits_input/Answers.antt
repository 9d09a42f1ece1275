use Rattle.std.proofs.Common.{ℕ, ◌<◌, List, length, sym, subst}
use Rattle.std.specs.List.{All}
use Rattle.std.proofs.KnownBytes.{Keeps-refl}
use Rattle.lab_program.specs.declared.faults.RunFault.TheVariants.{Script, Write, NoMemory}
use Rattle.lab_program.specs.declared.faults.Outcome.TheVariants.{Finished}
use Rattle.lab_program.specs.Answers.{ScriptRefuses}
use Rattle.lab_program.proofs.RunAnswers.{ends_with}
use Rattle.lab_views.specs.Waits.{TellsWaits}
use Rattle.lab_views.proofs.Waited.{waited}
use Rattle.waiting.proofs.Known.{many}
use Rattle.chains.proofs.Longest.{all_inside}
use Rattle.lab_views.proofs.telling_waits.waits_input.Goals as goal

pub returns-in_err-plan-clause-answer : goal.returns-in_err-plan-clause-answer
returns-in_err-plan-clause-answer g c =
    ends_with (TellsWaits c.args.limit) ScriptRefuses _ _ _ c.from_residual.result (Script c.in_err-plan.field-0.0) c.from_residual.ensures.1
    (c.in_err-plan.ensures, Keeps-refl _)

pub returns-clause-answer : goal.returns-clause-answer
returns-clause-answer g c = (
  c.deref.result.now,
  waited c.args.limit c.args.input.now c.in_ok-plan.plan c.in_ok-run.run' c.in_ok-chain.chain c.jobs.result.now c.deref.result.now c.in_ok-text.text.items
      c.jobs.ensures c.deref.ensures.value c.in_ok-plan.ensures c.in_ok-run.ensures c.in_ok-chain.ensures c.in_ok-text.ensures,
  c.in_ok-send_text.ensures.0,
)

pub returns-in_err-send_text-clause-answer : goal.returns-in_err-send_text-clause-answer
returns-in_err-send_text-clause-answer g c =
    ends_with (TellsWaits c.args.limit) ScriptRefuses _ _ _ c.from_residual-in_err-send_text.result Write c.from_residual-in_err-send_text.ensures.1 (
      c.deref.result.now,
      Finished,
      waited c.args.limit c.args.input.now c.in_ok-plan.plan c.in_ok-run.run' c.in_ok-chain.chain c.jobs.result.now c.deref.result.now c.in_ok-text.text.items
          c.jobs.ensures c.deref.ensures.value c.in_ok-plan.ensures c.in_ok-run.ensures c.in_ok-chain.ensures c.in_ok-text.ensures,
      c.in_err-send_text.ensures.0,
    )

pub waits_of-requires-clause-all : goal.waits_of-requires-clause-all
waits_of-requires-clause-all g c = many c.in_ok-plan.plan c.args.limit c.in_ok-run.run' c.in_ok-run.ensures

pub waits_of-requires-clause-chain : goal.waits_of-requires-clause-chain
waits_of-requires-clause-chain g c =
    subst (λ (l : List ℕ). All (λ job. job < length c.in_ok-plan.plan.jobs) l) (sym c.jobs.ensures)
    (all_inside c.in_ok-plan.plan c.in_ok-chain.chain c.in_ok-chain.ensures.is_chain)

pub returns-in_err-text-clause-answer : goal.returns-in_err-text-clause-answer
returns-in_err-text-clause-answer g c =
    ends_with (TellsWaits c.args.limit) ScriptRefuses _ _ _ c.from_residual-in_err-text.result NoMemory c.from_residual-in_err-text.ensures.1 (Keeps-refl _)
