use Rattle.lab_program.specs.declared.faults.RunFault.TheVariants.{Write}
use Rattle.lab_program.specs.declared.faults.Outcome.TheVariants.{Finished}
use Rattle.lab_program.proofs.RunAnswers.{ends_with}
use Rattle.lab_journal.specs.Resumed.{IsNotResumed}
use Rattle.journal_views.specs.Journals.{WritesSteps}
use Rattle.journal_views.proofs.Journals.{sent_steps}
use Rattle.journal_views.proofs.views.write_steps_of.Goals as goal

pub returns-in_err-send_steps-clause-answer : goal.returns-in_err-send_steps-clause-answer
returns-in_err-send_steps-clause-answer g c =
    ends_with WritesSteps IsNotResumed _ _ _ c.from_residual-in_err-send_steps.result Write c.from_residual-in_err-send_steps.ensures.1 (
      _,
      Finished,
      sent_steps c.upgrade_means_plan.ensures c.list_is_read_back.ensures c.args.input.now c.in_ok-world.world.plan c.plan.result.now c.plan-2.result.now
          c.in_ok-world.steps.items c.deref.result.now c.deref-2.result.now c.in_ok-lines.lines.items c.plan.ensures.plan c.plan-2.ensures.plan
          c.deref.ensures.value c.deref-2.ensures.value c.in_ok-lines.ensures c.plan.ensures.past.is_plan c.in_ok-world.ensures.journal,
      c.in_err-send_steps.ensures.0,
    )

pub returns-clause-answer : goal.returns-clause-answer
returns-clause-answer g c = (
  _,
  sent_steps c.upgrade_means_plan.ensures c.list_is_read_back.ensures c.args.input.now c.in_ok-world.world.plan c.plan.result.now c.plan-2.result.now
      c.in_ok-world.steps.items c.deref.result.now c.deref-2.result.now c.in_ok-lines.lines.items c.plan.ensures.plan c.plan-2.ensures.plan
      c.deref.ensures.value c.deref-2.ensures.value c.in_ok-lines.ensures c.plan.ensures.past.is_plan c.in_ok-world.ensures.journal,
  c.in_ok-send_steps.ensures.0,
)
