use Rattle.std.proofs.Common.{codes}
use Rattle.step_texts.specs.StepTexts.{step_text}
use Rattle.explaining.specs.CauseTexts.{cause_text}
use Rattle.explaining.specs.Explanations.{line_head, refusal_line}
use Rattle.explaining.proofs.Parts.{five}
use Rattle.explaining.proofs.explanation.add_refusal_line.Goals as goal

pub returns : goal.returns
unfolding refusal_line
returns g c =
    let plan = c.args.plan.now in
    let line = c.args.line.now in
    five _ _ _ _ _ _ (line_head line.line) (step_text plan line.step) (codes "` is not legal: ") (cause_text plan line.step c.args.cause) (codes "\n")
    c.in_ok-add_line_head.ensures c.in_ok-add_step.ensures c.in_ok-extend_from_slice.ensures.items c.in_ok-add_cause.ensures
    c.in_ok-extend_from_slice-2.ensures.items
