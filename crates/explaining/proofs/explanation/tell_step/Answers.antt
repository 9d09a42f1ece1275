use Rattle.std.proofs.Common.{◌≡◌, ◌++◌, ap, ◌∙◌, subst}
use Rattle.legal_steps.specs.Steps.{event_of}
use Rattle.refused_steps.specs.Causes.{Fails}
use Rattle.explaining.specs.CauseTexts.{job_of}
use Rattle.explaining.specs.StateTexts.{job_text}
use Rattle.explaining.specs.MoveTexts.{moves_text}
use Rattle.explaining.specs.Explanations.{refusal_line, refusal_text}
use Rattle.explaining.proofs.Parts.{all_three}
use Rattle.explaining.proofs.explanation.tell_step.Goals as goal

pub returns : goal.returns
unfolding refusal_text
returns g c =
    let w = c.args.world.now in
    let line = c.args.line.now in
    let cause = c.in-Some.cause in
    let moves = c.in_ok-moves.moves.items in
    let first : c.add_refusal_line.new.out.items ≡ c.new-out.result.items ++ refusal_line w.plan line.line line.step cause =
    c.in_ok-add_refusal_line.ensures ∙ ap (λ p. c.new-out.result.items ++ refusal_line p line.line line.step cause) c.plan.ensures.plan in
    let second : c.add_job_state.new.out.items ≡ c.add_refusal_line.new.out.items ++ job_text w.plan w.state (job_of line.step) =
    c.in_ok-add_job_state.ensures ∙ ap (λ j. c.add_refusal_line.new.out.items ++ job_text w.plan w.state j) c.job_of.ensures in
    let done = c.add_job_state.new.out.items in
    let last : c.add_moves.new.out.items ≡ done ++ moves_text w.plan moves =
    c.in_ok-add_moves.ensures ∙ ap (λ p. done ++ moves_text p c.deref.result.now) c.plan-2.ensures.plan
    ∙ ap (λ m. done ++ moves_text w.plan m) c.deref.ensures.value in
    record {
      cause = cause;
      fails = subst (λ event. Fails w.plan w.state event cause) c.event_of.ensures c.in-Some.ensures.explains;
      moves = moves;
      legal = c.in_ok-moves.ensures.legal;
      told = all_three c.new-out.result.items _ _ _ (refusal_line w.plan line.line line.step cause) (job_text w.plan w.state (job_of line.step))
          (moves_text w.plan moves) c.new-out.ensures.items first second last;
    }
