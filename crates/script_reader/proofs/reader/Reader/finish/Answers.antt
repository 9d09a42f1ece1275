use Rattle.std.proofs.Common.{ap, sym, ◌∙◌, subst}
use Rattle.std.specs.Prelude.{Err}
use Rattle.lab_plan.specs.Building.{finish_refusal}
use Rattle.script_reader.specs.declared.fault.ScriptCause.{ScriptCause}
use Rattle.script_reader.specs.State.{State, Ends}
use Rattle.script_reader.proofs.Ended.{gives, refuses}
use Rattle.script_reader.proofs.reader.Reader.finish.Goals as goal

pub returns-in-Ok : goal.returns-in-Ok
returns-in-Ok g c = let is = c.self.view_is in (
  gives c.args.self c.requires (sym (ap (λ (s : State). s.fresh) is) ∙ c.if-self.false) (sym (ap (λ (s : State). s.in_session) is) ∙ c.if-self-2.false)
      (sym (ap (λ (s : State). finish_refusal s.plan) is) ∙ c.in-Ok.ensures.0),
  c.in-Ok.ensures.1 ∙ ap (λ (s : State). s.plan) is,
)

pub returns-in-Err : goal.returns-in-Err
returns-in-Err g c = let is = c.self.view_is in
    subst (λ (cause : ScriptCause). Ends c.args.self (Err cause)) (sym c.from.ensures)
    (refuses c.args.self c.requires (sym (ap (λ (s : State). s.fresh) is) ∙ c.if-self.false) (sym (ap (λ (s : State). s.in_session) is) ∙ c.if-self-2.false)
    c.in-Err.refusal (sym (ap (λ (s : State). finish_refusal s.plan) is) ∙ c.in-Err.ensures.0))
