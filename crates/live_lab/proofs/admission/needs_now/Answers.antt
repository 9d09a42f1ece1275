use Rattle.std.proofs.Common.{sym, ◌∙◌, subst}
use Rattle.std.proofs.lemmas.Bool.{false≢true}
use Rattle.lab_plan.proofs.Bits.{holds_none}
use Rattle.legal_steps.specs.declared.phase.JobState.{JobState}
use Rattle.legal_steps.specs.State.{IsInSession}
use Rattle.live_lab.proofs.admission.needs_now.Goals as goal

pub returns-then-not-is_in_session : goal.returns-then-not-is_in_session
returns-then-not-is_in_session g c = λ i. (
  λ h. absurd (false≢true (sym (holds_none i) ∙ h)),
  λ n. absurd (false≢true (sym c.if-not-is_in_session.true
      ∙ c.is_in_session.ensures.1 (subst (λ (p : JobState). IsInSession p.drinking) (sym c.job-phase.ensures.phase) n.in_session))),
)
