use Rattle.std.proofs.Common.{sym, ◌∙◌, subst}
use Rattle.std.proofs.lemmas.Bool.{false≢true}
use Rattle.legal_steps.specs.declared.phase.JobState.{JobState}
use Rattle.legal_steps.specs.State.{IsDrinking}
use Rattle.live_lab.proofs.Bits.{holds_has, lacks}
use Rattle.live_lab.proofs.keepers.is_holding.Goals as goal

pub returns-then-has : goal.returns-then-has
returns-then-has g c = (
  λ t. (
    holds_has c.args.jobs c.args.job (sym c.has.ensures ∙ c.if-has.true),
    subst (λ (x : JobState). IsDrinking x) c.job.ensures.phase (c.is_drinking.ensures.0 t),
  ),
  λ q. c.is_drinking.ensures.1 (subst (λ (x : JobState). IsDrinking x) (sym c.job.ensures.phase) q.1),
)

pub returns-else-has : goal.returns-else-has
returns-else-has g c = (
  λ t. absurd (false≢true (sym c.if-has.false ∙ t)),
  λ q. absurd (lacks c.args.jobs c.args.job (sym c.has.ensures ∙ c.if-has.false) q.0),
)
