use Rattle.std.proofs.Common.{sym, ◌∙◌}
use Rattle.std.proofs.lemmas.Bool.{false≢true}
use Rattle.live_lab.proofs.Bits.{holds_has, lacks}
use Rattle.live_lab.proofs.ask.may_ask.Goals as goal

pub returns-then-has : goal.returns-then-has
returns-then-has g c = (λ t. (holds_has c.args.waiting c.args.job (sym c.has.ensures ∙ c.if-has.true), c.enabled.ensures.0 t), λ q. c.enabled.ensures.1 q.1)

pub returns-else-has : goal.returns-else-has
returns-else-has g c = (
  λ t. absurd (false≢true (sym c.if-has.false ∙ t)),
  λ q. absurd (lacks c.args.waiting c.args.job (sym c.has.ensures ∙ c.if-has.false) q.0),
)
