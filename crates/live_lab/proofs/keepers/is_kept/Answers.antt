use Rattle.live_lab.proofs.keepers.is_kept.Goals as goal

pub returns : goal.returns
returns g c = (
  λ t. (c.is_of.ensures.0 c.if-not-is_of.false, c.lacks.ensures.0 c.if-not-lacks.false, c.keeps.ensures.0 t),
  λ q. c.keeps.ensures.1 q.2,
)
