use Rattle.std.proofs.Common.{ℕ, ◌↔◌, subst}
use Rattle.cycles.specs.Cycles.{IsAmong}
use Rattle.legal_steps.specs.Precedence.{Precedes}
use Rattle.interleaving.specs.Pairs.{IsPrecedenceByEdge}
use Rattle.interleaving.specs.World.{WorldView}
use Rattle.interleaving.proofs.world.World.precedence.Goals as goal

pub returns-clause-by_edge : goal.returns-clause-by_edge
returns-clause-by_edge g c =
    subst (λ (w : WorldView). IsPrecedenceByEdge w.plan w.state c.in_ok-precedence.field-0.items) c.self.view_is c.in_ok-precedence.ensures.by_edge

pub returns-clause-pairs : goal.returns-clause-pairs
returns-clause-pairs g c =
    subst (λ (w : WorldView). (a b : ℕ) → IsAmong c.in_ok-precedence.field-0.items a b ↔ Precedes w.plan w.state a b)
    c.self.view_is c.in_ok-precedence.ensures.pairs
