use Rattle.std.proofs.Common.{refl, subst}
use Rattle.std.specs.Prelude.{◌↔◌, IsTrue}
use Rattle.legal_steps.specs.declared.end.End.{End}
use Rattle.legal_steps.specs.declared.phase.Dining.{Dining}
use Rattle.legal_steps.specs.declared.edge_state.EdgeState.{EdgeState}
use Rattle.legal_steps.specs.Guards.{Soils}
use Rattle.interleaving.proofs.tables.Tables.may_soil.Goals as goal

pub returns : goal.returns
returns g c =
    let own = c.if-not-owns.ensures.owns.0 refl in
    let guard = subst (λ (z : Dining × End × EdgeState). IsTrue c.soils.result ↔ Soils z.0 z.1 z.2)
    (λ i. ((c.phase.ensures.phase i).dining, c.own_end-here.ensures.end i, c.edge.ensures.edge i)) c.soils.ensures in
    ((λ t. (own, (guard.0 t).0, (guard.0 t).1, (guard.0 t).2)), (λ may. guard.1 (may.1, may.2, may.3)))
