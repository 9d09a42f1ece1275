use Rattle.std.proofs.Common.{◌≡◌, List, [], ◌∷◌, ◌++◌, replicate, arith, ap, ◌∙◌, subst}
use Rattle.std.proofs.lemmas.List.{replicate_more}
use Rattle.legal_steps.specs.declared.end.End.TheVariants.{Lower}
use Rattle.legal_steps.specs.declared.edge_state.EndChoice.{EndChoice}
use Rattle.interleaving.proofs.opening_tables.lower_choices.Goals as goal

abbrev lower : EndChoice
lower = record { fork = Lower; bottles = 0 }

pub loop-edge-preserved : goal.loop-edge-preserved
loop-edge-preserved g c =
    c.in_ok-push.ensures.items ∙ (ap (λ (xs : List EndChoice). xs ++ lower ∷ []) c.loop-edge.invariant ∙ replicate_more c.loop-edge._edge lower)

pub returns : goal.returns
returns g c = subst (λ n. c.loop-edge.choices.items ≡ replicate n lower) (omega arith) c.loop-edge.invariant
