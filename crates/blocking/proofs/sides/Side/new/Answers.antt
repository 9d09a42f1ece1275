use Rattle.std.proofs.Common.{◌++◌, List, ap, ◌∙◌}
use Rattle.std.proofs.lemmas.List.Elements.{All-same}
use Rattle.blocking.specs.declared.places.Place.{Place}
use Rattle.blocking.specs.Blocks.{places_on}
use Rattle.blocking.specs.Watching.{IsPlace}
use Rattle.blocking.proofs.Placing.{places_on_edge}
use Rattle.blocking.proofs.sides.Side.new.Goals as goal

pub fresh_blocks-requires : goal.fresh_blocks-requires
fresh_blocks-requires g c =
    let plan = c.args.plan.now in let j = c.args.job in let e = c.args.edge in
    All-same (IsPlace plan) c.deref.result.now (places_on plan j e)
    (c.deref.ensures.value ∙ (c.in_ok-add_on_edge.ensures ∙ ap (λ (l : List Place). l ++ places_on plan j e) c.new-places.ensures.items))
    (places_on_edge plan j e c.requires.job c.requires.own)
