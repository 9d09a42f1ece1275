use Rattle.std.proofs.Common.{◌++◌, [], ◌∷◌, List, map, sym, ap, ◌∙◌, arith, append_assoc}
use Rattle.std.specs.List.{range_with_len}
use Rattle.std.proofs.lemmas.List.FromFn.{map-range_with_len_more}
use Rattle.blocking.specs.declared.places.Place.{Place}
use Rattle.blocking.specs.Blocks.{place}
use Rattle.blocking.proofs.places.add_on_edge.Goals as goal

pub loop-bottle-preserved : goal.loop-bottle-preserved
loop-bottle-preserved g c =
    let n = c.loop-bottle.bottle in let f = place c.args.job c.args.edge in
    let old : List Place = c.args.out.now.items in let so_far : List Place = map f (range_with_len 0 n) in
    c.in_ok-push.ensures.items ∙ (ap (λ (l : List Place). l ++ f n ∷ []) c.loop-bottle.invariant
    ∙ (append_assoc old so_far (f n ∷ []) ∙ ap (λ (l : List Place). old ++ l) (sym (map-range_with_len_more f 0 n n (omega arith)))))
