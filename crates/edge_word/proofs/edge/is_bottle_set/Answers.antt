use Rattle.std.proofs.lemmas.Bool.{eqb-true, eq-eqb}
use Rattle.edge_word.specs.Words.{IsSetOf}
use Rattle.edge_word.proofs.WordBits.{below, above}
use Rattle.edge_word.proofs.WordLemmas.{IsSetOf-28}
use Rattle.edge_word.proofs.edge.is_bottle_set.Goals as goal

pub returns-then-set-ne0 : goal.returns-then-set-ne0
returns-then-set-ne0 c =
    let n = c.args.bottles in
    let set = c.args.set in
    let small : _ → IsSetOf n set = λ none. record { not_empty = c.if-set-ne0.true; of_edge = below set n (eqb-true _ _ none) } in
    record {
      is_set = (small, λ is. eq-eqb _ _ (above set n is.of_edge));
      fits_words = λ none. IsSetOf-28 n set c.requires.few (small none);
    }
