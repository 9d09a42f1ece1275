use Rattle.std.proofs.lemmas.Bool.{eqb-true}
use Rattle.edge_word.proofs.WordBits.{below}
use Rattle.edge_word.proofs.WordLemmas.{AreOfBottles-28}
use Rattle.edge_word.proofs.moves.EdgeMoves.are_of_bottles.Goals as goal

pub returns-then-self-bottles-eq0-clause-fit_words : goal.returns-then-self-bottles-eq0-clause-fit_words
returns-then-self-bottles-eq0-clause-fit_words c = λ none. AreOfBottles-28 c.args.bottles c.args.self c.requires.few (record {
  give_fits = below _ _ c.if-self-bottles-eq0.true;
  ask_fits = below _ _ (eqb-true _ _ none);
})
