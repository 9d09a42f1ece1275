-- The turns that are left.
use Rattle.std.proofs.Common.{◌≡◌, ℕ, ◌≤◌, true, List, sym, ◌∙◌, subst, arith}
use Rattle.std.proofs.lemmas.Bool.{false≢true}
use Rattle.edge_rule.specs.DeskView.{DeskView}
use Rattle.session_layer.specs.Grown.{TookTurns}
use Rattle.rounds.specs.Company.{all_retired}
use Rattle.workers.specs.Pairs.{Pairs}
use Rattle.workers.proofs.Pairs.{pairs_map}
use Rattle.workers.specs.Team.{TookUpTo}
use Rattle.workers.specs.Driven.{TookRest}

pub rest_early : (n rest : ℕ) (old new : List DeskView) → n ≤ rest → Pairs (TookTurns n) old new → all_retired new ≡ true → TookRest rest old new
rest_early n rest old new l t gone = record {
  took = pairs_map (TookTurns n) (TookUpTo rest) (λ d e a. (n, l, a)) old new t;
  full = λ not. absurd (false≢true (sym not ∙ gone));
}

pub rest_full : (n rest : ℕ) (old new : List DeskView) → n ≡ rest → Pairs (TookTurns n) old new → TookRest rest old new
rest_full n rest old new is t = record {
  took = pairs_map (TookTurns n) (TookUpTo rest) (λ d e a. (n, (omega arith), a)) old new t;
  full = λ _. subst (λ k. Pairs (TookTurns k) old new) is t;
}
