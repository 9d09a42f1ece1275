-- What a seat has to which a hand was lent.
use Rattle.std.specs.Prelude.{◌≡◌, ◌≢◌, List, [], ◌∷◌, ◌++◌}
use Rattle.turns.specs.Lists.{Each}
use Rattle.one_history.specs.declared.board.Hand.{Hand}
use Rattle.one_history.specs.declared.board.View.{View}

-- a seat's own hand, hands that were lent before, and behind them the last, whose job none of the others has
pub record HasLast (v : View) : Type 0 where
  pub own : Hand
  pub before : List Hand
  pub last : Hand
  pub hands : v.hands ≡ own ∷ (before ++ last ∷ [])
  pub apart : Each (λ (z : Hand). z.job ≢ last.job) (own ∷ before)
