-- Desks before and after, one by one.
use Rattle.std.specs.Prelude.{◌≡◌, List, [], ◌∷◌}
use Rattle.edge_rule.specs.DeskView.{DeskView}

-- as many desks, and each is as R says of the one at its place
abbrev pub Pairs : (DeskView → DeskView → Type 0) → List DeskView → List DeskView → Type 0
Pairs R [] new = new ≡ []
Pairs R (d ∷ old) [] = ⊥
Pairs R (d ∷ old) (e ∷ new) = R d e × Pairs R old new
