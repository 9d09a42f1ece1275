-- Asks that are given their lines one after another.
use Rattle.std.proofs.Common.{◌≡◌, ℕ, zero, suc, List, [], ◌∷◌, length, map, set, refl, ap}
use Rattle.bay_book.specs.declared.ask.Ask.{Ask}
use Rattle.bay_book.specs.Asks.{ask_at, given, turned}

-- the first n were
abbrev pub give_to : ℕ → ℕ → List Ask → List Ask
give_to at zero asks = asks
give_to at (suc n) [] = []
give_to at (suc n) (a ∷ asks) = given at a ∷ give_to at n asks

pub one_more : (at k : ℕ) (asks : List Ask) → set (give_to at k asks) k (given at (ask_at (give_to at k asks) k)) ≡ give_to at (suc k) asks
one_more at zero [] = refl
one_more at zero (a ∷ asks) = refl
one_more at (suc k) [] = refl
one_more at (suc k) (a ∷ asks) = ap (λ (l : List Ask). given at a ∷ l) (one_more at k asks)

pub all_of : (at : ℕ) (asks : List Ask) → give_to at (length asks) asks ≡ map (given at) asks
all_of at [] = refl
all_of at (a ∷ asks) = ap (λ (l : List Ask). given at a ∷ l) (all_of at asks)

-- the first n turned to a new file
abbrev pub turn_to : ℕ → ℕ → List Ask → List Ask
turn_to at zero asks = asks
turn_to at (suc n) [] = []
turn_to at (suc n) (a ∷ asks) = turned at a ∷ turn_to at n asks

pub one_turned : (at k : ℕ) (asks : List Ask) → set (turn_to at k asks) k (turned at (ask_at (turn_to at k asks) k)) ≡ turn_to at (suc k) asks
one_turned at zero [] = refl
one_turned at zero (a ∷ asks) = refl
one_turned at (suc k) [] = refl
one_turned at (suc k) (a ∷ asks) = ap (λ (l : List Ask). turned at a ∷ l) (one_turned at k asks)

pub all_turned : (at : ℕ) (asks : List Ask) → turn_to at (length asks) asks ≡ map (turned at) asks
all_turned at [] = refl
all_turned at (a ∷ asks) = ap (λ (l : List Ask). turned at a ∷ l) (all_turned at asks)
