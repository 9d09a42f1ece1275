-- Words for lists: what holds of each element, and what a longer list begins with.
use Rattle.std.specs.Prelude.{◌≡◌, List, [], ◌∷◌, ◌++◌}
use Rattle.legal_steps.specs.declared.event.Event.{Event}

-- P holds of each
abbrev pub Each : {A : Type 0} → (A → Type 0) → List A → Type 0
Each P [] = Unit {0}
Each P (x ∷ xs) = P x × Each P xs

-- the history begins with what was seen of it
abbrev pub StartsWith : List Event → List Event → Type 0
StartsWith h front = (more : List Event) × (h ≡ front ++ more)
