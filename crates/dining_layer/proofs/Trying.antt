-- Single moves, and the first that is legal.
use Rattle.std.proofs.Common.{◌≡◌, ℕ, [], ◌∷◌, refl, subst, inl, inr}
use Rattle.legal_steps.specs.declared.event.Event.{Event}
use Rattle.legal_steps.specs.Legal.{May}
use Rattle.edge_word.specs.declared.moves.EdgeMoves.{EdgeMoves}
use Rattle.edge_word.specs.Moves.{events_of}
use Rattle.edge_rule.specs.declared.calls.Stepped.{Stepped}
use Rattle.edge_rule.specs.declared.calls.Stepped.TheVariants as stepped
use Rattle.edge_rule.specs.DeskView.{DeskView, Adds, known, Tried as SteppedTo}
use Rattle.dining_layer.specs.declared.answers.Tried.{Tried}
use Rattle.dining_layer.specs.declared.answers.Tried.TheVariants.{Done, Moved, NotLegal}
use Rattle.dining_layer.specs.Tries.{TriedTo, TriesFirst, tried_as}

-- an exchange of one move
pub one_move : (d : DeskView) (m : EdgeMoves) (e : ℕ) (event : Event) (r : Stepped) (d' : DeskView)
    → events_of m d.job e ≡ event ∷ [] → May d.plan (known d) event → SteppedTo d m e r d' → TriedTo d event e (tried_as r) d'
one_move d m e event stepped.Done d' is may t = (may, subst (λ g. Adds d g d') is t)
one_move d m e event (stepped.Moved x) d' is may t = (may, t.0, t.1, t.2)

-- the last of a list
pub last_try : (d : DeskView) (event : Event) (e : ℕ) (r : Tried) (d' : DeskView) → TriedTo d event e r d' → TriesFirst d (event ∷ []) e r d'
last_try d event e Done d' t = inl (t.0, t)
last_try d event e (Moved x) d' t = inl (t.0, t)
last_try d event e NotLegal d' t = inr (t.0, (refl, t.1))
