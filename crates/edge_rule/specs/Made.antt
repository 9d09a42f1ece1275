-- What became of a move on an edge.
use Rattle.std.specs.Prelude.{◌≡◌, ◌≢◌, ℕ, [], ◌∷◌}
use Rattle.legal_steps.specs.declared.event.Event.{Event}
use Rattle.legal_steps.specs.State.{edge}
use Rattle.edge_rule.specs.declared.calls.Stepped.{Stepped}
use Rattle.edge_rule.specs.declared.calls.Stepped.TheVariants.{Done, Moved}
use Rattle.edge_rule.specs.DeskView.{DeskView, Adds, known, shown}

-- The event was added; or nothing was, and the history that is seen ends where the edge is another than the one last seen
abbrev pub Made : DeskView → Event → ℕ → Stepped → DeskView → Type 0
Made d event e Done d' = Adds d (event ∷ []) d'
Made d event e (Moved x) d' = Adds d [] d' × (x ≡ edge (shown d') e) × (x ≢ edge (known d) e)
