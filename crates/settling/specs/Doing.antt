-- For readers: what a visit of an edge does in a world, and which act a job does of itself.
use Rattle.std.specs.Prelude.{◌≡◌, ℕ, Bool, true, false, List, [], ◌∷◌, Option, None, Some, map, length}
use Rattle.lab_plan.specs.LabPlan.{LabPlan}
use Rattle.legal_steps.specs.declared.event.Event.{Event}
use Rattle.legal_steps.specs.declared.event.Event.TheVariants.{Look, Hunger, Sit, Leave, Drink}
use Rattle.legal_steps.specs.State.{State, edge}
use Rattle.legal_steps.specs.Legal.{after}
use Rattle.interleaving.specs.World.{WorldView, LeadsTo}
use Rattle.edge_word.specs.declared.moves.EdgeMoves.{EdgeMoves}
use Rattle.edge_word.specs.Moves.{events_of}
use Rattle.turns.specs.Due.{AreDue}
use Rattle.turns.specs.Acts.{AreFirst}
use Rattle.turns.specs.Turn.{Visit, count, is_done, is_lost, AreVisits, visits_events}

-- the job looked at the edge, and then did all moves that were due there by what it saw, n of them
pub record VisitsEdge (old : WorldView) (j e n : ℕ) (new : WorldView) : Type 0 where
  pub moves : EdgeMoves
  pub due : AreDue old.plan (after old.plan old.state (Look j e (edge old.state e))) j e moves
  pub many : n ≡ length (events_of moves j e)
  pub leads : LeadsTo old (Look j e (edge old.state e) ∷ events_of moves j e) new

-- the edges were visited in this order by one who knew the state, and at n of them something was done
pub record VisitsEdges (old : WorldView) (j : ℕ) (es : List ℕ) (n : ℕ) (new : WorldView) : Type 0 where
  pub visits : List Visit
  pub edges : map (λ (v : Visit). v.edge) visits ≡ es
  pub due : AreVisits old.plan j old.state visits
  pub none_lost : count is_lost visits ≡ 0
  pub done : n ≡ count is_done visits
  pub leads : LeadsTo old (visits_events j visits) new

-- the acts that need no word from the owner, in the order in which they are tried
abbrev pub own_acts : ℕ → List Event
own_acts j = Drink j ∷ Leave j ∷ Sit j ∷ Hunger j ∷ []

-- the first of them that is legal, or none if none is
abbrev pub IsOwnAct : LabPlan → State → ℕ → List Event → Type 0
IsOwnAct plan s j events = AreFirst plan s j 0 (own_acts j) events

-- the events of an act; none if there is none
abbrev pub act_of : Option Event → List Event
act_of None = []
act_of (Some event) = event ∷ []

-- it was done; or none is legal, and nothing was done
abbrev pub ActsAlone : WorldView → ℕ → Bool → WorldView → Type 0
ActsAlone old j true new = (act : Event) × IsOwnAct old.plan old.state j (act ∷ []) × LeadsTo old (act ∷ []) new
ActsAlone old j false new = IsOwnAct old.plan old.state j [] × (new ≡ old)
