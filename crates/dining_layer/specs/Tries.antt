-- What became of a single move, of the first move that is legal, and of the first phase event that is legal.
use Rattle.std.specs.Prelude.{◌≡◌, ◌≢◌, ◌⊎◌, ℕ, List, [], ◌∷◌, Option, Some, None}
use Rattle.legal_steps.specs.declared.edge_state.EdgeState.{EdgeState}
use Rattle.legal_steps.specs.declared.event.Event.{Event}
use Rattle.legal_steps.specs.declared.event.Event.TheVariants.{Look, GiveFork, AskFork, Soil}
use Rattle.legal_steps.specs.State.{edge}
use Rattle.legal_steps.specs.Legal.{May}
use Rattle.one_history.specs.declared.phase_event.PhaseEvent.{PhaseEvent}
use Rattle.one_history.specs.PhaseEvents.{event_of}
use Rattle.edge_rule.specs.declared.calls.Stepped.{Stepped}
use Rattle.edge_rule.specs.declared.calls.Stepped.TheVariants as stepped
use Rattle.edge_rule.specs.DeskView.{DeskView, Adds, known, shown}
use Rattle.dining_layer.specs.declared.answers.Tried.{Tried}
use Rattle.dining_layer.specs.declared.answers.Tried.TheVariants.{Done, Moved, NotLegal}

-- The event was done; or it was legal, and its exchange found another word; or it isn't legal by the word last seen, and nothing was tried
abbrev pub TriedTo : DeskView → Event → ℕ → Tried → DeskView → Type 0
TriedTo d event e Done d' = May d.plan (known d) event × Adds d (event ∷ []) d'
TriedTo d event e (Moved x) d' = May d.plan (known d) event × Adds d [] d' × (x ≡ edge (shown d') e) × (x ≢ edge (known d) e)
TriedTo d event e NotLegal d' = ¬ May d.plan (known d) event × (d' ≡ d)

-- the answer for an exchange that was tried
abbrev pub tried_as : Stepped → Tried
tried_as stepped.Done = Done
tried_as (stepped.Moved x) = Moved x

-- the first event of the list that is legal was tried
abbrev pub TriesFirst : DeskView → List Event → ℕ → Tried → DeskView → Type 0
TriesFirst d [] e r d' = (r ≡ NotLegal) × (d' ≡ d)
TriesFirst d (x ∷ later) e r d' = (May d.plan (known d) x × TriedTo d x e r d') ⊎ (¬ May d.plan (known d) x × TriesFirst d later e r d')

-- the edge was looked at, and then the first legal move of its fork was tried: give, ask, soil
pub record Dined (d : DeskView) (e : ℕ) (r : Tried) (d' : DeskView) : Type 0 where
  pub saw : EdgeState
  pub looked : DeskView
  pub look : Adds d (Look d.job e saw ∷ []) looked
  pub tries : TriesFirst looked (GiveFork looked.job e ∷ AskFork looked.job e ∷ Soil looked.job e ∷ []) e r d'

-- the first phase event of the list that is legal was done and is the answer; without one nothing was done
abbrev pub StoresFirst : DeskView → List PhaseEvent → Option PhaseEvent → DeskView → Type 0
StoresFirst d [] r d' = (r ≡ None) × (d' ≡ d)
StoresFirst d (what ∷ later) r d' =
    (May d.plan (known d) (event_of what d.job) × (r ≡ Some what) × Adds d (event_of what d.job ∷ []) d')
    ⊎ (¬ May d.plan (known d) (event_of what d.job) × StoresFirst d later r d')
