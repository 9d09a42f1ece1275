-- How a desk grows over turns, and over what stands between them.
use Rattle.std.specs.Prelude.{◌≡◌, ◌≢◌, ℕ, zero, suc, ◌+◌, List, [], ◌∷◌, ◌++◌}
use Rattle.lab_plan.specs.LabPlan.{LabPlan}
use Rattle.legal_steps.specs.declared.event.Event.{Event}
use Rattle.legal_steps.specs.declared.edge_state.EdgeState.{EdgeState}
use Rattle.legal_steps.specs.State.{State, edge}
use Rattle.legal_steps.specs.Run.{after_all}
use Rattle.turns.specs.History.{events_by}
use Rattle.turns.specs.Patience.{one_more}
use Rattle.edge_rule.specs.DeskView.{DeskView, IsAtRest, known, shown, waits}
use Rattle.edge_rule.specs.Company.{Hears}
use Rattle.turns.specs.Turns.{Group, Lost, AreGrouped, Stands, flat, but_glances}
use Rattle.session_layer.specs.declared.turning.Turned.{Turned}
use Rattle.session_layer.specs.Turn.{Took}

-- The record grew by these events, and what was seen of the history grew by more. A desk at rest stays at rest
pub record Grew (d : DeskView) (events : List Event) (e : DeskView) : Type 0 where
  pub table : e.table ≡ d.table
  pub plan : e.plan ≡ d.plan
  pub job : e.job ≡ d.job
  pub deeds : e.deeds ≡ d.deeds ++ events
  pub more : List Event
  pub front : e.front ≡ d.front ++ more
  pub rests : IsAtRest d → IsAtRest e

-- the number of turns noted after n more: each adds one, up to the largest number
abbrev pub turns_after : ℕ → ℕ → ℕ
turns_after zero turns = turns
turns_after (suc n) turns = turns_after n (one_more 18446744073709551615 turns)

-- The desk took n turns, between which it may have glanced and heard of others. But for Glances its record grew by these turns alone, and their groups stand
-- unbroken, in this order, in what it saw meanwhile; so an exchange that was due is lost only if its edge was another by then than the look saw
pub record TookTurns (n : ℕ) (d e : DeskView) : Type 0 where
  pub events : List Event
  pub grew : Grew d events e
  pub groups : List Group
  pub grouped : AreGrouped d.plan d.job n (waits d.clock) (known d) groups (waits e.clock)
  pub all : but_glances events ≡ flat groups
  pub stands : Stands d.plan (shown d) groups grew.more
  pub counted : e.clock.turns ≡ turns_after n d.clock.turns

-- an exchange on e that was lost after the groups a, and before the groups b: the list has a place between all that the job did there
-- earlier and all that it did
-- later, but for Glances, where the edge is another than the look saw
pub record IsLostAt (plan : LabPlan) (j : ℕ) (s : State) (a b : List Group) (e : ℕ) (saw : EdgeState) (h : List Event) : Type 0 where
  pub before : List Event
  pub after : List Event
  pub splits : h ≡ before ++ after
  pub earlier : but_glances (events_by j before) ≡ flat a
  pub later : but_glances (events_by j after) ≡ flat b
  pub other : edge (after_all plan s before) e ≢ saw

-- ---- laws

-- what `turn` does is one turn
abbrev pub OneTurn : Type 0
OneTurn = (d : DeskView) (r : Turned) (e : DeskView) → Took d r e → TookTurns 1 d e

-- glances are no turn
abbrev pub GlancesAlone : Type 0
GlancesAlone = (d e : DeskView) (events : List Event) → Grew d events e → but_glances events ≡ [] → e.clock ≡ d.clock → TookTurns 0 d e

-- a desk that hears of others took no turn
abbrev pub HearingAlone : Type 0
HearingAlone = (d e : DeskView) (others : List DeskView) → Hears d others e → TookTurns 0 d e

-- turns after turns
abbrev pub TurnsGoOn : Type 0
TurnsGoOn = (n k : ℕ) (d m e : DeskView) → TookTurns n d m → TookTurns k m e → TookTurns (n + k) d e

-- if groups stand in a list, and are all that the job did there but for Glances, each lost exchange has its place between the groups before it and after it
abbrev pub LosesInBetween : Type 0
LosesInBetween = (plan : LabPlan) (j : ℕ) (s : State) (a b : List Group) (e : ℕ) (saw : EdgeState) (h : List Event)
    → but_glances (events_by j h) ≡ flat (a ++ Lost e saw ∷ b) → Stands plan s (a ++ Lost e saw ∷ b) h → IsLostAt plan j s a b e saw h
