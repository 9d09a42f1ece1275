-- What holds of the moves and acts that are due, and of a turn in which nothing is done.
use Rattle.std.specs.Prelude.{◌≡◌, ℕ, ◌+◌, ◌<◌, true, List, [], length, map}
use Rattle.lab_plan.specs.LabPlan.{LabPlan, edges_of}
use Rattle.legal_steps.specs.declared.event.Event.{Event}
use Rattle.legal_steps.specs.declared.event.Event.TheVariants.{Look}
use Rattle.legal_steps.specs.State.{State, IsOwn, edge, phase}
use Rattle.legal_steps.specs.Run.{IsLegalFrom}
use Rattle.edge_word.specs.declared.moves.EdgeMoves.{EdgeMoves}
use Rattle.edge_word.specs.Moves.{events_of, is_nothing}
use Rattle.turns.specs.History.{learned_all}
use Rattle.turns.specs.Due.{AreDue, IsCalm, no_moves, but_position}
use Rattle.turns.specs.Acts.{AreActs}
use Rattle.turns.specs.Turn.{Visit, is_done, is_lost, count, once, IsTurnBy, IsIdleTurn}

-- ---- what is due on an edge

-- the moves that are due are legal, one after another
abbrev pub DueIsLegal : Type 0
DueIsLegal = (plan : LabPlan) (s : State) (j e : ℕ) (m : EdgeMoves) → e < length s.edges
    → j < length s.seats → IsOwn plan j e → AreDue plan s j e m → IsLegalFrom plan s (events_of m j e)

-- they are one group
abbrev pub OneGroupIsDue : Type 0
OneGroupIsDue = (plan : LabPlan) (s : State) (j e : ℕ) (m r : EdgeMoves) → AreDue plan s j e m → AreDue plan s j e r → m ≡ r

-- if nothing is due, nothing is legal
abbrev pub NothingDueIsCalm : Type 0
NothingDueIsCalm = (plan : LabPlan) (s : State) (j e : ℕ) (m : EdgeMoves) → AreDue plan s j e m → is_nothing m ≡ true → IsCalm plan s j e

-- and the other way: what a memo of calm edges rests on
abbrev pub CalmHasNothingDue : Type 0
CalmHasNothingDue = (plan : LabPlan) (s : State) (j e : ℕ) → IsOwn plan j e → IsCalm plan s j e → AreDue plan s j e no_moves

-- whether an edge is calm depends on that edge and on the job's own phase alone, and of the phase only on how the job dines and drinks, in which session
abbrev pub StaysCalm : Type 0
StaysCalm = (plan : LabPlan) (s t : State) (j e : ℕ) → edge t e ≡ edge s e
    → but_position (phase t j) ≡ but_position (phase s j) → IsCalm plan s j e → IsCalm plan t j e

-- ---- which phase act is due

-- the phase act that is due is one
abbrev pub OneActIsDue : Type 0
OneActIsDue = (plan : LabPlan) (s : State) (j waited : ℕ) (a b : List Event) → AreActs plan s j waited a → AreActs plan s j waited b → a ≡ b

-- ---- a turn in which nothing is done

-- these are looks alone, one at each edge of the job; after them each is calm by what was seen, the phase is as before, and no phase act counts as legal
pub record LeavesCalm (plan : LabPlan) (j waited : ℕ) (s : State) (events : List Event) : Type 0 where
  pub visits : List Visit
  pub edges : map (λ (v : Visit). v.edge) visits ≡ edges_of plan j
  pub looks : events ≡ map (λ (v : Visit). Look j v.edge v.saw) visits
  pub calm : (e : ℕ) → IsOwn plan j e → IsCalm plan (learned_all plan s events) j e
  pub phase_stays : phase (learned_all plan s events) j ≡ phase s j
  pub no_act : AreActs plan (learned_all plan s events) j waited []

-- a turn in which nothing was done and no exchange was lost is an idle turn
abbrev pub NothingDoneIsIdle : Type 0
NothingDoneIsIdle = (plan : LabPlan) (j waited : ℕ) (s : State) (visits : List Visit) (acts events : List Event)
    → IsTurnBy plan j waited s visits acts events → count is_done visits + once acts ≡ 0 → count is_lost visits ≡ 0 → IsIdleTurn plan j waited s events

-- after an idle turn each edge of the job is calm
abbrev pub IdleTurnIsCalm : Type 0
IdleTurnIsCalm = (plan : LabPlan) (j waited : ℕ) (s : State) (events : List Event) → IsIdleTurn plan j waited s events → LeavesCalm plan j waited s events
