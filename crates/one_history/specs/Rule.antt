-- The rule of the table: one history, of which each seat has seen a beginning, and in which the events of each job are those of the hand that acts for it.
use Rattle.std.specs.Prelude.{◌≡◌, ◌⊎◌, ℕ, ◌+◌, ◌*◌, ◌<◌, zero, suc, List, [], ◌∷◌, length, slice_index}
use mathlib.Core.Option.{Option, none, some}
use lib.ListN.{get_elem?}
use Rattle.atomic_table.specs.Table.{State as TableState}
use Rattle.lab_plan.specs.LabPlan.{LabPlan, edges}
use Rattle.lab_plan.specs.IsPlan.{IsPlan}
use Rattle.instrument_log.specs.InstrumentLog.{LogView}
use Rattle.legal_steps.specs.declared.event.Event.{Event}
use Rattle.legal_steps.specs.State.{State, edge, phase}
use Rattle.legal_steps.specs.WholeLogs.{log_with_room}
use Rattle.edge_word.specs.Words.{word_of}
use Rattle.edge_word.specs.Phases.{phase_word_of}
use Rattle.one_history.specs.declared.board.Hand.{Hand}
use Rattle.one_history.specs.declared.board.View.{View}
use Rattle.one_history.specs.Groups.{one_by_one}
use Rattle.turns.specs.History.{IsHistory, state_after, events_by}
use Rattle.turns.specs.Lists.{StartsWith, Each}
use Rattle.turns.specs.Reaching.{IsReachingFor}

-- ---- the words, each on a cache line of its own: those of the edges, those of the jobs, and a spare one

abbrev pub edge_place : ℕ → ℕ
edge_place e = 16 * e

abbrev pub phase_place : LabPlan → ℕ → ℕ
phase_place plan j = 16 * (length (edges plan) + j)

abbrev pub word_count : LabPlan → ℕ
word_count plan = 16 * (length (edges plan) + length plan.jobs + 1)

-- the words are those of the state
pub record Spelled (plan : LabPlan) (s : State) (words : List ℕ) : Type 0 where
  pub wide : length words ≡ word_count plan
  pub edge_words : (e : ℕ) → e < length (edges plan) → slice_index words (edge_place e) ≡ word_of (edge s e)
  pub phase_words : (j : ℕ) → j < length plan.jobs → slice_index words (phase_place plan j) ≡ phase_word_of (phase s j)

-- ---- the slots: each instrument's log, or out with the job that reaches for it

abbrev pub AtHome : LabPlan → State → List (Option LogView) → ℕ → Type 0
AtHome plan s homes i = (get_elem? homes i ≡ some (some (log_with_room plan s i))) ⊎ ((get_elem? homes i ≡ some none) × ((j : ℕ) × IsReachingFor plan s j i))

pub record Homed (plan : LabPlan) (s : State) (homes : List (Option LogView)) : Type 0 where
  pub deep : length homes ≡ length plan.instruments
  pub slots : (i : ℕ) → i < length plan.instruments → AtHome plan s homes i

-- ---- the views

-- a hand that has done nothing
abbrev pub hand : LabPlan → ℕ → Hand
hand plan j = record { plan = plan; job = j; deeds = []; groups = [] }

-- a hand with what its job did before, each event by itself
abbrev pub hand_after : LabPlan → List Event → ℕ → Hand
hand_after plan past j = record { plan = plan; job = j; deeds = events_by j past; groups = one_by_one (events_by j past) }

-- one for each of n jobs from j on
abbrev pub fresh : LabPlan → List Event → ℕ → ℕ → List Hand
fresh plan past j zero = []
fresh plan past j (suc n) = hand_after plan past j ∷ fresh plan past (suc j) n

-- the view of the first seat: of all jobs, and of what came before
abbrev pub first_view : LabPlan → List Event → View
first_view plan past = record { hands = fresh plan past 0 (length plan.jobs); front = past; told = [] }

-- the seat acts for the job, whose events in the history are these
abbrev pub Held : LabPlan → List Event → (ℕ → ℕ) → ℕ → Hand → Type 0
Held plan h owner id x = (x.plan ≡ plan) × (events_by x.job h ≡ x.deeds) × (owner x.job ≡ id)

-- the seat has seen a beginning of the history, and was told of beginnings
pub record Sees (plan : LabPlan) (h : List Event) (owner : ℕ → ℕ) (id : ℕ) (v : View) : Type 0 where
  pub front : StartsWith h v.front
  pub told : Each (StartsWith h) v.told
  pub hands : Each (Held plan h owner id) v.hands

-- ---- the rule

pub record HasOneHistory (plan : LabPlan) (s : TableState LogView View) : Type 0 where
  pub is_plan : IsPlan plan
  pub history : List Event
  -- the seat of each job
  pub owner : ℕ → ℕ
  pub legal : IsHistory plan history
  pub words : Spelled plan (state_after plan history) s.words
  pub homes : Homed plan (state_after plan history) s.homes
  pub seats : (id : ℕ) (v : View) → get_elem? s.views id ≡ some v → Sees plan history owner id v
