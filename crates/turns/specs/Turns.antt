-- For readers: turns one after another, with the count of patience handed on, as groups of events that stand together.
use Rattle.std.specs.Prelude.{◌≡◌, ◌≢◌, ℕ, zero, suc, Bool, true, false, if◌then◌else◌, List, [], ◌∷◌, ◌++◌, map}
use Rattle.lab_plan.specs.LabPlan.{LabPlan}
use Rattle.legal_steps.specs.declared.event.Event.{Event}
use Rattle.legal_steps.specs.declared.event.Event.TheVariants.{Look, AskFork, GiveFork, Soil, AskBottles, GiveBottles, Thirst, Hunger}
use Rattle.legal_steps.specs.declared.event.Event.TheVariants.{Sit, Leave, Drink, Reach, Act, Quit, Retire, Glance, Withdraw}
use Rattle.legal_steps.specs.declared.edge_state.EdgeState.{EdgeState}
use Rattle.legal_steps.specs.State.{State, edge, session, drinking}
use Rattle.legal_steps.specs.Run.{after_all}
use Rattle.edge_word.specs.Moves.{events_of}
use Rattle.turns.specs.History.{learned_all}
use Rattle.turns.specs.Patience.{Waited, is_waiting, waited_in, waited_after}
use Rattle.turns.specs.Turn.{Visit, is_lost, IsTurnBy}

-- ---- glances, which are no part of turns

abbrev pub is_glance : Event → Bool
is_glance (Glance j other seen) = true
is_glance (Look j e seen) = false
is_glance (AskFork j e) = false
is_glance (GiveFork j e) = false
is_glance (Soil j e) = false
is_glance (AskBottles j e set) = false
is_glance (GiveBottles j e set) = false
is_glance (Thirst j) = false
is_glance (Hunger j) = false
is_glance (Sit j) = false
is_glance (Leave j) = false
is_glance (Drink j) = false
is_glance (Reach j) = false
is_glance (Act j) = false
is_glance (Quit j) = false
is_glance (Retire j) = false
is_glance (Withdraw j) = false

-- the events without Glances
abbrev pub but_glances : List Event → List Event
but_glances [] = []
but_glances (event ∷ events) = if is_glance event then but_glances events else event ∷ but_glances events

-- ---- groups

-- what a job does at once: these events; or nothing, if an exchange that was due on an edge is lost: the edge is another than its look saw
pub data Group : Type 0 where
  Did : (events : List Event) → Group
  Lost : (e : ℕ) → (saw : EdgeState) → Group

-- the events of groups one after another
abbrev pub flat : List Group → List Event
flat [] = []
flat (Did events ∷ groups) = events ++ flat groups
flat (Lost e saw ∷ groups) = flat groups

-- From the state s on, the groups stand in the list in this order, whatever stands between them: events unbroken, and a lost exchange at a place where what
-- stands before it has led to another edge than its look saw
abbrev pub Stands : LabPlan → State → List Group → List Event → Type 0
Stands plan s [] h = Unit {0}
Stands plan s (Did events ∷ groups) h =
    (before : List Event) × (after : List Event) × (h ≡ before ++ (events ++ after)) × Stands plan (after_all plan s (before ++ events)) groups after
Stands plan s (Lost e saw ∷ groups) h =
    (before : List Event) × (after : List Event) × (h ≡ before ++ after) × (edge (after_all plan s before) e ≢ saw)
    × Stands plan (after_all plan s before) groups after

-- the groups of a visit: the look, and its one exchange: that it is lost, or its moves, with no events if none was due
abbrev pub visit_groups : ℕ → Visit → List Group
visit_groups j v = Did (Look j v.edge v.saw ∷ []) ∷ (if is_lost v then Lost v.edge v.saw else Did (events_of v.moves j v.edge)) ∷ []

abbrev pub visits_groups : ℕ → List Visit → List Group
visits_groups j [] = []
visits_groups j (v ∷ visits) = visit_groups j v ++ visits_groups j visits

-- the groups of a turn: those of its visits, then each event of the phase act alone
abbrev pub turn_groups : ℕ → List Visit → List Event → List Group
turn_groups j visits acts = visits_groups j visits ++ map (λ (event : Event). Did (event ∷ [])) acts

-- ---- turns one after another

-- the count after a turn with these events, of a job that knew s before it
abbrev pub waited_next : LabPlan → ℕ → Waited → State → List Event → Waited
waited_next plan j w s events = waited_after j w (is_waiting (drinking s j)) (learned_all plan s events)

-- The groups are those of n turns of a job that knew s and had this count; then it has the count w'
abbrev pub AreGrouped : LabPlan → ℕ → ℕ → Waited → State → List Group → Waited → Type 0
AreGrouped plan j zero w s groups w' = (groups ≡ []) × (w' ≡ w)
AreGrouped plan j (suc n) w s groups w' =
    (visits : List Visit) × (acts : List Event) × (first : List Event) × (later : List Group) × (groups ≡ turn_groups j visits acts ++ later)
    × IsTurnBy plan j (waited_in w (session s j)) s visits acts first
    × AreGrouped plan j n (waited_next plan j w s first) (learned_all plan s first) later w'
