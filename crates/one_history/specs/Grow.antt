-- What a step tells the seat that took it.
use Rattle.std.specs.Prelude.{◌≡◌, ◌≢◌, ℕ, ◌-◌, ◌/◌, List, [], ◌∷◌, ◌++◌, length}
use Rattle.atomic_table.specs.Table.{Me, Step, rest}
use Rattle.lab_plan.specs.LabPlan.{LabPlan, edges, bottles}
use Rattle.instrument_log.specs.InstrumentLog.{LogView}
use Rattle.legal_steps.specs.declared.edge_state.EdgeState.{EdgeState}
use Rattle.legal_steps.specs.declared.event.Event.{Event}
use Rattle.legal_steps.specs.declared.event.Event.TheVariants.{Look, Thirst, Hunger, Sit, Leave, Drink, Reach, Act, Quit, Retire, Withdraw, Glance}
use Rattle.legal_steps.specs.declared.phase.Dining.{Dining}
use Rattle.legal_steps.specs.declared.phase.Dining.TheVariants.{Thinking, Hungry, Eating}
use Rattle.legal_steps.specs.declared.phase.Drinking.{Drinking}
use Rattle.legal_steps.specs.declared.phase.Drinking.TheVariants.{Tranquil, Thirsty, Drinking as Drinks, Reaching, Retired}
use Rattle.legal_steps.specs.declared.phase.JobState.{JobState}
use Rattle.legal_steps.specs.State.{State, edge, phase}
use Rattle.legal_steps.specs.Legal.{next_command}
use Rattle.legal_steps.specs.WholeLogs.{log_with_room}
use Rattle.edge_word.specs.Words.{word_of, IsOfBottles}
use Rattle.edge_word.specs.Phases.{phase_word_of, phase_of, FitsPhaseWord}
use Rattle.edge_word.specs.Moves.{events_of, moves_of_words}
use Rattle.one_history.specs.declared.board.Hand.{Hand}
use Rattle.one_history.specs.declared.board.View.{View}
use Rattle.turns.specs.History.{IsHistory, state_after, events_by, known_by}
use Rattle.one_history.specs.Groups.{with_group}
use Rattle.one_history.specs.Rule.{hand}
use Rattle.turns.specs.Lists.{StartsWith, Each}

-- ---- the hand that a seat acts with

abbrev pub no_plan : LabPlan
no_plan = record { version = 0; jobs = []; instruments = [] }

abbrev pub hand_or : List Hand → Hand
hand_or [] = hand no_plan 0
hand_or (x ∷ xs) = x

-- the first job that the view acts for
abbrev pub hand_in : View → Hand
hand_in v = hand_or v.hands

abbrev pub rest_hands : List Hand → List Hand
rest_hands [] = []
rest_hands (x ∷ xs) = xs

-- the hand after a step that did this group
abbrev pub adding : Hand → List Event → Hand
adding x g = record x { deeds = x.deeds ++ g; groups = with_group x.groups g }

-- the view acts for one job, and maybe for others that were lent
abbrev pub IsLed : View → Type 0
IsLed v = (v.hands ≡ hand_in v ∷ rest_hands v.hands) × Each (λ (y : Hand). y.job ≢ (hand_in v).job) (rest_hands v.hands)

-- the view acts for one job
abbrev pub IsMine : View → Type 0
IsMine v = v.hands ≡ hand_in v ∷ []

-- what the job knows by its own events
abbrev pub mine : View → State
mine v = known_by (hand_in v).plan (hand_in v).deeds

-- the state after the history that was seen
abbrev pub seen_state : View → View → State
seen_state v w = state_after (hand_in v).plan w.front

-- The group g was added: the history begins with all that was seen and told of, ends with the group, and of the job has just its record
pub record Grows (v : View) (g : List Event) (w : View) : Type 0 where
  pub hands : w.hands ≡ adding (hand_in v) g ∷ rest_hands v.hands
  pub between : List Event
  pub front : w.front ≡ (v.front ++ between) ++ g
  pub told : Each (StartsWith w.front) v.told
  pub none_told : w.told ≡ []
  pub legal : IsHistory (hand_in v).plan w.front
  pub whole : events_by (hand_in v).job w.front ≡ (hand_in v).deeds ++ g
  pub beside : Each (λ (y : Hand). events_by y.job w.front ≡ y.deeds) (rest_hands v.hands)

abbrev pub Does : View → Event → View → Type 0
Does v event w = Grows v (event ∷ []) w

-- ---- each kind of step

abbrev pub At : Type 0
At = Step LogView

abbrev pub Sat : Type 0
Sat = Me LogView View

-- the edge was read
abbrev pub looked : At → Sat → ℕ → Sat → Type 0
looked st m n m' = (x : EdgeState) × (n ≡ word_of x) × IsOfBottles (length (bottles (hand_in m.0).plan (st.word / 16))) x
    × Does m.0 (Look (hand_in m.0).job (st.word / 16) x) m'.0 × (m'.1 ≡ m.1)

-- A compare-exchange found the expected word, and the moves between the two words were done; or another, which the edge then has
abbrev pub tried : At → Sat → ℕ → Sat → Type 0
tried st m n m' =
    (n ≡ st.first → Grows m.0 (events_of (moves_of_words st.first st.second) (hand_in m.0).job (st.word / 16)) m'.0)
    × (n ≢ st.first → Grows m.0 [] m'.0 × (n ≡ word_of (edge (seen_state m.0 m'.0) (st.word / 16)))
    × IsOfBottles (length (bottles (hand_in m.0).plan (st.word / 16))) (edge (seen_state m.0 m'.0) (st.word / 16)))
    × (m'.1 ≡ m.1)

-- the event that leads a job from one phase to another
abbrev pub drinking_event : ℕ → Drinking → Drinking → Event
drinking_event j Tranquil Retired = Retire j
drinking_event j Thirsty Drinks = Drink j
drinking_event j Thirsty Tranquil = Withdraw j
drinking_event j Drinks Tranquil = Quit j
drinking_event j Drinks Reaching = Reach j
drinking_event j Reaching Drinks = Act j
drinking_event j _ _ = Thirst j

abbrev pub dining_event : ℕ → Dining → Dining → Event → Event
dining_event j Thinking Hungry other = Hunger j
dining_event j Hungry Eating other = Sit j
dining_event j Eating Thinking other = Leave j
dining_event j _ _ other = other

abbrev pub phase_event : ℕ → JobState → JobState → Event
phase_event j x y = dining_event j x.dining y.dining (drinking_event j x.drinking y.drinking)

-- the phase before, by the job's own events
abbrev pub own_phase : View → JobState
own_phase v = phase (mine v) (hand_in v).job

-- a phase was stored
abbrev pub stored : At → Sat → ℕ → Sat → Type 0
stored st m n m' = Does m.0 (phase_event (hand_in m.0).job (own_phase m.0) (phase_of st.first)) m'.0 × (m'.1 ≡ m.1)

-- the phase of another job was read
abbrev pub glanced : At → Sat → ℕ → Sat → Type 0
glanced st m n m' = (x : JobState) × (n ≡ phase_word_of x) × FitsPhaseWord x
    × Does m.0 (Glance (hand_in m.0).job (st.word / 16 - length (edges (hand_in m.0).plan)) x) m'.0 × (m'.1 ≡ m.1)

-- the instrument of the job's next command
abbrev pub next_instrument : View → ℕ
next_instrument v = (next_command (hand_in v).plan (mine v) (hand_in v).job).0

-- the job reaches, and has the log of its next command's instrument in hand
abbrev pub reached : At → Sat → ℕ → Sat → Type 0
reached st m n m' = Does m.0 (Reach (hand_in m.0).job) m'.0
    × (m'.1 ≡ (next_instrument m.0, log_with_room (hand_in m.0).plan (seen_state m.0 m'.0) (next_instrument m.0)) ∷ m.1)

-- the job acts, and the log is back
abbrev pub acted : At → Sat → ℕ → Sat → Type 0
acted st m n m' = Does m.0 (Act (hand_in m.0).job) m'.0 × (m'.1 ≡ rest m.1)
