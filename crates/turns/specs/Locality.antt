-- For readers: what one event reads and changes, what a job knows, and what holds after every history, as statements.
use Rattle.std.specs.Prelude.{◌≡◌, ◌≢◌, ◌⊎◌, ◌↔◌, ℕ, ◌<◌, List, [], ◌∷◌, ◌++◌, length, slice_set, Some}
use Rattle.lab_plan.specs.LabPlan.{LabPlan, edges, bottles}
use Rattle.lab_plan.specs.IsPlan.{IsPlan}
use Rattle.legal_steps.specs.declared.edge_state.EdgeState.{EdgeState}
use Rattle.legal_steps.specs.declared.event.Event.{Event}
use Rattle.legal_steps.specs.declared.event.Event.TheVariants.{Look, Reach, Act}
use Rattle.legal_steps.specs.declared.phase.Drinking.TheVariants.{Retired}
use Rattle.legal_steps.specs.State.{State, edge, seat, log, phase, drinking, position, IsInSession}
use Rattle.legal_steps.specs.Legal.{May, after, next_command, next_entry}
use Rattle.legal_steps.specs.Run.{IsLegalFrom, after_all, meals_of, sessions_done_of, withdrawn_of, actor}
use Rattle.legal_steps.specs.Opening.{the_opening}
use Rattle.legal_steps.specs.Holding.{Holds}
use Rattle.edge_word.specs.declared.moves.EdgeMoves.{EdgeMoves}
use Rattle.edge_word.specs.Moves.{events_of, after_moves, seat_with_moves}
use Rattle.edge_word.specs.Words.{IsOfBottles}
use Rattle.edge_word.specs.Phases.{FitsPhaseWord}
use Rattle.turns.specs.History.{events_by, known_by, IsHistory, state_after}
use Rattle.turns.specs.Changes.{seat_after}
use Rattle.turns.specs.Exchanges.{changed_edge, edge_after, written_log, acts_on}
use Rattle.turns.specs.Reaching.{IsReachingFor}
use Rattle.turns.specs.Reads.{AreAlikeFor}

-- ---- what one event changes, legal or not

-- as many seats, edges and logs
pub record AreAsMany (s t : State) : Type 0 where
  pub seats : length t.seats ≡ length s.seats
  pub edges : length t.edges ≡ length s.edges
  pub logs : length t.logs ≡ length s.logs

abbrev pub KeepsAll : Type 0
KeepsAll = (plan : LabPlan) (s : State) (event : Event) → AreAsMany s (after plan s event)

-- the seat of the job that acts is what the event makes of it, and every other seat is as it was
pub record HasOneSeatChanged (plan : LabPlan) (s : State) (event : Event) : Type 0 where
  pub own : actor event < length s.seats → seat (after plan s event) (actor event) ≡ seat_after plan (seat s (actor event)) event
  pub others : (k : ℕ) → k ≢ actor event → seat (after plan s event) k ≡ seat s k

abbrev pub ChangesOneSeat : Type 0
ChangesOneSeat = (plan : LabPlan) (s : State) (event : Event) → HasOneSeatChanged plan s event

-- the edge of an exchange is what the exchange makes of it, and every other edge is as it was
pub record HasOneEdgeChanged (plan : LabPlan) (s : State) (event : Event) : Type 0 where
  pub here : (e : ℕ) → e < length s.edges → changed_edge event ≡ Some e → edge (after plan s event) e ≡ edge_after (edge s e) event
  pub others : (e : ℕ) → changed_edge event ≢ Some e → edge (after plan s event) e ≡ edge s e

abbrev pub ChangesOneEdge : Type 0
ChangesOneEdge = (plan : LabPlan) (s : State) (event : Event) → HasOneEdgeChanged plan s event

-- the log of an Act has its entry at the end, and every other log is as it was
pub record HasOneLogChanged (plan : LabPlan) (s : State) (event : Event) : Type 0 where
  pub here : (i : ℕ) → i < length s.logs → written_log plan s event ≡ Some i → log (after plan s event) i ≡ log s i ++ next_entry plan s (actor event) ∷ []
  pub others : (i : ℕ) → written_log plan s event ≢ Some i → log (after plan s event) i ≡ log s i

abbrev pub ChangesOneLog : Type 0
ChangesOneLog = (plan : LabPlan) (s : State) (event : Event) → HasOneLogChanged plan s event

-- a group of moves makes of the seat of its job what the group says, and of its edge; no other edge changes
abbrev pub GroupsChangeOneSeatAndEdge : Type 0
GroupsChangeOneSeatAndEdge = (plan : LabPlan) (s : State) (j e : ℕ) (m : EdgeMoves)
    → (j < length s.seats → seat (after_all plan s (events_of m j e)) j ≡ seat_with_moves m e (seat s j))
    × (e < length s.edges → (after_all plan s (events_of m j e)).edges ≡ slice_set s.edges e (after_moves m (edge s e)))

-- ---- what one event reads

-- it is legal in both or in neither of two states that are alike in what it reads
abbrev pub ReadsAlike : Type 0
ReadsAlike = (plan : LabPlan) (s t : State) (event : Event) → AreAlikeFor s t event → May plan s event ↔ May plan t event

-- and the entry that an Act makes depends on the seat of its job and on the one log that it writes
abbrev pub EntryReadsAlike : Type 0
EntryReadsAlike = (plan : LabPlan) (s t : State) (j : ℕ) → seat s j ≡ seat t j
    → log s (next_command plan s j).0 ≡ log t (next_command plan t j).0 → next_entry plan s j ≡ next_entry plan t j

-- ---- what a job knows

-- the seat of a job after any list of events from the initial state, legal or not, is what the job knows by its own events in it
abbrev pub KnowsItself : Type 0
KnowsItself = (plan : LabPlan) (h : List Event) (j : ℕ) → j < length plan.jobs → seat (state_after plan h) j ≡ seat (known_by plan (events_by j h)) j

-- a look at an edge puts there what it saw, and leaves what the job knows of the other edges
abbrev pub KnowsWhatItSaw : Type 0
KnowsWhatItSaw = (plan : LabPlan) (deeds : List Event) (j e : ℕ) (seen : EdgeState) → e < length (edges plan)
    → (edge (known_by plan (deeds ++ Look j e seen ∷ [])) e ≡ seen)
    × ((f : ℕ) → f ≢ e → edge (known_by plan (deeds ++ Look j e seen ∷ [])) f ≡ edge (known_by plan deeds) f)

-- a job's counts in any list are those of its own events in it
abbrev pub CountsItself : Type 0
CountsItself = (h : List Event) (j : ℕ) → (meals_of j (events_by j h) ≡ meals_of j h)
    × (sessions_done_of j (events_by j h) ≡ sessions_done_of j h) × (withdrawn_of j (events_by j h) ≡ withdrawn_of j h)

-- ---- lists of events, one after another

-- the state after both is the state after the second, from where the first led
abbrev pub LeadsOn : Type 0
LeadsOn = (plan : LabPlan) (s : State) (a b : List Event) → after_all plan s (a ++ b) ≡ after_all plan (after_all plan s a) b

-- both are legal if the first is, and the second from where it led
abbrev pub IsLegalInParts : Type 0
IsLegalInParts = (plan : LabPlan) (s : State) (a b : List Event)
    → IsLegalFrom plan s (a ++ b) ↔ (IsLegalFrom plan s a × IsLegalFrom plan (after_all plan s a) b)

-- ---- what holds after histories

-- P holds of the state after every history of every plan
abbrev pub AfterEvery : (LabPlan → State → Type 0) → Type 0
AfterEvery P = (plan : LabPlan) (h : List Event) → IsPlan plan → IsHistory plan h → P plan (state_after plan h)

-- every edge names its own bottles alone, and the numbers of every phase fit their fields: so both have their words
pub record FitTheirWords (plan : LabPlan) (s : State) : Type 0 where
  pub edges_fit : (e : ℕ) → e < length (edges plan) → IsOfBottles (length (bottles plan e)) (edge s e)
  pub phases_fit : (j : ℕ) → j < length plan.jobs → FitsPhaseWord (phase s j)

-- ---- what stays over legal lists

-- a retired job stays retired, whatever legal events come
abbrev pub StaysRetired : Type 0
StaysRetired = (plan : LabPlan) (s : State) (events : List Event) (j : ℕ) → IsLegalFrom plan s events
    → drinking s j ≡ Retired → drinking (after_all plan s events) j ≡ Retired

-- a job that may reach, or may act, holds the instrument of its next command
abbrev pub HoldsWhatItReaches : Type 0
HoldsWhatItReaches = (plan : LabPlan) (h : List Event) (j : ℕ) → IsHistory plan h
    → May plan (state_after plan h) (Reach j) ⊎ May plan (state_after plan h) (Act j)
    → Holds plan (state_after plan h) j (next_command plan (state_after plan h) j).0

-- the log that a job reaches for stays as it was until the job's own next event
abbrev pub KeepsReachedLog : Type 0
KeepsReachedLog = (plan : LabPlan) (h more : List Event) (j i : ℕ) → IsPlan plan
    → IsHistory plan (h ++ more) → events_by j more ≡ [] → IsReachingFor plan (state_after plan h) j i
    → log (state_after plan (h ++ more)) i ≡ log (state_after plan h) i

-- and no one else reaches for it
abbrev pub HasOneReaching : Type 0
HasOneReaching = (plan : LabPlan) (h : List Event) (j k i : ℕ) → IsPlan plan → IsHistory plan h
    → IsReachingFor plan (state_after plan h) j i → IsReachingFor plan (state_after plan h) k i → j ≡ k

-- a log has one entry for each Act on its instrument
abbrev pub HasOneEntryEach : Type 0
HasOneEntryEach = (plan : LabPlan) (h : List Event) (i : ℕ) → i < length plan.instruments
    → length (log (state_after plan h) i) ≡ acts_on plan i (the_opening plan) h

-- a job in no session is at no command
abbrev pub RestsAtNoCommand : Type 0
RestsAtNoCommand = (plan : LabPlan) (h : List Event) (j : ℕ) → IsHistory plan h
    → ¬ IsInSession (drinking (state_after plan h) j) → position (state_after plan h) j ≡ 0
