-- What contracts see of a bench and of a desk.
use Rattle.std.specs.Prelude.{◌≡◌, ◌≢◌, ℕ, zero, suc, ◌<◌, Bool, List, [], ◌∷◌, ◌++◌, length}
use Rattle.atomic_table.specs.Seated.{TableId}
use Rattle.lab_plan.specs.LabPlan.{LabPlan}
use Rattle.legal_steps.specs.declared.event.Event.{Event}
use Rattle.legal_steps.specs.declared.event.Event.TheVariants.{Reach, Act}
use Rattle.legal_steps.specs.State.{State, edge, session}
use Rattle.legal_steps.specs.Legal.{next_entry}
use Rattle.instrument_log.specs.declared.entry.Entry.{Entry}
use Rattle.edge_word.specs.declared.moves.EdgeMoves.{EdgeMoves}
use Rattle.edge_word.specs.Moves.{events_of}
use Rattle.edge_rule.specs.declared.clock.Clock.{Clock}
use Rattle.turns.specs.Patience.{Waited, waited_in, waited_after, one_more}
use Rattle.edge_rule.specs.declared.calls.Stepped.{Stepped}
use Rattle.edge_rule.specs.declared.calls.Stepped.TheVariants.{Done, Moved}
use Rattle.turns.specs.History.{IsHistory, state_after, events_by, known_by}
use Rattle.one_history.specs.Groups.{with_group, one_by_one}

pub record DeskView : Type 0 where
  pub table : TableId
  pub plan : LabPlan
  pub job : ℕ
  -- the history so far as the desk has seen it; and the desk's record: the job's own events, and the same as the groups that were done at once
  pub front : List Event
  pub deeds : List Event
  pub groups : List (List Event)
  pub clock : Clock

pub record BenchView : Type 0 where
  pub table : TableId
  pub plan : LabPlan

-- the desk came from this bench
abbrev pub Owns : BenchView → DeskView → Type 0
Owns b d = (d.table ≡ b.table) × (d.plan ≡ b.plan)

-- what the job knows by its own events: its own seat, and each edge as it last saw or changed it
abbrev pub known : DeskView → State
known d = known_by d.plan d.deeds

-- the state that the history so far leads to
abbrev pub shown : DeskView → State
shown d = state_after d.plan d.front

-- A desk at rest: its job is one of the plan's, the history that it has seen is legal, and has the desk's record as the job's events
pub record IsAtRest (d : DeskView) : Type 0 where
  pub inside : d.job < length d.plan.jobs
  pub legal : IsHistory d.plan d.front
  pub whole : events_by d.job d.front ≡ d.deeds

-- The group g is added to the record, and the history so far begins with the front before and ends with g. It is legal, and has the record whole
pub record Adds (d : DeskView) (g : List Event) (e : DeskView) : Type 0 where
  pub table : e.table ≡ d.table
  pub plan : e.plan ≡ d.plan
  pub job : e.job ≡ d.job
  pub deeds : e.deeds ≡ d.deeds ++ g
  pub groups : e.groups ≡ with_group d.groups g
  pub clock : e.clock ≡ d.clock
  pub between : List Event
  pub front : e.front ≡ (d.front ++ between) ++ g
  pub legal : IsHistory e.plan e.front
  pub whole : events_by e.job e.front ≡ e.deeds

-- The moves were added; or nothing was, and the history that is seen ends where the edge is another than the one last seen
abbrev pub Tried : DeskView → EdgeMoves → ℕ → Stepped → DeskView → Type 0
Tried d moves e Done d' = Adds d (events_of moves d.job e) d'
Tried d moves e (Moved x) d' = Adds d [] d' × (x ≡ edge (shown d') e) × (x ≢ edge (known d) e)

-- A command: the job reaches, and acts; others may act between the two. The entry is the one that the job's next command makes
pub record Commanded (d : DeskView) (entry : Entry) (d' : DeskView) : Type 0 where
  pub middle : DeskView
  pub reaches : Adds d (Reach d.job ∷ []) middle
  pub makes : entry ≡ next_entry d.plan (shown middle) d.job
  pub acts : Adds middle (Act d.job ∷ []) d'

-- A desk of a bench that opens in the state after this past. It has seen all of it, and its record is the job's events in it, each by itself.
-- Its clock starts anew
abbrev pub desk_after : TableId → LabPlan → List Event → ℕ → DeskView
desk_after t plan past j = record {
  table = t;
  plan = plan;
  job = j;
  front = past;
  deeds = events_by j past;
  groups = one_by_one (events_by j past);
  clock = record { turns = 0; waited = 0; session = 0 };
}

-- the desks of the jobs below n
abbrev pub desks_after : TableId → LabPlan → List Event → ℕ → List DeskView
desks_after t plan past zero = []
desks_after t plan past (suc n) = desks_after t plan past n ++ desk_after t plan past n ∷ []

-- the same at the start
abbrev pub fresh_desk : TableId → LabPlan → ℕ → DeskView
fresh_desk t plan j = desk_after t plan [] j

abbrev pub fresh_desks : TableId → LabPlan → ℕ → List DeskView
fresh_desks t plan n = desks_after t plan [] n

-- ---- what a desk counts

-- how many turns which session has waited
abbrev pub waits : Clock → Waited
waits clock = record { turns = clock.waited; session = clock.session }

-- how many turns the job's session has waited: it is 0 again at each Thirst
abbrev pub waited : DeskView → ℕ
waited d = waited_in (waits d.clock) (session (known d) d.job)

-- the clock after a turn was noted
abbrev pub ticked : Clock → Waited → Clock
ticked clock w = record { turns = one_more 18446744073709551615 clock.turns; waited = w.turns; session = w.session }

-- a turn was noted, at whose start the job was thirsty or not
abbrev pub noted : DeskView → Bool → DeskView
noted d thirsty = record d { clock = ticked d.clock (waited_after d.job (waits d.clock) thirsty (known d)) }
