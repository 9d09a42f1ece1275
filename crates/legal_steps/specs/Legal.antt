-- For readers: the 17 kinds of event: where each is legal, and the state after it.
use Rattle.std.specs.Prelude.{◌≡◌, ◌≢◌, ◌⊎◌, ℕ, ◌+◌, ◌<◌, ◌≤◌, Bool, true, false, not, ◌&&◌, ◌||◌, List, [], ◌∷◌}
use Rattle.std.specs.Prelude.{◌++◌, length, replicate, slice_index_or, slice_set, bit_xor, bit_and, IsSome}
use Rattle.lab_plan.specs.declared.verb.Verb.{Verb}
use Rattle.lab_plan.specs.LabPlan.{LabPlan, bottles, sessions, commands, patience, session_names, command_at, place_at, length_at}
use Rattle.instrument_log.specs.declared.entry.Entry.{Entry}
use Rattle.instrument_log.specs.Dial.{turned, dial}
use Rattle.legal_steps.specs.declared.end.End.{End}
use Rattle.legal_steps.specs.declared.end.End.TheVariants.{Lower, Higher}
use Rattle.legal_steps.specs.declared.phase.Dining.{Dining}
use Rattle.legal_steps.specs.declared.phase.Dining.TheVariants.{Thinking, Hungry, Eating}
use Rattle.legal_steps.specs.declared.phase.Drinking.TheVariants.{Tranquil, Thirsty, Drinking as Drinks, Reaching, Retired}
use Rattle.legal_steps.specs.declared.edge_state.EdgeState.{EdgeState}
use Rattle.legal_steps.specs.declared.phase.JobState.{JobState}
use Rattle.legal_steps.specs.declared.event.Event.{Event}
use Rattle.legal_steps.specs.declared.event.Event.TheVariants.{Look, AskFork, GiveFork, Soil, AskBottles, GiveBottles, Thirst, Hunger}
use Rattle.legal_steps.specs.declared.event.Event.TheVariants.{Sit, Leave, Drink, Reach, Act, Quit, Retire, Glance, Withdraw}
use Rattle.legal_steps.specs.State.{Seat, State, Has, IsOfEdge, edge, seat, log, fork, is_dirty, token, phase, dining, drinking, session, position}
use Rattle.legal_steps.specs.State.{fork_mark, bottle_marks, opposite, end_of, IsOwn, IsInSession, IsDrinking, bottle_end, bottles_at}

-- ---- what the guards speak of

-- a thing is here if it is at the job's own end, and there if it isn't
abbrev pub Here : LabPlan → ℕ → ℕ → End → Type 0
Here plan j e thing = thing ≡ end_of plan j e

abbrev pub There : LabPlan → ℕ → ℕ → End → Type 0
There plan j e thing = thing ≢ end_of plan j e

-- the job is one of the plan's
abbrev pub IsJob : LabPlan → ℕ → Type 0
IsJob plan j = j < length plan.jobs

-- the job needs the instrument: it is in a session that names it
pub record Needs (plan : LabPlan) (s : State) (j i : ℕ) : Type 0 where
  pub in_session : IsInSession (drinking s j)
  pub named : session_names plan j (session s j) i ≡ true

-- the instrument of bottle k of an edge
abbrev pub instrument_of : LabPlan → ℕ → ℕ → ℕ
instrument_of plan e k = slice_index_or (bottles plan e) k 0

-- a nonempty set of bottles of the edge
pub record IsBottleSet (plan : LabPlan) (e set : ℕ) : Type 0 where
  pub not_empty : set ≢ 0
  pub of_edge : IsOfEdge plan e set

-- job j may ask for bottle k: it needs it, the bottle is there and its token here
pub record MayAskBottle (plan : LabPlan) (s : State) (j e k : ℕ) : Type 0 where
  pub needed : Needs plan s j (instrument_of plan e k)
  pub bottle_there : There plan j e (bottle_end (edge s e).bottles k)
  pub token_here : Here plan j e (bottle_end (edge s e).bottle_tokens k)

-- job j may give bottle k: bottle and token are here, and it doesn't need it while it drinks or has the fork
pub record MayGiveBottle (plan : LabPlan) (s : State) (j e k : ℕ) : Type 0 where
  pub bottle_here : Here plan j e (bottle_end (edge s e).bottles k)
  pub token_here : Here plan j e (bottle_end (edge s e).bottle_tokens k)
  pub not_kept : ¬ (Needs plan s j (instrument_of plan e k) × (IsDrinking (phase s j) ⊎ Here plan j e (fork s e)))

-- a fork mark on every edge of the job
abbrev pub IsMarkedAll : LabPlan → State → ℕ → Type 0
IsMarkedAll plan s j = (e : ℕ) → IsOwn plan j e → fork_mark s j e ≡ true

-- each needed bottle of an edge is marked, and so on every edge of the job
abbrev pub HasNeededAt : LabPlan → State → ℕ → ℕ → Type 0
HasNeededAt plan s j e = (k : ℕ) → k < length (bottles plan e) → Needs plan s j (instrument_of plan e k) → Has (bottle_marks s j e) k

abbrev pub HasNeeded : LabPlan → State → ℕ → Type 0
HasNeeded plan s j = (e : ℕ) → IsOwn plan j e → HasNeededAt plan s j e

-- the commands of the job's session
abbrev pub session_commands : LabPlan → State → ℕ → List (ℕ × Verb)
session_commands plan s j = commands plan j (session s j)

-- ---- where each event is legal

abbrev pub May : LabPlan → State → Event → Type 0
-- a look at an edge of the job sees what is there
May plan s (Look j e seen) = IsOwn plan j e × (seen ≡ edge s e)
-- the fork is asked for by a hungry job that has the token and not the fork
May plan s (AskFork j e) = IsOwn plan j e × (dining s j ≡ Hungry) × There plan j e (fork s e) × Here plan j e (token s e)
-- a dirty fork is given if its token is here too, but not during a meal
May plan s (GiveFork j e) = IsOwn plan j e × (dining s j ≢ Eating) × Here plan j e (fork s e) × (is_dirty s e ≡ true) × Here plan j e (token s e)
-- a clean fork is soiled during a meal
May plan s (Soil j e) = IsOwn plan j e × (dining s j ≡ Eating) × Here plan j e (fork s e) × (is_dirty s e ≡ false)
-- a thirsty job asks for bottles that it needs, that are there, and whose tokens are here
May plan s (AskBottles j e set) = IsOwn plan j e × (drinking s j ≡ Thirsty) × IsBottleSet plan e set × ((k : ℕ) → Has set k → MayAskBottle plan s j e k)
-- bottles that are here with their tokens are given, except those that the job needs while it drinks or has the fork
May plan s (GiveBottles j e set) = IsOwn plan j e × IsBottleSet plan e set × ((k : ℕ) → Has set k → MayGiveBottle plan s j e k)
-- a tranquil job with a session left begins it, but not during a meal
May plan s (Thirst j) = IsJob plan j × (drinking s j ≡ Tranquil) × (dining s j ≢ Eating) × (session s j < length (sessions plan j))
-- a thinking job that is thirsty becomes hungry
May plan s (Hunger j) = IsJob plan j × (dining s j ≡ Thinking) × (drinking s j ≡ Thirsty)
-- a hungry job with a mark on every edge of its own starts its meal
May plan s (Sit j) = IsJob plan j × (dining s j ≡ Hungry) × IsMarkedAll plan s j
-- an eating job that isn't thirsty ends its meal when all its edges are marked: its forks are dirty
May plan s (Leave j) = IsJob plan j × (dining s j ≡ Eating) × (drinking s j ≢ Thirsty) × IsMarkedAll plan s j
-- a thirsty job with a mark on every bottle that it needs drinks
May plan s (Drink j) = IsJob plan j × (drinking s j ≡ Thirsty) × HasNeeded plan s j
-- a drinking job with a command left reaches for its instrument's log
May plan s (Reach j) = IsJob plan j × (drinking s j ≡ Drinks) × (position s j < length (session_commands plan s j))
-- a reaching job does its command
May plan s (Act j) = IsJob plan j × (drinking s j ≡ Reaching)
-- a drinking job with no command left ends its session
May plan s (Quit j) = IsJob plan j × (drinking s j ≡ Drinks) × (length (session_commands plan s j) ≤ position s j)
-- a thinking, tranquil job with no session left retires
May plan s (Retire j) = IsJob plan j × (dining s j ≡ Thinking) × (drinking s j ≡ Tranquil) × (length (sessions plan j) ≤ session s j)
-- a glance at another job sees how far it is
May plan s (Glance j other seen) = IsJob plan j × IsJob plan other × (other ≢ j) × (seen ≡ phase s other)
-- a thirsty job whose session has a patience gives it up
May plan s (Withdraw j) = IsJob plan j × (drinking s j ≡ Thirsty) × IsSome (patience plan j (session s j))

-- ---- the state after it

-- the state with another edge e, or another seat of job j; all else is the same
abbrev pub with_edge : State → ℕ → EdgeState → State
with_edge s e x = record s { edges = slice_set s.edges e x }

abbrev pub with_seat : State → ℕ → Seat → State
with_seat s j x = record s { seats = slice_set s.seats j x }

-- the state in which job j is so far
abbrev pub with_phase : State → ℕ → JobState → State
with_phase s j phase = with_seat s j (record (seat s j) { phase = phase })

-- the seat with this fork mark, or these bottle marks, for edge e
abbrev pub with_fork_mark : Seat → ℕ → Bool → Seat
with_fork_mark x e mark = record x { fork_marks = slice_set x.fork_marks e mark }

abbrev pub with_bottle_marks : Seat → ℕ → ℕ → Seat
with_bottle_marks x e marks = record x { bottle_marks = slice_set x.bottle_marks e marks }

-- the seat in which the job dines so, without any fork mark
abbrev pub turned_to : Seat → Dining → Seat
turned_to x dining = record x { phase = record x.phase { dining = dining }; fork_marks = replicate (length x.fork_marks) false }

-- whether a thing is at this end
abbrev pub is_at : End → End → Bool
is_at Lower Lower = true
is_at Higher Higher = true
is_at Lower Higher = false
is_at Higher Lower = false

-- what a look sets the fork mark to: of an eating job "fork here and dirty", of another "fork here, clean or without its token"
unfoldable pub fork_mark_seen : Dining → End → EdgeState → Bool
fork_mark_seen Eating here x = is_at here x.fork && x.dirty
fork_mark_seen Thinking here x = is_at here x.fork && (not x.dirty || not (is_at here x.token))
fork_mark_seen Hungry here x = is_at here x.fork && (not x.dirty || not (is_at here x.token))

-- the job's next command: an instrument and a verb
abbrev pub next_command : LabPlan → State → ℕ → ℕ × Verb
next_command plan s j = command_at plan j (session s j) (position s j)

-- the entry of a job's command at a position of a session, after these entries in the log of its instrument:
-- where it stands in its session's part on the instrument, and the dial after it
abbrev pub entry_after : LabPlan → ℕ → ℕ → ℕ → List Entry → Entry
entry_after plan j n k entries = record {
  job = j;
  session = n;
  place = place_at plan j n k;
  length = length_at plan j n k;
  verb = (command_at plan j n k).1;
  value = turned (command_at plan j n k).1 (dial entries);
}

-- the entry of the job's next command
unfoldable pub next_entry : LabPlan → State → ℕ → Entry
next_entry plan s j = entry_after plan j (session s j) (position s j) (log s (next_command plan s j).0)

-- the state with one more entry at the end of log i
abbrev pub with_entry : State → ℕ → Entry → State
with_entry s i entry = record s { logs = slice_set s.logs i (log s i ++ entry ∷ []) }

-- what each exchange makes of its edge: the fork's token moves; the fork moves and is cleaned; it is soiled;
-- the tokens of a set of bottles move; the bottles of a set move
abbrev pub fork_asked : EdgeState → EdgeState
fork_asked x = record x { token = opposite x.token }

abbrev pub fork_given : EdgeState → EdgeState
fork_given x = record x { fork = opposite x.fork; dirty = false }

abbrev pub fork_soiled : EdgeState → EdgeState
fork_soiled x = record x { dirty = true }

abbrev pub bottles_asked : ℕ → EdgeState → EdgeState
bottles_asked set x = record x { bottle_tokens = bit_xor x.bottle_tokens set }

abbrev pub bottles_given : ℕ → EdgeState → EdgeState
bottles_given set x = record x { bottles = bit_xor x.bottles set }

abbrev pub after : LabPlan → State → Event → State
-- the marks for the edge are set or cleared by what was seen; the bottle marks are exactly the bottles here
after plan s (Look j e seen) =
    let x = seat s j in
    let here = end_of plan j e in
    with_seat s j (with_bottle_marks (with_fork_mark x e (fork_mark_seen x.phase.dining here seen)) e (bottles_at plan e here seen))
-- the token goes there
after plan s (AskFork j e) = with_edge s e (fork_asked (edge s e))
-- the fork goes there and is cleaned; its mark is cleared
after plan s (GiveFork j e) = with_seat (with_edge s e (fork_given (edge s e))) j (with_fork_mark (seat s j) e false)
-- the fork is dirty; its mark is set
after plan s (Soil j e) = with_seat (with_edge s e (fork_soiled (edge s e))) j (with_fork_mark (seat s j) e true)
-- those tokens go there
after plan s (AskBottles j e set) = with_edge s e (bottles_asked set (edge s e))
-- those bottles go there; their marks are cleared
after plan s (GiveBottles j e set) =
    let marks = bottle_marks s j e in
    with_seat (with_edge s e (bottles_given set (edge s e))) j (with_bottle_marks (seat s j) e (bit_xor marks (bit_and marks set)))
-- thirsty, in the next session, at its first command
after plan s (Thirst j) = with_phase s j (record (phase s j) { drinking = Thirsty; session = session s j + 1; position = 0 })
after plan s (Hunger j) = with_phase s j (record (phase s j) { dining = Hungry })
-- a meal starts and ends without fork marks
after plan s (Sit j) = with_seat s j (turned_to (seat s j) Eating)
after plan s (Leave j) = with_seat s j (turned_to (seat s j) Thinking)
after plan s (Drink j) = with_phase s j (record (phase s j) { drinking = Drinks })
after plan s (Reach j) = with_phase s j (record (phase s j) { drinking = Reaching })
-- the entry of the next command goes to the end of its log; one more command is done
after plan s (Act j) =
    with_phase (with_entry s (next_command plan s j).0 (next_entry plan s j)) j (record (phase s j) { drinking = Drinks; position = position s j + 1 })
after plan s (Quit j) = with_phase s j (record (phase s j) { drinking = Tranquil; position = 0 })
after plan s (Retire j) = with_phase s j (record (phase s j) { drinking = Retired })
-- nothing changes
after plan s (Glance j other seen) = s
after plan s (Withdraw j) = with_phase s j (record (phase s j) { drinking = Tranquil; position = 0 })

-- from s, the event is legal and leads to s'
pub record IsLegal (plan : LabPlan) (s : State) (event : Event) (s' : State) : Type 0 where
  pub may : May plan s event
  pub leads : s' ≡ after plan s event
