-- For readers: the state of a bench: where the things of each edge are, what each job does and knows, and each instrument's log.
use Rattle.std.specs.Prelude.{◌≡◌, ◌⊎◌, ℕ, ◌-◌, ◌^◌, ◌<◌, Bool, true, false, List, [], length, slice_index_or, bit_and, bit_xor, if◌then◌else◌, ◌==◌}
use Rattle.std.specs.Int.{bit_at}
use Rattle.lab_plan.specs.LabPlan.{LabPlan, edges, ends, bottles}
use Rattle.instrument_log.specs.declared.entry.Entry.{Entry}
use Rattle.legal_steps.specs.declared.end.End.{End}
use Rattle.legal_steps.specs.declared.end.End.TheVariants.{Lower, Higher}
use Rattle.legal_steps.specs.declared.phase.Dining.{Dining}
use Rattle.legal_steps.specs.declared.phase.Dining.TheVariants.{Thinking}
use Rattle.legal_steps.specs.declared.phase.Drinking.{Drinking}
use Rattle.legal_steps.specs.declared.phase.Drinking.TheVariants.{Tranquil, Thirsty, Drinking as Drinks, Reaching}
use Rattle.legal_steps.specs.declared.edge_state.EdgeState.{EdgeState}
use Rattle.legal_steps.specs.declared.phase.JobState.{JobState}

-- what one job does and knows: how far it is, and its marks, each list by edge number
pub record Seat : Type 0 where
  pub phase : JobState
  pub fork_marks : List Bool
  pub bottle_marks : List ℕ

-- the whole bench: its edges, its jobs and its logs, each by number
pub record State : Type 0 where
  pub edges : List EdgeState
  pub seats : List Seat
  pub logs : List (List Entry)

-- a plan with a state of its bench
pub record Setting : Type 0 where
  pub plan : LabPlan
  pub state : State

-- ---- sets of bottles

-- a set of bottles is a number, in which bit k says that bottle k is a member
unfoldable pub Has : ℕ → ℕ → Type 0
Has set k = bit_at set k ≡ 1

-- all bottles of an edge
abbrev pub all_bottles : LabPlan → ℕ → ℕ
all_bottles plan e = 2 ^ length (bottles plan e) - 1

-- the set names bottles of the edge alone
abbrev pub IsOfEdge : LabPlan → ℕ → ℕ → Type 0
IsOfEdge plan e set = set < 2 ^ length (bottles plan e)

-- ---- what is read of a state

-- a job before its first event
abbrev pub idle_phase : JobState
idle_phase = record { dining = Thinking; drinking = Tranquil; session = 0; position = 0 }

-- what is read at a number that is none of the plan's; no event reads it
abbrev pub no_edge : EdgeState
no_edge = record { fork = Lower; dirty = true; token = Higher; bottles = 0; bottle_tokens = 0 }

abbrev pub no_seat : Seat
no_seat = record { phase = idle_phase; fork_marks = []; bottle_marks = [] }

-- edge e, the seat of job j, and the log of instrument i
abbrev pub edge : State → ℕ → EdgeState
edge s e = slice_index_or s.edges e no_edge

abbrev pub seat : State → ℕ → Seat
seat s j = slice_index_or s.seats j no_seat

abbrev pub log : State → ℕ → List Entry
log s i = slice_index_or s.logs i []

-- the fork of edge e, whether it is dirty, and its request token
abbrev pub fork : State → ℕ → End
fork s e = (edge s e).fork

abbrev pub is_dirty : State → ℕ → Bool
is_dirty s e = (edge s e).dirty

abbrev pub token : State → ℕ → End
token s e = (edge s e).token

-- what job j does, and how far it is
abbrev pub phase : State → ℕ → JobState
phase s j = (seat s j).phase

abbrev pub dining : State → ℕ → Dining
dining s j = (seat s j).phase.dining

abbrev pub drinking : State → ℕ → Drinking
drinking s j = (seat s j).phase.drinking

abbrev pub session : State → ℕ → ℕ
session s j = (seat s j).phase.session

abbrev pub position : State → ℕ → ℕ
position s j = (seat s j).phase.position

-- the private marks of job j for edge e
abbrev pub fork_mark : State → ℕ → ℕ → Bool
fork_mark s j e = slice_index_or (seat s j).fork_marks e false

abbrev pub bottle_marks : State → ℕ → ℕ → ℕ
bottle_marks s j e = slice_index_or (seat s j).bottle_marks e 0

-- ---- ends

-- the other end
abbrev pub opposite : End → End
opposite Lower = Higher
opposite Higher = Lower

-- the job that sits at an end of an edge
abbrev pub job_at_end : LabPlan → ℕ → End → ℕ
job_at_end plan e Lower = (ends plan e).0
job_at_end plan e Higher = (ends plan e).1

-- job j's own end of the edge
abbrev pub end_of : LabPlan → ℕ → ℕ → End
end_of plan j e = if (ends plan e).0 == j then Lower else Higher

-- the job at the other end of the edge
abbrev pub neighbour : LabPlan → ℕ → ℕ → ℕ
neighbour plan j e = job_at_end plan e (opposite (end_of plan j e))

-- e is one of the edges of job j
pub record IsOwn (plan : LabPlan) (j e : ℕ) : Type 0 where
  pub is_edge : e < length (edges plan)
  pub at_end : ((ends plan e).0 ≡ j) ⊎ ((ends plan e).1 ≡ j)

-- the members of a set that are not in the other
abbrev pub without : ℕ → ℕ → ℕ
without a b = bit_xor a (bit_and a b)

-- the end at which bottle k is, by the set of those at the higher end
unfoldable pub bottle_end : ℕ → ℕ → End
bottle_end set k = if bit_at set k == 0 then Lower else Higher

-- the bottles that are at this end
unfoldable pub bottles_at : LabPlan → ℕ → End → EdgeState → ℕ
bottles_at plan e Higher x = x.bottles
bottles_at plan e Lower x = bit_xor (all_bottles plan e) x.bottles

-- ---- phases

-- a job is in a session while it is thirsty, drinks or reaches
abbrev pub IsInSession : Drinking → Type 0
IsInSession d = (d ≡ Thirsty) ⊎ (d ≡ Drinks) ⊎ (d ≡ Reaching)

-- it holds the instruments of its session while it drinks or reaches
abbrev pub IsDrinking : JobState → Type 0
IsDrinking phase = (phase.drinking ≡ Drinks) ⊎ (phase.drinking ≡ Reaching)
