-- For readers: what is left to do of itself, what is noted of that, and what has to be marked anew after an event.
use Rattle.std.specs.Prelude.{◌≡◌, ◌≢◌, ◌+◌, ℕ, Bool, true, false, List, length, slice_index_or}
use Rattle.lab_plan.specs.LabPlan.{LabPlan, edges}
use Rattle.legal_steps.specs.declared.end.End.{End}
use Rattle.legal_steps.specs.declared.end.End.TheVariants.{Lower, Higher}
use Rattle.legal_steps.specs.declared.event.Event.{Event}
use Rattle.legal_steps.specs.declared.event.Event.TheVariants.{AskFork, GiveFork, Soil, AskBottles, GiveBottles, Hunger, Sit, Leave, Drink}
use Rattle.legal_steps.specs.State.{State, IsOwn, edge, end_of, dining, fork_mark, bottle_marks, bottles_at}
use Rattle.legal_steps.specs.Legal.{May, IsJob, fork_mark_seen}
use Rattle.legal_steps.specs.Run.{IsLegalFrom, after_all, actor}
use Rattle.turns.specs.Due.{IsCalm}
use Rattle.turns.specs.Lists.{Each}

-- the job has nothing to do at its edge: no move is legal there, and a look would change none of its marks: it knows how its fork is, and which
-- bottles it has there
pub record HasNothingAt (plan : LabPlan) (s : State) (j e : ℕ) : Type 0 where
  pub calm : IsCalm plan s j e
  pub looked : fork_mark s j e ≡ fork_mark_seen (dining s j) (end_of plan j e) (edge s e)
  pub knows : bottle_marks s j e ≡ bottles_at plan e (end_of plan j e) (edge s e)

-- the job has nothing to do of itself: nothing at any of its edges, and no act of its own is legal
pub record HasNothingToDo (plan : LabPlan) (s : State) (j : ℕ) : Type 0 where
  pub edges : (e : ℕ) → IsOwn plan j e → HasNothingAt plan s j e
  pub no_drink : ¬ May plan s (Drink j)
  pub no_leave : ¬ May plan s (Leave j)
  pub no_sit : ¬ May plan s (Sit j)
  pub no_hunger : ¬ May plan s (Hunger j)

-- ---- what is noted

-- the jobs that are due: these may have something to do. For each job 0, or 1 more than an edge's number: it may have something to do at that edge only.
-- And a note for each end of each edge, by edge number: whoever is there has nothing to do there
pub record DueView : Type 0 where
  pub jobs : List Bool
  pub only : List ℕ
  pub lower : List Bool
  pub higher : List Bool

abbrev pub is_due : DueView → ℕ → Bool
is_due due j = slice_index_or due.jobs j true

abbrev pub only_at : DueView → ℕ → ℕ
only_at due j = slice_index_or due.only j 0

abbrev pub is_noted : DueView → End → ℕ → Bool
is_noted due Lower e = slice_index_or due.lower e false
is_noted due Higher e = slice_index_or due.higher e false

-- it is of this plan
pub record IsDueOf (plan : LabPlan) (due : DueView) : Type 0 where
  pub jobs_there : length due.jobs ≡ length plan.jobs
  pub only_there : length due.only ≡ length plan.jobs
  pub lower_there : length due.lower ≡ length (edges plan)
  pub higher_there : length due.higher ≡ length (edges plan)

-- whoever isn't due has nothing to do, who may have something to do at one edge only has nothing to do at its others, and what is noted of an end is so
pub record AreMarked (plan : LabPlan) (s : State) (due : DueView) : Type 0 where
  pub of_plan : IsDueOf plan due
  pub others : (j : ℕ) → IsJob plan j → is_due due j ≡ false → HasNothingToDo plan s j
  pub only : (j e x : ℕ) → IsOwn plan j e → only_at due j ≡ x + 1 → e ≢ x → HasNothingAt plan s j e
  pub noted : (j e : ℕ) → IsOwn plan j e → is_noted due (end_of plan j e) e ≡ true → HasNothingAt plan s j e

abbrev pub NobodyIsDue : LabPlan → DueView → Type 0
NobodyIsDue plan due = (j : ℕ) → IsJob plan j → is_due due j ≡ false

-- ---- what has to be marked anew

-- whatever legal events of this kind there are: if all is marked before them, all is after them
abbrev pub KeepsMarks : LabPlan → (Event → Type 0) → DueView → DueView → Type 0
KeepsMarks plan Kind due due' =
    (s : State) (events : List Event) → AreMarked plan s due → IsLegalFrom plan s events → Each Kind events → AreMarked plan (after_all plan s events) due'

-- an event of the job
abbrev pub IsBy : ℕ → Event → Type 0
IsBy j event = actor event ≡ j

-- an event that leaves each edge as it is: all but the five moves
abbrev pub LeavesEdges : Event → Type 0
LeavesEdges (AskFork j e) = ⊥
LeavesEdges (GiveFork j e) = ⊥
LeavesEdges (Soil j e) = ⊥
LeavesEdges (AskBottles j e set) = ⊥
LeavesEdges (GiveBottles j e set) = ⊥
LeavesEdges _ = Unit {0}

-- an event of the job that is none of its moves
abbrev pub IsBySelf : ℕ → Event → Type 0
IsBySelf j event = IsBy j event × LeavesEdges event
