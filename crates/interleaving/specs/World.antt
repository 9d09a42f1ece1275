-- Worlds: a plan, a state of its bench that is reached from an opening, and what each job has done since.
use Rattle.std.specs.Prelude.{◌≡◌, ℕ, List, [], ◌∷◌, ◌++◌, length, take, Result, Ok, Err}
use Rattle.lab_plan.specs.IsPlan.{IsPlan}
use Rattle.lab_plan.specs.LabPlan.{LabPlan}
use Rattle.legal_steps.specs.declared.event.Event.{Event}
use Rattle.legal_steps.specs.declared.event.NotLegal.{NotLegal}
use Rattle.legal_steps.specs.State.{State}
use Rattle.legal_steps.specs.Legal.{May, IsLegal}
use Rattle.legal_steps.specs.Run.{Runs, StopsAt}
use Rattle.legal_steps.specs.Reached.{IsReached}
use Rattle.legal_steps.specs.Opening.{IsOpening}
use Rattle.legal_steps.specs.Precedence.{IsAcyclic}
use Rattle.legal_steps.specs.declared.counts.Counts.{Counts}
use Rattle.interleaving.specs.Counting.{GoOnBy, AreCountsOf}
use Rattle.interleaving.specs.Kept.{TapeView, after_kept}

-- what contracts see of a world
pub record WorldView : Type 0 where
  pub plan : LabPlan
  pub state : State
  pub counts : List Counts
  -- where it began, the events since, and those of them that are kept
  pub opening : State
  pub past : List Event
  pub kept : TapeView

-- the state is reached, and the counts are those of the events that lead there
pub record IsReachedWith (plan : LabPlan) (s : State) (counts : List Counts) : Type 0 where
  pub reached : IsReached plan s
  pub counted : AreCountsOf plan reached.events counts

-- the past leads from the opening to the state, and the counts are those of the past
pub record IsReachedBy (plan : LabPlan) (opening : State) (past : List Event) (s : State) (counts : List Counts) : Type 0 where
  pub is_plan : IsPlan plan
  pub is_opening : IsOpening plan opening
  pub acyclic : IsAcyclic plan opening
  pub run : Runs plan opening past s
  pub counted : AreCountsOf plan past counts

-- a world goes on by these events: where it began stays, its past grows by them, and they are kept where there is room
pub record GoesOnBy (old : WorldView) (events : List Event) (new : WorldView) : Type 0 where
  pub same_opening : new.opening ≡ old.opening
  pub past : new.past ≡ old.past ++ events
  pub kept : new.kept ≡ after_kept old.kept events

-- and by some events
pub record GoesOn (old new : WorldView) : Type 0 where
  pub same_opening : new.opening ≡ old.opening
  pub more : List Event
  pub past : new.past ≡ old.past ++ more
  pub kept : new.kept ≡ after_kept old.kept more

-- from one world to the next by a legal list of events
pub record LeadsTo (old : WorldView) (events : List Event) (new : WorldView) : Type 0 where
  pub run : Runs old.plan old.state events new.state
  pub counted : GoOnBy old.counts events new.counts
  pub same_plan : new.plan ≡ old.plan
  pub goes_on : GoesOn old new

-- an event: Ok if it is legal, and it is done; otherwise nothing changes
abbrev pub Steps : WorldView → Event → Result (Unit {0}) NotLegal → WorldView → Type 0
Steps old event (Ok done) new =
    IsLegal old.plan old.state event new.state × GoOnBy old.counts (event ∷ []) new.counts × (new.plan ≡ old.plan) × GoesOnBy old (event ∷ []) new
Steps old event (Err refused) new = (¬ May old.plan old.state event) × (new ≡ old)

-- a list of events: Ok with their number if all are legal; else the place of the first that isn't, with those before it done
abbrev pub Replays : WorldView → List Event → Result ℕ (ℕ × NotLegal) → WorldView → Type 0
Replays old events (Ok count) new = (count ≡ length events) × LeadsTo old events new × GoesOnBy old events new
Replays old events (Err stop) new =
    StopsAt old.plan old.state events stop.0 new.state × LeadsTo old (take stop.0 events) new × GoesOnBy old (take stop.0 events) new
