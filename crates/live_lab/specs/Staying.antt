-- For readers: who holds goes on to hold.
use Rattle.std.specs.Prelude.{◌≡◌, ◌≢◌, ℕ, Bool, List, Result}
use Rattle.lab_plan.specs.LabPlan.{SessionPlan}
use Rattle.legal_steps.specs.State.{IsDrinking, phase, session}
use Rattle.interleaving.specs.declared.add_refusal.AddRefusal.{AddRefusal}
use Rattle.session_layer.specs.declared.turning.Turned.{Turned}
use Rattle.live_lab.specs.declared.additions.NotAdded.{NotAdded}
use Rattle.live_lab.specs.declared.end.Release.{Release}
use Rattle.live_lab.specs.declared.settle.Came.{Came}
use Rattle.live_lab.specs.Labs.{LabView}
use Rattle.live_lab.specs.Adding.{LabAdds, AddsText}
use Rattle.live_lab.specs.Calls.{TakesTurn, Withdraws, Skips}
use Rattle.live_lab.specs.Ends.{EndsSession}
use Rattle.live_lab.specs.Settles.{Settles}

-- the job goes on to hold, if it holds, in the same session
abbrev pub HoldsOn : ℕ → LabView → LabView → Type 0
HoldsOn j old new = IsDrinking (phase old.world.state j) → IsDrinking (phase new.world.state j) × (session new.world.state j ≡ session old.world.state j)

-- A job holds on over each of these calls: over a settle, whomever it names; over sessions that come, that begin, that are given up or skipped, of whatever
-- job; and over the end of another job's session, and another job's turn
pub record HoldsOver (j : ℕ) : Type 0 where
  pub settles : (waiting : ℕ) (old : LabView) (came : Came) (new : LabView) → Settles waiting old came new → HoldsOn j old new
  pub comes : (plan : SessionPlan) (k : ℕ) (old : LabView) (answer : Result (Unit {0}) AddRefusal) (new : LabView) → LabAdds plan k old answer new
      → HoldsOn j old new
  pub come : (text : List ℕ) (k : ℕ) (old : LabView) (answer : Result (Unit {0}) NotAdded) (new : LabView) → AddsText text k old answer new → HoldsOn j old new
  pub withdraws : (k : ℕ) (old : LabView) (answer : Bool) (new : LabView) → Withdraws k old answer new → HoldsOn j old new
  pub skips : (k : ℕ) (old : LabView) (answer : Bool) (new : LabView) → Skips k old answer new → HoldsOn j old new
  pub ends : (k : ℕ) (old : LabView) (answer : Release) (new : LabView) → k ≢ j → EndsSession k old answer new → HoldsOn j old new
  pub turns : (k : ℕ) (old : LabView) (answer : Turned) (new : LabView) → k ≢ j → TakesTurn k old answer new → HoldsOn j old new

-- and so does each job
abbrev pub HoldersStay : Type 0
HoldersStay = (j : ℕ) → HoldsOver j
