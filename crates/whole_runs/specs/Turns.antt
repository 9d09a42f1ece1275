-- For readers: a run in which each job's events are turns one after another.
use Rattle.std.specs.Prelude.{◌≡◌, ℕ, ◌<◌, ◌≤◌, Bool, false, List, length}
use Rattle.lab_plan.specs.LabPlan.{LabPlan}
use Rattle.legal_steps.specs.declared.event.Event.{Event}
use Rattle.legal_steps.specs.Opening.{the_opening}
use Rattle.turns.specs.History.{events_by}
use Rattle.turns.specs.Patience.{Waited, no_wait}
use Rattle.turns.specs.Turns.{Group, AreGrouped, Stands, flat, but_glances}

-- Job j took n turns in the run: without its Glances its events are these turns, one after another, from what it knows in the initial state on.
-- The groups of events that a turn does at once stand unbroken in the run, in this order. An exchange that was due is lost only if its edge was another by
-- then than the look saw
pub record TakesTurns (plan : LabPlan) (history : List Event) (j n : ℕ) : Type 0 where
  pub waited : Waited
  pub groups : List Group
  pub grouped : AreGrouped plan j n no_wait (the_opening plan) groups waited
  pub together : but_glances (events_by j history) ≡ flat groups
  pub unbroken : Stands plan (the_opening plan) groups history

-- each job took whole turns, at most this many, and exactly that many if the run isn't finished
abbrev pub TakeTurns : LabPlan → List Event → ℕ → Bool → Type 0
TakeTurns plan history most is_finished = (j : ℕ) → j < length plan.jobs → (n : ℕ) × (n ≤ most) × (is_finished ≡ false → n ≡ most) × TakesTurns plan history j n
