-- The turns of desks in the history that closing their bench gives.
use Rattle.std.specs.Prelude.{◌≡◌, ℕ, ◌≤◌, false, List, ◌++◌}
use Rattle.legal_steps.specs.declared.event.Event.{Event}
use Rattle.turns.specs.History.{events_by}
use Rattle.turns.specs.Lists.{Each}
use Rattle.turns.specs.Patience.{Waited}
use Rattle.edge_rule.specs.ClosedView.{ClosedView}
use Rattle.edge_rule.specs.DeskView.{DeskView, BenchView, known, shown, waits}
use Rattle.edge_rule.specs.Ending.{Any, IsEnd}
use Rattle.turns.specs.Turns.{Group, AreGrouped, Stands, flat, but_glances}
use Rattle.rounds.specs.Company.{all_retired}
use Rattle.workers.specs.Driven.{Driven}

-- The history has the desk's record as its job's first events. But for Glances the job's later events are n turns one after another, by what it knew then,
-- and their groups stand unbroken, in this order, in the part of the history that the desk hadn't seen; so an exchange that was due is lost only if its
-- edge was another by then than the look saw
pub record TurnsSince (n : ℕ) (d : DeskView) (history : List Event) : Type 0 where
  pub later : List Event
  pub events : events_by d.job history ≡ d.deeds ++ later
  pub groups : List Group
  pub waited : Waited
  pub grouped : AreGrouped d.plan d.job n (waits d.clock) (known d) groups waited
  pub all : but_glances later ≡ flat groups
  pub more : List Event
  pub goes_on : history ≡ d.front ++ more
  pub unbroken : Stands d.plan (shown d) groups more

-- Of desks that workers drove and a bench that was then closed with them: each job took whole turns in the history, at most this many, and that many if not all
-- are retired
abbrev pub TurnsInHistory : Type 0
TurnsInHistory = (b : BenchView) (turns : ℕ) (old new : List DeskView) (c : ClosedView) → Driven b turns old new → (end : IsEnd b.plan new c)
    → Each
    (λ (e : DeskView). Any
    (λ (d : DeskView). (e.job ≡ d.job) × ((n : ℕ) × (n ≤ turns) × (all_retired new ≡ false → n ≡ turns) × TurnsSince n d end.history)) old) new
