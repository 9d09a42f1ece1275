-- What a desk has seen goes to another desk.
use Rattle.std.specs.Prelude.{◌≡◌, ◌++◌, List}
use Rattle.atomic_table.specs.Seated.{TableId}
use Rattle.legal_steps.specs.declared.event.Event.{Event}
use Rattle.turns.specs.History.{IsHistory, events_by}
use Rattle.turns.specs.Lists.{StartsWith}
use Rattle.edge_rule.specs.DeskView.{DeskView}

pub record NewsView : Type 0 where
  pub table : TableId
  pub front : List Event

-- Nothing was done, but the history that d has seen now begins with these news too, and has the record whole
pub record Heard (d : DeskView) (news : List Event) (e : DeskView) : Type 0 where
  pub table : e.table ≡ d.table
  pub clock : e.clock ≡ d.clock
  pub plan : e.plan ≡ d.plan
  pub job : e.job ≡ d.job
  pub deeds : e.deeds ≡ d.deeds
  pub groups : e.groups ≡ d.groups
  pub more : List Event
  pub front : e.front ≡ d.front ++ more
  pub starts : StartsWith e.front news
  pub legal : IsHistory e.plan e.front
  pub whole : events_by e.job e.front ≡ e.deeds
