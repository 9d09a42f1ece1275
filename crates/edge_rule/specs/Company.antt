-- Desks that meet.
use Rattle.std.specs.Prelude.{◌≡◌, ◌≢◌, ℕ, List, [], ◌∷◌, ◌++◌, map}
use Rattle.legal_steps.specs.declared.event.Event.{Event}
use Rattle.turns.specs.History.{IsHistory, events_by}
use Rattle.turns.specs.Lists.{StartsWith, Each}
use Rattle.edge_rule.specs.DeskView.{DeskView}

abbrev pub jobs_of : List DeskView → List ℕ
jobs_of desks = map (λ (d : DeskView). d.job) desks

abbrev pub Distinct : List ℕ → Type 0
Distinct [] = Unit {0}
Distinct (j ∷ js) = Each (λ (k : ℕ). k ≢ j) js × Distinct js

-- Nothing was done, but the history that d has seen is now as long as any of these desks saw, and has every record whole
pub record Hears (d : DeskView) (others : List DeskView) (e : DeskView) : Type 0 where
  pub table : e.table ≡ d.table
  pub clock : e.clock ≡ d.clock
  pub plan : e.plan ≡ d.plan
  pub job : e.job ≡ d.job
  pub deeds : e.deeds ≡ d.deeds
  pub groups : e.groups ≡ d.groups
  pub more : List Event
  pub front : e.front ≡ d.front ++ more
  pub legal : IsHistory e.plan e.front
  pub whole : events_by e.job e.front ≡ e.deeds
  pub starts : Each (λ (x : DeskView). StartsWith e.front x.front) others
  pub wholes : Each (λ (x : DeskView). events_by x.job e.front ≡ x.deeds) others

-- The first desk hears of all others, which stay as they are
abbrev pub Met : List DeskView → List DeskView → Type 0
Met [] new = new ≡ []
Met (d ∷ others) new = (e : DeskView) × (new ≡ e ∷ others) × Hears d others e
