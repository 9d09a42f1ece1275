-- What a job has done, as it is counted event by event.
use Rattle.std.specs.Prelude.{◌+◌, ◌≤◌}
use Rattle.lab_plan.specs.Limits.{most_sessions}
use Rattle.legal_steps.specs.declared.counts.Counts.{Counts}
use Rattle.one_history.specs.declared.phase_event.PhaseEvent.{PhaseEvent}
use Rattle.one_history.specs.declared.phase_event.PhaseEvent.TheVariants.{Thirst, Hunger, Sit, Leave, Drink, Quit, Retire, Withdraw}

-- the counts after one more event
abbrev pub counted : PhaseEvent → Counts → Counts
counted Thirst x = x
counted Hunger x = x
counted Sit x = record x { meals = x.meals + 1 }
counted Leave x = x
counted Drink x = x
counted Quit x = record x { sessions_done = x.sessions_done + 1 }
counted Retire x = x
counted Withdraw x = record x { withdrawn = x.withdrawn + 1 }

-- each count is at most as many as a job may have sessions
pub record AreFew (x : Counts) : Type 0 where
  pub few_meals : x.meals ≤ most_sessions
  pub few_sessions : x.sessions_done ≤ most_sessions
  pub few_withdrawn : x.withdrawn ≤ most_sessions
