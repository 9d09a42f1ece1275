-- What is shown of a world.
use Rattle.legal_steps.specs.State.{log, drinking}
use Rattle.interleaving.specs.World.{WorldView}
use Rattle.interleaving.specs.Counting.{count_at}
use Rattle.report.specs.Report.{Shown}

-- its logs, what each job drinks, and what each job has done
abbrev pub shown_by : WorldView → Shown
shown_by world = record {
  log = log world.state;
  drinking = drinking world.state;
  sessions_done = λ j. (count_at world.counts j).sessions_done;
  withdrawn = λ j. (count_at world.counts j).withdrawn;
  meals = λ j. (count_at world.counts j).meals;
}
