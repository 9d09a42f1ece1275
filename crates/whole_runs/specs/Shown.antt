-- What a bench that was closed shows of its run.
use Rattle.edge_rule.specs.ClosedView.{ClosedView, log_in, phase_in, counts_in}
use Rattle.report.specs.Report.{Shown}

-- its logs, what each job drinks, and what each job has done
abbrev pub shown_in : ClosedView → Shown
shown_in c = record {
  log = λ i. (log_in c i).entries;
  drinking = λ j. (phase_in c j).drinking;
  sessions_done = λ j. (counts_in c j).sessions_done;
  withdrawn = λ j. (counts_in c j).withdrawn;
  meals = λ j. (counts_in c j).meals;
}
