-- For readers: the report as a function of a plan and a list of events that is legal from an opening state.
use Rattle.std.specs.Prelude.{◌≡◌, ◌<◌, ℕ, Bool, List, length}
use Rattle.lab_plan.specs.LabPlan.{LabPlan}
use Rattle.legal_steps.specs.declared.event.Event.{Event}
use Rattle.legal_steps.specs.State.{State, log, drinking}
use Rattle.legal_steps.specs.Run.{after_all, meals_of, sessions_done_of, withdrawn_of}
use Rattle.interleaving.specs.World.{WorldView, LeadsTo}
use Rattle.interleaving.specs.Start.{at_start}
use Rattle.report.specs.Report.{Shown, report_of, all_retired}
use Rattle.report.specs.Worlds.{shown_by}

-- what is shown after some events: the logs and what each job drinks in the state that they lead to, and what each job did in them
abbrev pub shown_after : LabPlan → State → List Event → Shown
shown_after plan opening events = record {
  log = log (after_all plan opening events);
  drinking = drinking (after_all plan opening events);
  sessions_done = λ j. sessions_done_of j events;
  withdrawn = λ j. withdrawn_of j events;
  meals = λ j. meals_of j events;
}

abbrev pub report_after : LabPlan → State → List Event → List ℕ
report_after plan opening events = report_of plan (shown_after plan opening events)

-- every job is retired after the events
abbrev pub retired_after : LabPlan → State → List Event → Bool
retired_after plan opening events = all_retired plan (shown_after plan opening events)

-- the law: a world that some events led to from its start has their report, and its jobs are all retired if they are after these events
abbrev pub IsReportOfEvents : Type 0
IsReportOfEvents = (plan : LabPlan) (opening : State) (events : List Event) (world : WorldView) → LeadsTo (at_start plan opening) events world
    → (report_of world.plan (shown_by world) ≡ report_after plan opening events) × (all_retired world.plan (shown_by world) ≡ retired_after plan opening events)

-- two that show the same of the plan's instruments and jobs
pub record ShowsAlike (plan : LabPlan) (a b : Shown) : Type 0 where
  pub log : (i : ℕ) → i < length plan.instruments → a.log i ≡ b.log i
  pub drinking : (j : ℕ) → j < length plan.jobs → a.drinking j ≡ b.drinking j
  pub sessions_done : (j : ℕ) → j < length plan.jobs → a.sessions_done j ≡ b.sessions_done j
  pub withdrawn : (j : ℕ) → j < length plan.jobs → a.withdrawn j ≡ b.withdrawn j
  pub meals : (j : ℕ) → j < length plan.jobs → a.meals j ≡ b.meals j

-- the law: they have one report, and the jobs of both are all retired or not
abbrev pub HasOneReport : Type 0
HasOneReport = (plan : LabPlan) (a b : Shown) → ShowsAlike plan a b → (report_of plan a ≡ report_of plan b) × (all_retired plan a ≡ all_retired plan b)
