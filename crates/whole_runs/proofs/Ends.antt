-- What a bench that was closed shows is what its history leads to.
use Rattle.std.proofs.Common.{◌≡◌, ◌≢◌, ℕ, zero, suc, ◌+◌, ◌<◌, Bool, true, false, ◌&&◌, List, length, arith, refl, sym, ap, ◌∙◌}
use Rattle.std.specs.List.{list_all, range_with_len}
use Rattle.lab_plan.specs.LabPlan.{LabPlan}
use Rattle.instrument_log.specs.InstrumentLog.{LogView}
use Rattle.legal_steps.specs.declared.event.Event.{Event}
use Rattle.legal_steps.specs.declared.phase.JobState.{JobState}
use Rattle.legal_steps.specs.Opening.{the_opening}
use Rattle.turns.specs.History.{events_by}
use Rattle.turns.specs.Patience.{Waited, no_wait}
use Rattle.turns.specs.Turns.{Group, AreGrouped, Stands, flat, but_glances}
use Rattle.edge_rule.specs.DeskView.{DeskView}
use Rattle.edge_rule.specs.ClosedView.{ClosedView}
use Rattle.legal_steps.specs.declared.counts.Counts.{Counts}
use Rattle.edge_rule.specs.Ending.{IsEnd}
use Rattle.report.specs.Report.{is_retired, jobs}
use Rattle.report.specs.Events.{ShowsAlike, shown_after, retired_after}
use Rattle.turns.specs.AtTheEnd.{AllRetired}
use Rattle.whole_runs.specs.Shown.{shown_in}
use Rattle.whole_runs.specs.Turns.{TakesTurns}

module _ (plan : LabPlan) (desks : List DeskView) (c : ClosedView) (end : IsEnd plan desks c) where
  pub shows : ShowsAlike plan (shown_in c) (shown_after plan (the_opening plan) end.history)
  shows = record {
    log = λ i inside. ap (λ (l : LogView). l.entries) (end.logs i inside);
    drinking = λ j inside. ap (λ (x : JobState). x.drinking) (end.phases j inside);
    sessions_done = λ j inside. ap (λ (x : Counts). x.sessions_done) (end.counts j inside);
    withdrawn = λ j inside. ap (λ (x : Counts). x.withdrawn) (end.counts j inside);
    meals = λ j inside. ap (λ (x : Counts). x.meals) (end.counts j inside);
  }

-- ---- all jobs are retired

all_in_range : (f : ℕ → Bool) (n start : ℕ) → ((k : ℕ) → k < start + n → f k ≡ true) → list_all f (range_with_len start n) ≡ true
all_in_range f zero start holds = refl
all_in_range f (suc n) start holds = λ i. holds start (omega arith) i && all_in_range f n (start + 1) (λ k less. holds k (omega (arith, less))) i

pub retired_where : (plan : LabPlan) (h : List Event) → AllRetired plan h → retired_after plan (the_opening plan) h ≡ true
retired_where plan h are =
    all_in_range (λ j. is_retired ((shown_after plan (the_opening plan) h).drinking j))
    (length plan.jobs) 0 (λ j less. ap is_retired (are j (omega (arith, less))))

not_both : (b : Bool) → b ≡ true → b ≢ false
not_both b is so = let both : true ≡ false = sym is ∙ so in absurd (cc)

-- where one is not retired, not all are
pub not_retired : (plan : LabPlan) (h : List Event) → retired_after plan (the_opening plan) h ≡ false → AllRetired plan h → ⊥
not_retired plan h so are = not_both (retired_after plan (the_opening plan) h) (retired_where plan h are) so

-- ---- turns

-- turns as groups are turns one after another
pub taken : (plan : LabPlan) (h : List Event) (j n : ℕ) (waited : Waited) (groups : List Group)
    → AreGrouped plan j n no_wait (the_opening plan) groups waited → but_glances (events_by j h) ≡ flat groups
    → Stands plan (the_opening plan) groups h → TakesTurns plan h j n
taken plan h j n waited groups grouped together unbroken = record {
  waited = waited;
  groups = groups;
  grouped = grouped;
  together = together;
  unbroken = unbroken;
}
