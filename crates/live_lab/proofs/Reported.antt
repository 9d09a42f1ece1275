-- The headline holds of the report of a lab.
use Rattle.std.proofs.Common.{◌≡◌, ℕ, ◌+◌, ◌<◌, List, length, replicate, refl, sym, ap, ◌∙◌, subst, arith}
use Rattle.std.proofs.lemmas.List.{length-replicate, get_or-replicate}
use Rattle.lab_plan.specs.LabPlan.{LabPlan}
use Rattle.legal_steps.specs.declared.counts.Counts.{Counts}
use Rattle.legal_steps.specs.declared.event.Event.{Event}
use Rattle.legal_steps.specs.State.{State}
use Rattle.legal_steps.specs.Opening.{the_opening}
use Rattle.legal_steps.specs.Counting.{no_counts, counts_of}
use Rattle.interleaving.specs.Counting.{both_counts, GoOnBy, AreCountsOf}
use Rattle.interleaving.specs.Kept.{no_kept, after_kept}
use Rattle.interleaving.specs.Start.{at_start}
use Rattle.interleaving.specs.World.{WorldView, IsReachedBy, LeadsTo}
use Rattle.report.specs.Events.{IsReportOfEvents}
use Rattle.headline.specs.Headline.{HoldsOfEveryRun}
use Rattle.lab_program.specs.declared.faults.Outcome.{Outcome}
use Rattle.lab_program.specs.Reports.{outcome_of}
use Rattle.live_lab.specs.declared.clock.Clock.{Clock}
use Rattle.live_lab.specs.Labs.{IsLab}
use Rattle.live_lab.specs.Prints.{IsPrint, HasReport}

-- ---- what was done since the start

none_yet : (x : Counts) → x ≡ both_counts no_counts x
none_yet x = λ i. record { meals = plus x.meals i; sessions_done = plus x.sessions_done i; withdrawn = plus x.withdrawn i }
  where
    plus : (n : ℕ) → n ≡ 0 + n
    plus n = omega arith

go_on : (plan : LabPlan) (events : List Event) (counts : List Counts) → AreCountsOf plan events counts → GoOnBy (replicate (length plan.jobs) no_counts) events counts
go_on plan events counts are =
    let n = length plan.jobs in
    let many : length (replicate n no_counts) ≡ n = length-replicate n no_counts in
    record {
      one_each = are.one_each ∙ sym many;
      counted = λ j below. let job : j < n = omega (arith, below, many) in
          are.counted j job ∙ (none_yet (counts_of j events) ∙ ap (λ (x : Counts). both_counts x (counts_of j events)) (sym (get_or-replicate n j no_counts no_counts job)));
    }

-- the same world, as if all its past were a walk that keeps nothing
abbrev walked : WorldView → WorldView
walked w = record w { kept = after_kept no_kept w.past }

walks : (w : WorldView) → IsReachedBy w.plan w.opening w.past w.state w.counts → LeadsTo (at_start w.plan w.opening) w.past (walked w)
walks w by = record {
  run = by.run;
  counted = go_on w.plan w.past w.counts by.counted;
  same_plan = refl;
  goes_on = record { same_opening = refl; more = w.past; past = refl; kept = refl };
}

pub has_report : IsReportOfEvents → HoldsOfEveryRun → (w : WorldView) (clocks : List Clock) → IsReachedBy w.plan w.opening w.past w.state w.counts
    → IsLab w clocks → (text : List ℕ) (outcome : Outcome) → IsPrint w text outcome → HasReport w.plan text outcome
has_report reports holds w clocks by lab text outcome print =
    told (subst (λ (s : State). IsReachedBy w.plan s w.past w.state w.counts) lab.opening by)
  where
    told : IsReachedBy w.plan (the_opening w.plan) w.past w.state w.counts → HasReport w.plan text outcome
    told b =
        let v : WorldView = record w { opening = the_opening w.plan } in
        let law = reports w.plan (the_opening w.plan) w.past (walked v) (walks v b) in (
          w.past,
          record {
            within_limits = b.is_plan;
            legal = b.run.legal;
            report = print.0 ∙ law.0;
            ends = print.1 ∙ ap outcome_of law.1;
            holds = holds w.plan w.past b.is_plan b.run.legal;
          },
        )
