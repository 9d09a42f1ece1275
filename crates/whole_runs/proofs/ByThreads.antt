-- A run by threads, from what the workers did and what closing the bench gives.
use Rattle.std.proofs.Common.{◌≡◌, ◌≢◌, ℕ, ◌≤◌, Bool, true, false, List, length, refl, sym, ap, ◌∙◌, subst}
use Rattle.atomic_table.specs.Seated.{TableId}
use Rattle.lab_plan.specs.LabPlan.{LabPlan}
use Rattle.legal_steps.specs.declared.event.Event.{Event}
use Rattle.legal_steps.specs.Opening.{the_opening}
use Rattle.turns.specs.Turns.{Stands, but_glances}
use Rattle.edge_rule.specs.DeskView.{DeskView, BenchView, fresh_desk}
use Rattle.edge_rule.specs.ClosedView.{ClosedView}
use Rattle.edge_rule.specs.Ending.{Any, IsEnd}
use Rattle.report.specs.Events.{retired_after}
use Rattle.rounds.specs.Company.{first_front, all_retired}
use Rattle.turns.specs.AtTheEnd.{AllRetired}
use Rattle.rounds.proofs.Driven.{all_of}
use Rattle.rounds.proofs.Reasons.{retired_then}
use Rattle.rounds.specs.FromOpening.{opened}
use Rattle.rounds.proofs.Fresh.{each_any, fresh_one}
use Rattle.rounds.specs.declared.ended.Ended.{Ended}
use Rattle.rounds.specs.declared.ended.Ended.TheVariants as reasons
use Rattle.workers.specs.Driven.{Driven, Threaded}
use Rattle.workers.specs.Closed.{TurnsSince, TurnsInHistory}
use Rattle.whole_runs.specs.Turns.{TakesTurns, TakeTurns}
use Rattle.whole_runs.specs.Runs.{IsRunByTurns}
use Rattle.whole_runs.proofs.InRounds.{same_history}
use Rattle.whole_runs.proofs.Ends.{taken, shows, not_retired}

-- since the opening
takes : (t : TableId) (plan : LabPlan) (h : List Event) (j n : ℕ) → TurnsSince n (fresh_desk t plan j) h → TakesTurns plan h j n
takes t plan h j n s = taken plan h j n s.waited s.groups s.grouped (ap but_glances s.events ∙ s.all)
    (subst (Stands plan (the_opening plan) s.groups) (sym s.goes_on) s.unbroken)

module _ (law : TurnsInHistory) (b : BenchView) (turns : ℕ) (desks : List DeskView)
    (c : ClosedView) (driven : Driven b turns (opened b) desks) (end : IsEnd b.plan desks c) where
  -- where a job isn't retired in the history, the desks say so
  desks_too : retired_after b.plan (the_opening b.plan) end.history ≡ false → all_retired desks ≡ false
  desks_too so = by (all_retired desks) refl where
    by : (r : Bool) → all_retired desks ≡ r → all_retired desks ≡ false
    by true is = absurd (not_retired b.plan end.history so (subst (AllRetired b.plan) (sym (same_history b desks c end driven.all driven.company.whole))
        (retired_then b (first_front desks) desks driven.company (all_of b.plan desks driven.all) is)))
    by false is = is

  takes_turns : TakeTurns b.plan end.history turns (retired_after b.plan (the_opening b.plan) end.history)
  takes_turns j inside =
      let found =
      each_any
      (λ (e : DeskView). Any
      (λ (d : DeskView). (e.job ≡ d.job) × ((n : ℕ) × (n ≤ turns) × (all_retired desks ≡ false → n ≡ turns) × TurnsSince n d end.history))
      (opened b)) (λ (e : DeskView). e.job ≡ j) desks (law b turns (opened b) desks c driven end) (driven.all.every j inside) in
      let (k, (same, (n, most, full, since))) =
      fresh_one b.table b.plan (length b.plan.jobs)
      (λ (d : DeskView). (found.0.job ≡ d.job) × ((n : ℕ) × (n ≤ turns) × (all_retired desks ≡ false → n ≡ turns) × TurnsSince n d end.history))
      found.1 in
      (n, most, (λ so. full (desks_too so)), subst (λ i. TakesTurns b.plan end.history i n) (sym same ∙ found.2) (takes b.table b.plan end.history k n since))

  pub ran_by_turns : IsRunByTurns b.plan turns c
  ran_by_turns = record {
    of_plan = end.plan;
    within_limits = end.is_plan;
    history = end.history;
    legal = end.legal;
    shows = shows b.plan desks c end;
    takes_turns = takes_turns;
  }

-- where there was memory, the desks were driven
pub driven : (b : BenchView) (turns : ℕ) (old new : List DeskView) (ended : Ended)
    → ended ≢ reasons.NoMemory → Threaded b turns old ended new → Driven b turns old new
driven b turns old new reasons.NoMemory other t = absurd (other refl)
driven b turns old new reasons.AllRetired other t = t.0
driven b turns old new reasons.Limit other t = t.0
driven b turns old new reasons.Quiet other t = absurd t
