-- A bench that is taken apart: its desks are gathered, and its table is closed.
use Rattle.std.proofs.Common.{◌≡◌, ℕ, List, [], ◌∷◌, ◌++◌, length, sym, ap, ◌∙◌, subst, append_assoc}
use Rattle.atomic_table.specs.Table.{Me, Final, Seen}
use Rattle.lab_plan.specs.LabPlan.{LabPlan}
use Rattle.lab_plan.specs.IsPlan.{IsPlan}
use Rattle.instrument_log.specs.InstrumentLog.{LogView}
use Rattle.legal_steps.specs.declared.counts.Counts.{Counts}
use Rattle.atomic_table.specs.Seated.{TableId}
use Rattle.one_history.specs.declared.board.View.{View}
use Rattle.one_history.specs.Rule.{HasOneHistory}
use Rattle.one_history.specs.Seating.{glued}
use Rattle.turns.specs.Lists.{Each}
use Rattle.turns.proofs.Runs.{each_map}
use Rattle.edge_rule.specs.DeskView.{BenchView, DeskView, Owns}
use Rattle.edge_rule.specs.DeskInside.{view_of, IsDesk}
use Rattle.edge_rule.specs.BenchInside.{bench_of, IsBench}
use Rattle.edge_rule.specs.ClosedView.{ClosedView}
use Rattle.edge_rule.specs.ClosedInside.{AreWords}
use Rattle.edge_rule.specs.Ending.{gathered, HasAll, HasLegalLogs, RestsInGroups, AreCounted, IsEnd}
use Rattle.edge_rule.specs.declared.desk.Desk.TheInside.{Inside}
use Rattle.edge_rule.specs.declared.bench.Bench.TheInside as bench_fields
use Rattle.edge_rule.proofs.Endings.{each_left, each_right, glued_more, rests_now, words_fit, logs_fit, ends}

-- ---- one more desk is gathered: x, the last of those that are left

module _ (all left now done : List DeskView) (x : DeskView) (split : all ≡ left ++ done) (last : left ≡ now ++ x ∷ []) where
  pub last_table : (id : TableId) → Each (λ (d : DeskView). d.table ≡ id) all → x.table ≡ id
  last_table id tables = (each_right (λ (d : DeskView). d.table ≡ id) now (x ∷ [])
      (subst (Each (λ (d : DeskView). d.table ≡ id)) last (each_left (λ (d : DeskView). d.table ≡ id) left done
      (subst (Each (λ (d : DeskView). d.table ≡ id)) split tables)))).0

  pub split_more : all ≡ now ++ x ∷ done
  split_more = split ∙ (ap (λ (l : List DeskView). l ++ done) last ∙ append_assoc now (x ∷ []) done)

module _ {A : Type 0} (d : Inside A) (ok : IsDesk d) (x : DeskView) (view : view_of d ≡ x) (done : List DeskView) where
  pub gathered_more : (was then : Me LogView View) → was ≡ (gathered done, []) → then ≡ (glued was.0 d.seat.me.0, was.1) → then ≡ (gathered (x ∷ done), [])
  gathered_more was then is more = more
      ∙ ((λ i. (glued (is i).0 d.seat.me.0, (is i).1)) ∙ (λ i. ((glued_more done d ok ∙ (λ r. gathered (view r ∷ done))) i, [])))

  pub rest_more : Each RestsInGroups done → Each RestsInGroups (x ∷ done)
  rest_more rests = (subst RestsInGroups view (rests_now d ok), rests)

-- ---- the table is closed

module _ {A : Type 0} (b : bench_fields.Inside A) (x : BenchView) (bench : bench_of b ≡ x) (ok : IsBench b) (desks : List DeskView) (counts : List Counts)
    (owns : Each (Owns x) desks) (all : HasAll x.plan desks) (rests : Each RestsInGroups desks) (counted : AreCounted counts desks)
    (id : ℕ) (m : Me LogView View) (is_m : m ≡ (gathered desks, [])) (words : List ℕ) (logs : List LogView)
    (final : Final (Seen (HasOneHistory b.table.shared.key.plan.value) id m.0) words logs) where
  abbrev p : LabPlan
  p = b.table.shared.key.plan.value

  abbrev shown : ClosedView
  shown = record { plan = b.plan.now; words = words; logs = logs; counts = counts }

  same : p ≡ x.plan
  same = ap (λ (z : BenchView). z.plan) bench

  end : IsEnd p desks shown
  end = ends p id desks shown (sym ok.plan)
      (each_map (Owns x) (λ (d : DeskView). d.plan ≡ p) (λ d o. o.1 ∙ sym same) desks owns)
      (subst (λ (z : LabPlan). HasAll z desks) (sym same) all) rests counted
      (subst (λ (z : Me LogView View). Final (Seen (HasOneHistory p) id z.0) words logs) is_m final)

  pub end_shown : IsEnd x.plan desks shown
  end_shown = subst (λ (z : LabPlan). IsEnd z desks shown) same end

  pub plan_there : IsPlan b.plan.now
  plan_there = subst IsPlan ok.plan ok.is_plan

  pub words_there : AreWords b.plan.now words
  words_there = subst (λ (z : LabPlan). AreWords z words) ok.plan (words_fit p id m.0 words logs final)

  pub logs_there : length logs ≡ length b.plan.now.instruments
  logs_there = logs_fit p id m.0 words logs final ∙ ap (λ (z : LabPlan). length z.instruments) ok.plan

  pub counts_there : length counts ≡ length x.plan.jobs → length counts ≡ length b.plan.now.jobs
  counts_there is = is ∙ ap (λ (z : LabPlan). length z.jobs) (sym same ∙ ok.plan)

  pub legal_logs_there : HasLegalLogs b.plan.now shown
  legal_logs_there = subst (λ (z : LabPlan). HasLegalLogs z shown) ok.plan
      (record { is_plan = end.is_plan; history = end.history; legal = end.legal; logs = end.logs })
