use Rattle.std.proofs.Common.{◌≡◌, List, [], ℕ, length, sym, ap, ◌∙◌, subst}
use Rattle.atomic_table.specs.Table.{opening}
use Rattle.lab_plan.specs.LabPlan.{LabPlan}
use Rattle.lab_plan.specs.IsPlan.{IsPlan}
use Rattle.legal_steps.specs.declared.event.Event.{Event}
use Rattle.legal_steps.specs.Opening.{the_opening}
use Rattle.one_history.specs.Rule.{first_view, word_count, Spelled, HasOneHistory}
use Rattle.one_history.proofs.Seats.{opens, fresh_homed}
use Rattle.edge_rule.proofs.OpenedDesks.{logs_there, logs_at}
use Rattle.edge_rule.specs.DeskView.{fresh_desks}
use Rattle.edge_rule.proofs.open.opened.Goals as goal

pub new-made-requires : goal.new-made-requires
new-made-requires g0 c = let p = c.args.plan.now in
    let start : (p, []) ≡ (c.of.result.value, c.none.result.events) = λ i. (sym c.of.ensures i, sym c.none.ensures i) in
    subst (λ (z : LabPlan × List Event). HasOneHistory z.0 (opening c.as_slice.result.now c.in_ok-logs.logs.items (first_view z.0 z.1))) start
    (opens p [] c.as_slice.result.now c.in_ok-logs.logs.items c.jobs.ensures.plan tt
    (subst (λ (z : List ℕ). Spelled p (the_opening p) z) (sym c.as_slice.ensures.value) c.in_ok-words.ensures)
    (fresh_homed p c.in_ok-logs.logs.items (logs_there p c.in_ok-logs.logs.items c.in_ok-logs.ensures)
    (logs_at p c.in_ok-logs.logs.items c.in_ok-logs.ensures)))

pub invariant_of-bench : goal.invariant_of-bench
invariant_of-bench g0 c = let p = c.args.plan.now in let t = c.in-Ok.ensures.ok in
    let key : c.in-Ok.table.shared.key.plan.value ≡ p = (λ i. (t.5 i).plan.value) ∙ c.of.ensures in
    record {
      plan = key;
      is_plan = subst IsPlan (sym key) c.jobs.ensures.plan;
      words = t.0 ∙ (ap length c.as_slice.ensures.value ∙ (c.in_ok-words.ensures.wide ∙ ap word_count (sym key)));
      slots = t.1 ∙ (logs_there p c.in_ok-logs.logs.items c.in_ok-logs.ensures ∙ ap (λ (z : LabPlan). length z.instruments) (sym key));
    }

pub deal-requires : goal.deal-requires
deal-requires g0 c = let t = c.in-Ok.ensures.ok in let p = c.args.plan.now in
    record {
      table = ((λ i. (t.5 i).plan.value) ∙ c.of.ensures, t.2, t.0 ∙ (ap length c.as_slice.ensures.value ∙ c.in_ok-words.ensures.wide));
      past = (λ i. (t.5 i).past.events) ∙ c.none.ensures;
      left = t.4 ∙ (λ i. (first_view (c.of.ensures i) (c.none.ensures i), []));
    }

pub returns : goal.returns
returns g0 c = let t = c.in-Ok.ensures.ok in let p = c.args.plan.now in
    ((λ i. (t.5 i).plan.value) ∙ c.of.ensures, c.in_ok-desks.ensures.desks ∙ ap (λ i. fresh_desks i p (length p.jobs)) t.2)
