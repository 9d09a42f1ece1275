use Rattle.std.proofs.Common.{◌≡◌, List, [], ℕ, length, sym, ap, ◌∙◌, subst}
use Rattle.atomic_table.specs.Table.{opening}
use Rattle.lab_plan.specs.LabPlan.{LabPlan}
use Rattle.lab_plan.specs.IsPlan.{IsPlan}
use Rattle.legal_steps.specs.declared.event.Event.{Event}
use Rattle.turns.specs.History.{IsHistory, state_after}
use Rattle.one_history.specs.Rule.{first_view, word_count, Spelled, HasOneHistory}
use Rattle.one_history.proofs.Seats.{opens}
use Rattle.edge_rule.specs.Standing.{AllKnownAfter}
use Rattle.edge_rule.proofs.StoodWords.{sessions_few, stood_wide, stood_spelled, stood_homed}
use Rattle.edge_rule.specs.DeskView.{desks_after}
use Rattle.edge_rule.proofs.open_at.set_up.Goals as goal

pub words_of-requires : goal.words_of-requires
words_of-requires g0 c =
    let p = c.args.plan.now in
    let past : List Event = c.args.past.events in
    record {
      edges = stood_wide p past c.args.there.now c.args.known.now c.args.logs.items c.requires;
      jobs = c.requires.one_each;
      few = sessions_few p past c.args.there.now c.args.known.now c.args.logs.items c.jobs.ensures.plan c.requires;
    }

pub new-made-requires : goal.new-made-requires
new-made-requires g0 c =
    let p = c.args.plan.now in
    let past : List Event = c.args.past.events in
    subst (λ (z : LabPlan). HasOneHistory z (opening c.as_slice.result.now c.args.logs.items (first_view z past))) (sym c.of.ensures)
    (opens p past c.as_slice.result.now c.args.logs.items c.jobs.ensures.plan c.requires.legal
    (subst (λ (z : List ℕ). Spelled p (state_after p past) z) (sym c.as_slice.ensures.value)
    (stood_spelled p past c.args.there.now c.args.known.now c.args.logs.items c.in_ok-words.words.items c.requires c.in_ok-words.ensures))
    (stood_homed p past c.args.there.now c.args.known.now c.args.logs.items c.requires))

pub invariant_of-bench : goal.invariant_of-bench
invariant_of-bench g0 c = let p = c.args.plan.now in let t = c.in-Ok.ensures.ok in
    let key : c.in-Ok.table.shared.key.plan.value ≡ p = (λ i. (t.5 i).plan.value) ∙ c.of.ensures in
    record {
      plan = key;
      is_plan = subst IsPlan (sym key) c.jobs.ensures.plan;
      words = t.0 ∙ (ap length c.as_slice.ensures.value ∙ (c.in_ok-words.ensures.edges_written.wide ∙ ap word_count (sym key)));
      slots = t.1 ∙ (c.requires.logs_there ∙ ap (λ (z : LabPlan). length z.instruments) (sym key));
    }

pub deal_known-requires : goal.deal_known-requires
deal_known-requires g0 c = let t = c.in-Ok.ensures.ok in let p = c.args.plan.now in
    let past : c.args.past.events ≡ c.in-Ok.table.shared.key.past.events = λ i. (sym t.5 i).past.events in
    record {
      table = ((λ i. (t.5 i).plan.value) ∙ c.of.ensures, t.2, t.0 ∙ (ap length c.as_slice.ensures.value ∙ c.in_ok-words.ensures.edges_written.wide));
      past = subst (IsHistory p) past c.requires.legal;
      left = t.4 ∙ (λ i. (first_view (c.of.ensures i) (past i), []));
      one_each = c.requires.one_each;
      known = subst (λ (z : List Event). AllKnownAfter p z c.args.known.now) past c.requires.known_there;
    }

pub returns : goal.returns
returns g0 c =
    let t = c.in-Ok.ensures.ok in
    let p = c.args.plan.now in (
      (λ i. (t.5 i).plan.value) ∙ c.of.ensures,
      c.in_ok-desks.ensures ∙ (λ i. desks_after (t.2 i) p ((t.5 i).past.events) (length p.jobs)),
    )
