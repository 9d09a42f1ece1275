use Rattle.std.proofs.Common.{◌≡◌, ◌+◌, ◌-◌, suc, List, [], ◌∷◌, ◌++◌, length, refl, sym, ap, subst, ◌∙◌, arith}
use Rattle.lab_plan.specs.LabPlan.{LabPlan}
use Rattle.legal_steps.specs.declared.event.Event.{Event}
use Rattle.turns.specs.History.{IsHistory}
use Rattle.one_history.specs.declared.board.View.{View}
use Rattle.one_history.specs.Rule.{fresh}
use Rattle.edge_rule.specs.DeskView.{desk_after, fresh_desks}
use Rattle.edge_rule.specs.Standing.{IsKnownAfter}
use Rattle.one_history.specs.Seating.{undealt}
use Rattle.one_history.proofs.Seats.{undealt_last}
use Rattle.edge_rule.proofs.open.deal.Goals as goal

pub loop-job-init : goal.loop-job-init
loop-job-init g0 c = let p : LabPlan = c.args.plan.now in let whole : length p.jobs ≡ length p.jobs - 0 = omega arith in record {
  table = refl;
  left = c.requires.left ∙ (λ i. (let v : View = record { hands = fresh p [] 0 (whole i); front = []; told = [] } in v, []));
  desks = c.in_ok-desks.ensures.items;
}

pub fresh_knowledge-requires : goal.fresh_knowledge-requires
fresh_knowledge-requires g0 c = let n = c.jobs-job-end.ensures.jobs in let inside = c.loop-job-test.true in omega (arith, n, inside)

pub next_desk-requires : goal.next_desk-requires
next_desk-requires g0 c = let inv = c.loop-job.invariant in let t = c.requires.table in
    let n = c.jobs-job-end.ensures.jobs in let inside = c.loop-job-test.true in
    let none : [] ≡ c.args.table.now.shared.key.past.events = sym c.requires.past in
    record {
      table = (t.0, inv.table ∙ t.1, t.2);
      job = omega (arith, n, inside);
      past = subst (IsHistory c.args.plan.now) none tt;
      left = inv.left ∙ (λ i. (undealt c.args.plan.now (none i) c.loop-job.job, []));
      known = subst (λ (z : List Event). IsKnownAfter c.args.plan.now z c.loop-job.job c.in_ok-knowledge.knowledge) none c.in_ok-knowledge.ensures;
    }

pub loop-job-preserved : goal.loop-job-preserved
loop-job-preserved g0 c =
    let inv = c.loop-job.invariant in
    let k = c.in_ok-desk.ensures.keeper in
    let past : c.args.table.now.shared.key.past.events ≡ [] = c.requires.past in
    let more : suc c.loop-job.job ≡ c.loop-job.job + 1 = omega arith in
    record {
      table = k.0 ∙ inv.table;
      left = k.1 ∙ (λ i. (undealt c.args.plan.now (past i) (c.loop-job.job + 1), []));
      desks =
          c.in_ok-push.ensures.items
          ∙ ((λ i. inv.desks i ++ (c.in_ok-desk.ensures.desk ∙ (λ m. desk_after (inv.table m) c.args.plan.now (past m) c.loop-job.job)) i ∷ [])
          ∙ ap (fresh_desks c.args.keeper.now.table_id c.args.plan.now) more);
    }

pub returns-clause-keeper : goal.returns-clause-keeper
returns-clause-keeper g0 c =
    let inv = c.loop-job.invariant in
    let n = c.jobs-job-end.ensures.jobs in
    let a = c.loop-job.auto.job-end in
    let t = c.loop-job-test.false in
    let all : c.loop-job.job ≡ length c.args.plan.now.jobs = omega arith in
    (inv.table, inv.left ∙ (λ i. (undealt c.args.plan.now [] (all i), [])) ∙ (λ i. (undealt_last c.args.plan.now [] i, [])))

pub returns-clause-desks : goal.returns-clause-desks
returns-clause-desks g0 c =
    let inv = c.loop-job.invariant in
    let n = c.jobs-job-end.ensures.jobs in
    let a = c.loop-job.auto.job-end in
    let t = c.loop-job-test.false in
    let all : c.loop-job.job ≡ length c.args.plan.now.jobs = omega arith in
    inv.desks ∙ ap (fresh_desks c.args.keeper.now.table_id c.args.plan.now) all
