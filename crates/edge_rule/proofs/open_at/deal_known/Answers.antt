use Rattle.std.proofs.Common.{◌≡◌, ◌+◌, ◌-◌, suc, List, [], ◌∷◌, ◌++◌, length, refl, ap, ◌∙◌, arith}
use Rattle.lab_plan.specs.LabPlan.{LabPlan}
use Rattle.legal_steps.specs.declared.event.Event.{Event}
use Rattle.one_history.specs.declared.board.View.{View}
use Rattle.one_history.specs.Rule.{fresh}
use Rattle.edge_rule.specs.DeskView.{desk_after, desks_after}
use Rattle.edge_rule.proofs.StoodWords.{read_at, same_knowledge}
use Rattle.edge_rule.proofs.open_at.deal_known.Goals as goal

pub loop-job-init : goal.loop-job-init
loop-job-init g0 c =
    let p : LabPlan = c.args.plan.now in
    let past : List Event = c.args.table.now.shared.key.past.events in
    let whole : length p.jobs ≡ length p.jobs - 0 = omega arith in
    record {
      table = refl;
      left = c.requires.left ∙ (λ i. (let v : View = record { hands = fresh p past 0 (whole i); front = past; told = [] } in v, []));
      desks = c.in_ok-desks.ensures.items;
    }

pub next_desk-requires : goal.next_desk-requires
next_desk-requires g0 c = let inv = c.loop-job.invariant in let t = c.requires.table in
    let n = c.jobs-job-end.ensures.jobs in let inside = c.loop-job-test.true in let m = c.requires.one_each in
    record {
      table = (t.0, inv.table ∙ t.1, t.2);
      job = omega (arith, n, inside);
      past = c.requires.past;
      left = inv.left;
      known = same_knowledge c.args.plan.now c.args.table.now.shared.key.past.events c.loop-job.job c.index-known-job.result c.in_ok-knowledge.knowledge
          (c.requires.known c.loop-job.job c.index-known-job.result (read_at c.args.known.now c.loop-job.job c.index-known-job.result (omega arith) c.index-known-job.is))
          c.in_ok-knowledge.ensures;
    }

pub loop-job-preserved : goal.loop-job-preserved
loop-job-preserved g0 c =
    let inv = c.loop-job.invariant in
    let k = c.in_ok-desk.ensures.keeper in
    let past : List Event = c.args.table.now.shared.key.past.events in
    let more : suc c.loop-job.job ≡ c.loop-job.job + 1 = omega arith in
    record {
      table = k.0 ∙ inv.table;
      left = k.1;
      desks =
          c.in_ok-push.ensures.items
          ∙ ((λ i. inv.desks i ++ (c.in_ok-desk.ensures.desk ∙ (λ m. desk_after (inv.table m) c.args.plan.now past c.loop-job.job)) i ∷ [])
          ∙ ap (desks_after c.args.keeper.now.table_id c.args.plan.now past) more);
    }

pub returns : goal.returns
returns g0 c =
    let inv = c.loop-job.invariant in
    let n = c.jobs-job-end.ensures.jobs in
    let a = c.loop-job.auto.job-end in
    let t = c.loop-job-test.false in
    let all : c.loop-job.job ≡ length c.args.plan.now.jobs = omega arith in
    inv.desks ∙ ap (desks_after c.args.keeper.now.table_id c.args.plan.now c.args.table.now.shared.key.past.events) all
