use Rattle.std.proofs.Common.{◌≡◌, List, [], ◌∷◌, ◌++◌, length, arith, sym, ap, ◌∙◌, subst}
use Rattle.lab_plan.specs.declared.job.Session.{Session}
use Rattle.lab_plan.specs.Building.{and_session}
use Rattle.lab_plan.specs.Cuts.{cut, first_start, AreInOrder}
use Rattle.lab_plan.proofs.Cuts.{begun, job_of, cut_begun, whole_begun, order_begun}
use Rattle.lab_plan.proofs.job.Job.begin.Goals as goal

pub invariant_of-self-2 : goal.invariant_of-self-2
invariant_of-self-2 g c =
    let sessions = c.self.inside.sessions.items in
    let end = length c.self.inside.commands.items in
    let start : c.len-start.result ≡ end = omega arith in
    let now : c.push.new.self.items ≡ sessions ++ begun c.args.patience end ∷ [] =
    c.in_ok-push.ensures.items ∙ ap (λ n. sessions ++ begun c.args.patience n ∷ []) start in
    record {
      whole = subst (λ (l : List Session). first_start l end ≡ 0) (sym now) (whole_begun sessions end c.args.patience c.self.invariant.whole);
      in_order = subst (λ (l : List Session). AreInOrder l end) (sym now) (order_begun sessions end c.args.patience c.self.invariant.in_order);
    }

pub returns : goal.returns
returns g c =
    let sessions = c.self.inside.sessions.items in
    let all = c.self.inside.commands.items in
    let name = c.self.inside.name in
    let start : c.len-start.result ≡ length all = omega arith in
    let now : c.push.new.self.items ≡ sessions ++ begun c.args.patience (length all) ∷ [] =
    c.in_ok-push.ensures.items ∙ ap (λ n. sessions ++ begun c.args.patience n ∷ []) start in
    ap (λ l. job_of name (cut l all)) now
    ∙ ap (job_of name) (cut_begun sessions all c.args.patience)
    ∙ ap (and_session c.args.patience) c.self.view_is
