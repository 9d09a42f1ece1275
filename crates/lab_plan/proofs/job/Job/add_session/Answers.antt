use Rattle.std.proofs.Common.{◌≡◌, ◌≤◌, ℕ, List, [], ◌∷◌, ◌++◌, length, arith, sym, ap, ◌∙◌, subst, length-append}
use Rattle.lab_plan.specs.declared.verb.Verb.{Verb}
use Rattle.lab_plan.specs.declared.job.Session.{Session}
use Rattle.lab_plan.specs.LabPlan.{JobPlan}
use Rattle.lab_plan.specs.Longer.{session_of, with_session}
use Rattle.lab_plan.specs.Cuts.{cut, first_start, AreInOrder}
use Rattle.lab_plan.proofs.Cuts.{begun, job_of, cut_added, first_added, order_added}
use Rattle.lab_plan.proofs.job.Job.add_session.Goals as goal

pub invariant_of-self-2 : goal.invariant_of-self-2
invariant_of-self-2 g c =
    let sessions = c.self.inside.sessions.items in
    let all = c.self.inside.commands.items in
    let end = length all in
    let p = c.args.patience in
    let start : c.len-start.result ≡ end = omega arith in
    let kept : c.reserve.new.self.items ≡ sessions = c.in_ok-reserve.ensures.items in
    let now : c.push_reserved.new.self.items ≡ sessions ++ begun p end ∷ [] =
    c.push_reserved.ensures.items ∙ ap (λ (l : List Session). l ++ begun p c.len-start.result ∷ []) kept ∙ ap (λ n. sessions ++ begun p n ∷ []) start in
    let more : c.extend_from_slice.new.self.items ≡ all ++ c.args.commands.now = c.in_ok-extend_from_slice.ensures.items in
    let later : end ≤ length c.extend_from_slice.new.self.items =
    omega (arith, ap (λ (l : List (ℕ × Verb)). length l) more, length-append all c.args.commands.now) in
    record {
      whole = subst (λ (l : List Session). first_start l (length c.extend_from_slice.new.self.items) ≡ 0) (sym now)
          (first_added sessions end (length c.extend_from_slice.new.self.items) p ∙ c.self.invariant.whole);
      in_order = subst (λ (l : List Session). AreInOrder l (length c.extend_from_slice.new.self.items)) (sym now)
          (order_added sessions end (length c.extend_from_slice.new.self.items) p later c.self.invariant.in_order);
    }

pub returns : goal.returns
returns g c =
    let sessions = c.self.inside.sessions.items in
    let all = c.self.inside.commands.items in
    let p = c.args.patience in
    let start : c.len-start.result ≡ length all = omega arith in
    let kept : c.reserve.new.self.items ≡ sessions = c.in_ok-reserve.ensures.items in
    let now : c.push_reserved.new.self.items ≡ sessions ++ begun p (length all) ∷ [] =
    c.push_reserved.ensures.items ∙ ap (λ (l : List Session). l ++ begun p c.len-start.result ∷ []) kept ∙ ap (λ n. sessions ++ begun p n ∷ []) start in
    let more : c.extend_from_slice.new.self.items ≡ all ++ c.args.commands.now = c.in_ok-extend_from_slice.ensures.items in
    ap (λ l. job_of c.self.inside.name (cut l c.extend_from_slice.new.self.items)) now
    ∙ ap (λ l. job_of c.self.inside.name (cut (sessions ++ begun p (length all) ∷ []) l)) more
    ∙ ap (job_of c.self.inside.name) (cut_added sessions all c.args.commands.now p c.self.invariant.in_order)
    ∙ ap (λ (j : JobPlan). with_session j (session_of p c.args.commands.now)) c.self.view_is
