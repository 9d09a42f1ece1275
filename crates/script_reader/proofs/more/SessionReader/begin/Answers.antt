use Rattle.std.proofs.Common.{◌≡◌, ◌<◌, true, false, cond, List, [], ◌∷◌, ◌++◌, length, is_ok, not, sym, ap, ◌∙◌, subst, arith}
use Rattle.std.proofs.lemmas.List.{length_push}
use Rattle.lab_plan.specs.LabPlan.{SessionPlan}
use Rattle.lab_plan.specs.Longer.{session_of}
use Rattle.lab_plan.specs.Cuts.{commands_of}
use Rattle.script_reader.specs.More.{SessionsSoFar, with_begun}
use Rattle.script_reader.proofs.FurtherLines.{commands_begun}
use Rattle.script_reader.proofs.more.SessionReader.begin.Goals as goal

pub invariant_of-self : goal.invariant_of-self
invariant_of-self g c =
    let items = c.self.inside.sessions.items in
    let no : is_ok c.push.result ≡ false = c.is_err.ensures.negation ∙ ap not c.if-is_err.true in
    let kept : c.push.new.self.items ≡ items = c.push.ensures.items ∙ ap (λ b. cond b (items ++ c.new-begun.result ∷ []) items) no in
    record {
      counted = c.self.invariant.counted ∙ ap (λ (l : List SessionPlan). length (commands_of l)) (sym kept);
      some = λ h. subst (λ (l : List SessionPlan). 0 < length l) (sym kept) (c.self.invariant.some h);
    }

pub returns-then-is_err-clause-value : goal.returns-then-is_err-clause-value
returns-then-is_err-clause-value g c =
    let items = c.self.inside.sessions.items in
    let no : is_ok c.push.result ≡ false = c.is_err.ensures.negation ∙ ap not c.if-is_err.true in
    let kept : c.push.new.self.items ≡ items = c.push.ensures.items ∙ ap (λ b. cond b (items ++ c.new-begun.result ∷ []) items) no in
    ap (λ (l : List SessionPlan). let r : SessionsSoFar = record { in_session = c.self.inside.in_session; sessions = l } in r) kept ∙ c.self.view_is

pub invariant_of-self-2 : goal.invariant_of-self-2
invariant_of-self-2 g c =
    let items = c.self.inside.sessions.items in
    let yes : is_ok c.push.result ≡ true = c.is_err.ensures.negation ∙ ap not c.if-is_err.false in
    let begun : c.push.new.self.items ≡ items ++ session_of c.args.patience [] ∷ [] =
    c.push.ensures.items ∙ ap (λ b. cond b (items ++ c.new-begun.result ∷ []) items) yes ∙ ap (λ s. items ++ s ∷ []) c.new-begun.ensures in
    record {
      counted = c.self.invariant.counted ∙ ap (λ l. length l) (sym (ap commands_of begun ∙ commands_begun c.args.patience items));
      some = λ h. omega (arith, ap (λ (l : List SessionPlan). length l) begun, length_push items (session_of c.args.patience []));
    }

pub returns-clause-value : goal.returns-clause-value
returns-clause-value g c =
    let items = c.self.inside.sessions.items in
    let yes : is_ok c.push.result ≡ true = c.is_err.ensures.negation ∙ ap not c.if-is_err.false in
    let begun : c.push.new.self.items ≡ items ++ session_of c.args.patience [] ∷ [] =
    c.push.ensures.items ∙ ap (λ b. cond b (items ++ c.new-begun.result ∷ []) items) yes ∙ ap (λ s. items ++ s ∷ []) c.new-begun.ensures in
    ap (λ (l : List SessionPlan). let r : SessionsSoFar = record { in_session = true; sessions = l } in r) begun ∙ ap (with_begun c.args.patience) c.self.view_is
