use Rattle.std.proofs.Common.{◌≡◌, ◌+◌, Bool, true, not, length, false, ap, sym, ◌∙◌, subst, nat_le, ◌||◌, ◌&&◌}
use Rattle.lab_plan.specs.LabPlan.{LabPlan, all_commands}
use Rattle.lab_plan.specs.Building.{AreClosed, is_instrument, is_past_limit, has_session}
use Rattle.lab_plan.proofs.Grown.{is_new, commands_with_command}
use Rattle.lab_plan.proofs.Closed.{closed_with_command}
use Rattle.lab_plan.proofs.Drafts.{draft_with_command}
use Rattle.lab_plan.specs.IsPlan.{IsDraft}
use Rattle.lab_plan.proofs.builder.PlanBuilder.command.Goals as goal

pub place-place-requires : goal.place-place-requires
place-place-requires g c = c.self.invariant.is_draft.instruments_distinct

pub push_at-requires-clause-session : goal.push_at-requires-clause-session
push_at-requires-clause-session g c = subst (λ (p : LabPlan). has_session p ≡ true) (sym c.self.view_is) c.requires.session

pub push_at-requires-clause-place : goal.push_at-requires-clause-place
push_at-requires-clause-place g c = c.place-place.ensures

pub push_at-requires-clause-most : goal.push_at-requires-clause-most
push_at-requires-clause-most g c = c.self.invariant.is_draft.few_instruments

pub invariant_of-self-2 : goal.invariant_of-self-2
invariant_of-self-2 g c =
    let name = c.args.instrument.now in
    let plan : LabPlan = c.self.inside.draft in
    let test : Bool → LabPlan → Bool = λ b p. nat_le 100000 (length (all_commands p)) || (b && nat_le 56 (length p.instruments)) in
    let new_name : c.is_none.result ≡ not (is_instrument name plan) =
    is_new name plan c.place-place.result c.is_none.result c.place-place.ensures c.is_none.ensures in
    let past : is_past_limit name plan ≡ false =
    ap (λ b. test b plan) (sym new_name) ∙ ap (test c.is_none.result) c.self.view_is ∙ sym c.is_past_limit.ensures ∙ c.if-is_past_limit.false in
    let some : has_session plan ≡ true = subst (λ (p : LabPlan). has_session p ≡ true) (sym c.self.view_is) c.requires.session in
    let new = c.in_ok-push_at.ensures in
    record {
      is_draft = subst IsDraft (sym new) (draft_with_command name c.args.verb plan c.self.invariant.is_draft some c.requires.name c.requires.fits past);
      closed = subst AreClosed (sym new) (closed_with_command name c.args.verb plan c.self.invariant.closed);
      counted = ap (λ n. n + 1) c.self.invariant.counted ∙ sym (commands_with_command name c.args.verb plan some)
          ∙ ap (λ (p : LabPlan). length (all_commands p)) (sym new);
    }
