use Rattle.std.proofs.Common.{sym, ◌∙◌, map, arith}
use Rattle.report_reader.specs.Form.{job_text}
use Rattle.timeline.proofs.Failing.{fails_alone, fails_so, out_of_order, some_none, clean_at, ordered_at, first_clean}
use Rattle.timeline.proofs.faulty.cause_at.Goals as goal
use Rattle.timeline.proofs.faulty.cause_at.Goals.{else-place-gt0-via-then-place-gt0+else-is_out_of_order, else-place-gt0-via-else-place-gt0}

pub returns-in-Some : goal.returns-in-Some
returns-in-Some c = record {
  some = fails_so _ _ _ c.in-Some.cause (fails_alone _ c.args.entries.now c.args.place _ c.in-Some.cause c.requires (sym c.entry_cause.ensures
      ∙ c.in-Some.is));
  none = λ e. some_none c.in-Some.cause e;
}

pub returns-then-is_out_of_order : goal.returns-then-is_out_of_order
returns-then-is_out_of_order c = record {
  some = out_of_order c.args.entries.now c.args.place _ _ c.if-place-gt0.true c.requires (sym c.is_out_of_order.ensures
      ∙ c.if-is_out_of_order.true);
  none = λ e. some_none _ e;
}

pub returns-clause-none : goal.returns-clause-none
returns-clause-none c _ =
    clean_at _ c.args.entries.now c.args.place _ c.requires (sym c.entry_cause.ensures ∙ c.in_default.is) (elim c.else-place-gt0.branch [
      | else-place-gt0-via-then-place-gt0+else-is_out_of_order w ↦
          ordered_at c.args.entries.now c.args.place _ _ c.requires (sym w.is_out_of_order.ensures ∙ w.if-is_out_of_order.false)
      | else-place-gt0-via-else-place-gt0 w ↦ first_clean (map job_text c.args.jobs.now) c.args.entries.now c.args.place (λ some. omega (arith, w.if-place-gt0.false, some))
    ])
