use Rattle.std.proofs.Common.{◌+◌, ◌∙◌, ap}
use Rattle.std.proofs.KnownBytes.{Appends-trans}
use Rattle.lab_plan.specs.Upgrade.{commands_text}
use Rattle.report.proofs.Prefixes.{in_first, in_second, appends_same, prefix_same, writes_err, writes_after}
use Rattle.report.proofs.script.write_session.Goals as goal

pub returns-in_err-write_session_line : goal.returns-in_err-write_session_line
returns-in_err-write_session_line g c =
    writes_err _ _ _ _ _ _ c.from_residual.ensures.0
    (in_first _ _ _ _ (in_first _ _ _ _ c.in_err-write_session_line.ensures.0)) c.in_err-write_session_line.ensures.1

pub returns-in_err-write_commands : goal.returns-in_err-write_commands
returns-in_err-write_commands g c =
    let these = ap (commands_text c.args.plan.now) c.commands.ensures.commands in
    writes_err _ _ _ _ _ _ c.from_residual-in_err-write_commands.ensures.0
    (in_first _ _ _ _ (in_second _ _ _ _ _ c.in_ok-write_session_line.ensures.0 (prefix_same _ _ _ _ these c.in_err-write_commands.ensures.0)))
    (c.in_err-write_commands.ensures.1 ∙ ap (λ n. n + 1) c.in_ok-write_session_line.ensures.1)

pub returns : goal.returns
returns g c =
    let these = ap (commands_text c.args.plan.now) c.commands.ensures.commands in
    writes_after _ _ _ _ _ _ _ _ _ (Appends-trans _ _ _ _ _ c.in_ok-write_session_line.ensures.0 (appends_same _ _ _ _ these c.in_ok-write_commands.ensures.0))
    (c.in_ok-write_commands.ensures.1 ∙ c.in_ok-write_session_line.ensures.1) c.offer.ensures
