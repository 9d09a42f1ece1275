use Rattle.std.proofs.Common.{◌+◌, ◌∙◌, ap}
use Rattle.std.proofs.KnownBytes.{Appends-trans}
use Rattle.lab_plan.specs.Texts.{header_line}
use Rattle.report.specs.Report.{report_of, last_line}
use Rattle.report.proofs.Prefixes.{in_first, in_second, appends_same, prefix_same, writes_same, writes_err, writes_after}
use Rattle.report.proofs.shown.write_report.Goals as goal

pub returns-in_err-write_header : goal.returns-in_err-write_header
unfolding report_of
returns-in_err-write_header g c =
    let header = ap header_line (c.version.ensures ∙ ap (λ p. p.version) c.plan.ensures) in
    writes_err _ _ _ _ _ _ c.from_residual.ensures.0
    (in_first _ _ _ _ (in_first _ _ _ _ (in_first _ _ _ _ (prefix_same _ _ _ _ header c.in_err-write_header.ensures.0)))) c.in_err-write_header.ensures.1

pub returns-in_err-write_logs : goal.returns-in_err-write_logs
unfolding report_of
returns-in_err-write_logs g c =
    let header = ap header_line (c.version.ensures ∙ ap (λ p. p.version) c.plan.ensures) in
    writes_err _ _ _ _ _ _ c.from_residual-in_err-write_logs.ensures.0
    (in_first _ _ _ _ (in_first _ _ _ _ (in_second _ _ _ _ _ (appends_same _ _ _ _ header c.in_ok-write_header.ensures.0) c.in_err-write_logs.ensures.0)))
    (c.in_err-write_logs.ensures.1 ∙ ap (λ n. n + 1) c.in_ok-write_header.ensures.1)

pub returns-in_err-write_tallies : goal.returns-in_err-write_tallies
unfolding report_of
returns-in_err-write_tallies g c =
    let header = ap header_line (c.version.ensures ∙ ap (λ p. p.version) c.plan.ensures) in
    writes_err _ _ _ _ _ _ c.from_residual-in_err-write_tallies.ensures.0
    (in_first _ _ _ _ (in_second _ _ _ _ _ (Appends-trans _ _ _ _ _ (appends_same _ _ _ _ header c.in_ok-write_header.ensures.0) c.in_ok-write_logs.ensures.0)
    c.in_err-write_tallies.ensures.0))
    (c.in_err-write_tallies.ensures.1 ∙ ap (λ n. n + 1) (c.in_ok-write_logs.ensures.1 ∙ c.in_ok-write_header.ensures.1))

pub returns : goal.returns
unfolding report_of
returns g c =
    let header = ap header_line (c.version.ensures ∙ ap (λ p. p.version) c.plan.ensures) in
    writes_after _ _ _ _ _ _ _ _ _
    (Appends-trans _ _ _ _ _ (Appends-trans _ _ _ _ _ (appends_same _ _ _ _ header c.in_ok-write_header.ensures.0) c.in_ok-write_logs.ensures.0)
    c.in_ok-write_tallies.ensures.0)
    (c.in_ok-write_tallies.ensures.1 ∙ c.in_ok-write_logs.ensures.1 ∙ c.in_ok-write_header.ensures.1)
    (writes_same _ _ _ _ _ _ _ (ap last_line c.all_retired.ensures) c.write_last.ensures)
