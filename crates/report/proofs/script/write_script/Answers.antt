use Rattle.report.proofs.Prefixes.{in_first, writes_err, writes_after}
use Rattle.report.proofs.script.write_script.Goals as goal

pub returns-in_err-write_header : goal.returns-in_err-write_header
returns-in_err-write_header g c =
    writes_err _ _ _ _ _ _ c.from_residual.ensures.0 (in_first _ _ _ _ c.in_err-write_header.ensures.0) c.in_err-write_header.ensures.1

pub returns : goal.returns
returns g c =
    writes_after _ _ _ _ _ _ _ _ _ c.in_ok-write_header.ensures.0 c.in_ok-write_header.ensures.1 c.write_jobs.ensures
