use Rattle.std.proofs.Common.{ap, ◌∙◌}
use Rattle.lab_plan.specs.Texts.{instrument_name}
use Rattle.report.specs.Report.{instrument_line}
use Rattle.report.proofs.Prefixes.{writes_same}
use Rattle.report.proofs.shown.write_instrument.Goals as goal

pub returns : goal.returns
returns g c =
    let plan = g.R.Showing.plan c.args.run.now in
    let i = c.args.instrument in
    let line = c.as_bytes.ensures ∙ c.instrument_line-line.ensures in
    let name = c.instrument_name-name.ensures.value ∙ ap (λ p. instrument_name p i) c.plan.ensures in
    writes_same _ _ _ _ _ _ _ (line ∙ ap (λ t. instrument_line t c.entries.result) name ∙ ap (instrument_line (instrument_name plan i)) c.entries.ensures)
    c.offer.ensures
