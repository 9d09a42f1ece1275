use Rattle.std.proofs.Common.{◌≡◌, ◌+◌, ◌<◌, length, slice_index_or, arith, sym, ap, ◌∙◌}
use Rattle.std.proofs.lemmas.Option.{get_or_from_slice_get}
use Rattle.report.specs.Report.{entry_text}
use Rattle.report.proofs.Prefixes.{each_goes, each_stops, writes_err}
use Rattle.report.proofs.shown.write_entries.Goals as goal

pub returns-in_err-write_entry : goal.returns-in_err-write_entry
returns-in_err-write_entry g c =
    let log = (g.R.Showing.shown c.args.run.now).log c.args.instrument in
    let entry = c.entry.result in
    let inside : c.loop-index.index < length log = omega arith in
    let here : entry ≡ slice_index_or log c.loop-index.index entry = sym (get_or_from_slice_get log c.loop-index.index entry entry c.entry.ensures.entry) in
    writes_err _ _ _ _ _ _ c.from_residual.ensures.0
    (each_stops (entry_text (g.R.Showing.plan c.args.run.now)) log c.loop-index.index entry entry _ _ _ inside here c.loop-index.invariant.0
    c.in_err-write_entry.ensures.0)
    (c.in_err-write_entry.ensures.1 ∙ ap (λ n. n + 1) c.loop-index.invariant.1)

pub loop-index-preserved : goal.loop-index-preserved
loop-index-preserved g c =
    let log = (g.R.Showing.shown c.args.run.now).log c.args.instrument in
    let entry = c.entry.result in
    let inside : c.loop-index.index < length log = omega arith in
    let here : entry ≡ slice_index_or log c.loop-index.index entry = sym (get_or_from_slice_get log c.loop-index.index entry entry c.entry.ensures.entry) in (
      each_goes (entry_text (g.R.Showing.plan c.args.run.now)) log c.loop-index.index entry entry _ _ _ inside here c.loop-index.invariant.0
          c.in_ok-write_entry.ensures.0,
      c.in_ok-write_entry.ensures.1 ∙ c.loop-index.invariant.1,
    )
