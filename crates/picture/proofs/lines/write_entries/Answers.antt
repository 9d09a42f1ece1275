use Rattle.std.proofs.Common.{ℕ, ◌+◌, ◌<◌, ◌≤◌, List, length, map, arith, ap, sym, ◌∙◌}
use Rattle.std.specs.List.{flat_map, range_with_len}
use Rattle.std.proofs.lemmas.List.{length-map}
use Rattle.report_reader.specs.Form.{entry_text, job_text}
use Rattle.report.proofs.Prefixes.{all_numbers, appends_same, prefix_same, each_goes, each_stops, number_at, number_inside, writes_err}
use Rattle.picture.specs.Picture.{entry_at}
use Rattle.picture.proofs.lines.write_entries.Goals as goal

pub returns-in_err-offer : goal.returns-in_err-offer
returns-in_err-offer g c =
    let text : ℕ → List ℕ = entry_at (map job_text c.args.jobs.now) c.args.columns c.args.spans.now (map entry_text c.args.entries.now) in
    let n = length c.args.entries.now in
    let k = c.loop-place.place in
    let below : k < n = omega arith in
    let line = c.as_bytes.ensures ∙ c.entry_at-line.ensures in
    let all = ap (λ m. flat_map text (range_with_len 0 m)) (sym (length-map c.args.entries.now entry_text)) in
    writes_err _ _ _ _ _ _ c.from_residual.ensures.0
    (prefix_same _ _ _ _ all (each_stops text (range_with_len 0 n) k 0 k _ _ _ (number_inside n k below) (number_at n k below) c.loop-place.invariant.0
    (prefix_same _ _ _ _ line c.in_err-offer.ensures.0)))
    (c.in_err-offer.ensures.1 ∙ ap (λ m. m + 1) c.loop-place.invariant.1)

pub loop-place-preserved : goal.loop-place-preserved
loop-place-preserved g c =
    let text : ℕ → List ℕ = entry_at (map job_text c.args.jobs.now) c.args.columns c.args.spans.now (map entry_text c.args.entries.now) in
    let n = length c.args.entries.now in
    let k = c.loop-place.place in
    let below : k < n = omega arith in
    let line = c.as_bytes.ensures ∙ c.entry_at-line.ensures in (
      each_goes text (range_with_len 0 n) k 0 k _ _ _ (number_inside n k below) (number_at n k below) c.loop-place.invariant.0
          (appends_same _ _ _ _ line c.in_ok-offer.ensures.0),
      c.in_ok-offer.ensures.1 ∙ c.loop-place.invariant.1,
    )

pub returns : goal.returns
returns g c =
    let text : ℕ → List ℕ = entry_at (map job_text c.args.jobs.now) c.args.columns c.args.spans.now (map entry_text c.args.entries.now) in
    let n = length c.args.entries.now in
    let past : n ≤ c.loop-place.place = omega arith in
    let all = ap (λ m. flat_map text (range_with_len 0 m)) (sym (length-map c.args.entries.now entry_text)) in
    (appends_same _ _ _ _ (ap (flat_map text) (all_numbers n c.loop-place.place past) ∙ all) c.loop-place.invariant.0, c.loop-place.invariant.1)
