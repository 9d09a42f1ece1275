use Rattle.std.proofs.Common.{ℕ, ◌≡◌, ◌+◌, ◌++◌, List, [], ◌∷◌, length, slice_index_or, arith, ap, sym, ◌∙◌, append_assoc, append-nil}
use Rattle.std.specs.List.{flat_map, range_with_len}
use Rattle.std.proofs.lemmas.List.{length-map}
use Rattle.std.proofs.lemmas.List.Concat.{flat_map-append}
use Rattle.lab_plan.proofs.Ranges.{range_more}
use Rattle.report_reader.specs.Report.{LogText}
use Rattle.report_reader.specs.Form.{entry_text}
use Rattle.picture.specs.LogTable.{entry_line, no_entry, log_lines}
use Rattle.picture.proofs.log_table.add_log.Goals as goal

pub loop-place-preserved : goal.loop-place-preserved
loop-place-preserved g c =
    let log : LogText = c.args.log.now in
    let n = c.loop-place.place in
    let line : ℕ → List ℕ = λ k. entry_line log.name (k + 1) (slice_index_or log.entries k no_entry) in
    let more : flat_map line (range_with_len 0 (n + 1)) ≡ flat_map line (range_with_len 0 n) ++ line n =
    ap (flat_map line) (range_more n) ∙ flat_map-append line (range_with_len 0 n) (n ∷ [])
    ∙ ap (λ ys. flat_map line (range_with_len 0 n) ++ ys) (append-nil (line n)) in
    c.in_ok-add_nth.ensures
    ∙ ap (λ es. c.loop-place.out.items ++ entry_line c.name.result.now (n + 1) (slice_index_or es n no_entry)) c.entries-entries.ensures
    ∙ ap (λ m. c.loop-place.out.items ++ entry_line m (n + 1) (slice_index_or log.entries n no_entry)) c.name.ensures
    ∙ ap (λ xs. xs ++ line n) c.loop-place.invariant
    ∙ append_assoc c.args.out.now.items (flat_map line (range_with_len 0 n)) (line n)
    ∙ ap (λ ys. c.args.out.now.items ++ ys) (sym more)

pub returns : goal.returns
unfolding log_lines
returns g c =
    let log : LogText = c.args.log.now in
    let line : ℕ → List ℕ = λ k. entry_line log.name (k + 1) (slice_index_or log.entries k no_entry) in
    let all : length c.entries-entries.result.now ≡ length log.entries =
    sym (length-map c.entries-entries.result.now entry_text) ∙ ap length c.entries-entries.ensures in
    let end : c.loop-place.place ≡ length log.entries = omega (arith, all) in
    c.loop-place.invariant ∙ ap (λ n. c.args.out.now.items ++ flat_map line (range_with_len 0 n)) end
