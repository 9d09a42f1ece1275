use Rattle.std.proofs.Common.{◌≡◌, ◌≢◌, ◌-◌, ◌<◌, ◌∙◌, ap, sym, length, slice_get, Some, arith}
use Rattle.std.proofs.lemmas.List.{length-map}
use Rattle.std.proofs.Math.ListN.{get_or-map}
use Rattle.std.proofs.lemmas.Option.{slice_get-get_or}
use Rattle.instrument_log.specs.Entries.{entry_of}
use Rattle.instrument_log.specs.Parts.{open_entry, unfinished_of}
use Rattle.instrument_log.specs.InstrumentLog.{LogView}
use Rattle.instrument_log.specs.Packed.{entries_of}
use Rattle.instrument_log.proofs.PartLemmas.{open_entry-none, open_entry-last}
use Rattle.instrument_log.proofs.log.InstrumentLog.open_entry.Goals as goal

pub returns-then-self-eq0 : goal.returns-then-self-eq0
returns-then-self-eq0 g c =
    let kept = c.self.invariant.0 in
    sym (open_entry-none _ kept.is_log.within_limits (sym kept.unfinished_is ∙ c.if-self-eq0.true))
    ∙ ap (λ (log : LogView). open_entry log.entries) c.self.view_is

pub returns-else-self-eq0 : goal.returns-else-self-eq0
returns-else-self-eq0 g c =
    let kept = c.self.invariant.0 in
    let packed = c.self.inside.packed.items in
    let entries = entries_of packed in
    let long : length entries ≡ length packed = length-map packed entry_of in
    let some : unfinished_of entries ≢ 0 = λ none. c.if-self-eq0.false (kept.unfinished_is ∙ none) in
    let at : length entries - 1 ≡ c.len.result - 1 = omega (arith, long, c.len.ensures) in
    let below : c.len.result - 1 < length entries = omega (arith, long, c.len.ensures, kept.counted, some) in
    let read = get_or-map entry_of packed (c.len.result - 1) c.index.result.now ∙ ap entry_of (sym c.index.ensures) in
    let last : slice_get entries (c.len.result - 1) ≡ Some (entry_of c.index.result.now) =
    slice_get-get_or entries (c.len.result - 1) (entry_of c.index.result.now) below ∙ ap Some read in
    ap Some c.spelled_by.ensures
    ∙ sym (open_entry-last entries (entry_of c.index.result.now) some (ap (slice_get entries) at ∙ last))
    ∙ ap (λ (log : LogView). open_entry log.entries) c.self.view_is
