-- Entries by their numbers, as they lie and as they are spelled.
use Rattle.std.proofs.Common.{◌≡◌, ℕ, ◌<◌, List, length, map, slice_index_or}
use Rattle.std.proofs.lemmas.List.{get_or-map}
use Rattle.report_reader.specs.declared.lines.EntryLine.{EntryLine}
use Rattle.report_reader.specs.Form.{entry_text}
use Rattle.picture.specs.LogTable.{no_entry}

pub nth_spelled : (entries : List EntryLine) (k : ℕ) (d : EntryLine) → k < length entries
    → slice_index_or (map entry_text entries) k no_entry ≡ entry_text (slice_index_or entries k d)
nth_spelled entries k d inside = get_or-map entry_text entries k d no_entry inside
