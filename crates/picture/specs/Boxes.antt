-- What is drawn in the row of an instrument. Heights are those in the row. What has no room is told under the pointer.
use Rattle.std.specs.Prelude.{ℕ, Bool, nat_le, ◌+◌, ◌-◌, List, [], ◌++◌, codes, decimal, Option, None, Some, if◌then◌else◌}
use Rattle.lab_plan.specs.Texts.{verb_text}
use Rattle.report_reader.specs.Line.{EntryText}
use Rattle.timeline.specs.declared.span.Span.{Span}
use Rattle.picture.specs.Looks.{name_text, look}
use Rattle.picture.specs.Columns.{has_room, left_of}

-- a closed box has a right edge
abbrev pub edges_end : Bool → List ℕ
edges_end is_open = if is_open then [] else codes "z"

-- the edges of a box, without the right one if it is open
abbrev pub edges : ℕ → ℕ → Bool → List ℕ
edges left right is_open =
    codes "<path d=\"M" ++ decimal right ++ codes " 4H" ++ decimal left ++ codes "v58H" ++ decimal right ++ edges_end is_open

-- the names of its job and session
abbrev pub label : ℕ → EntryText → List ℕ
label x e =
    codes "<text x=\"" ++ decimal x ++ codes "\" y=\"17\" font-weight=\"bold\">" ++ name_text e.job
    ++ codes "</text><text x=\"" ++ decimal x ++ codes "\" y=\"29\">session " ++ decimal e.session ++ codes "</text>\n"

-- the same under the pointer
abbrev pub session_title : EntryText → List ℕ
session_title e = codes "<g><title>" ++ name_text e.job ++ codes " session " ++ decimal e.session ++ codes "</title>"

abbrev pub named_box : ℕ → ℕ → ℕ → Bool → EntryText → List ℕ
named_box job left right is_open e = edges left right is_open ++ look job ++ label (left + 4) e

abbrev pub titled_box : ℕ → ℕ → ℕ → Bool → EntryText → List ℕ
titled_box job left right is_open e = session_title e ++ edges left right is_open ++ look job ++ codes "</g>\n"

-- the box from one place to another: the names fit if it is 100 units wide
abbrev pub box_between : ℕ → ℕ → ℕ → Bool → EntryText → List ℕ
box_between job left right is_open e = if nat_le 100 (right - left) then named_box job left right is_open e else titled_box job left right is_open e

-- the box of an entry's session
unfoldable pub box_text : ℕ → ℕ → Span → Bool → EntryText → List ℕ
box_text job columns span is_open e = box_between job (left_of columns span.start) (left_of columns (span.start + span.width)) is_open e

-- the tick of an entry
abbrev pub tick : ℕ → List ℕ
tick x = codes "<path d=\"M" ++ decimal x ++ codes " 35v27\" stroke=\"#222\"/>"

-- what the entry did, and what its dial showed
abbrev pub deed : ℕ → EntryText → List ℕ
deed x e =
    codes "<text x=\"" ++ decimal x ++ codes "\" y=\"44\">" ++ verb_text e.verb
    ++ codes "</text><text x=\"" ++ decimal x ++ codes "\" y=\"56\">= " ++ decimal e.value ++ codes "</text>\n"

-- the same under the pointer
abbrev pub deed_title : EntryText → List ℕ
deed_title e = codes "<g><title>" ++ verb_text e.verb ++ codes " = " ++ decimal e.value ++ codes "</title>"

abbrev pub tick_at : ℕ → ℕ → EntryText → List ℕ
tick_at columns x e = if has_room columns then tick x ++ deed (x + 4) e else deed_title e ++ tick x ++ codes "</g>\n"

unfoldable pub tick_text : ℕ → Span → EntryText → List ℕ
tick_text columns span e = tick_at columns (left_of columns (span.start + (e.place - 1))) e

-- an entry: its tick, and the box of its session if it is the first entry of it
abbrev pub entry_line : ℕ → ℕ → Span → Bool → Bool → EntryText → List ℕ
entry_line job columns span is_first is_open e = (if is_first then box_text job columns span is_open e else []) ++ tick_text columns span e

-- nothing is drawn of an entry that has no columns
abbrev pub in_columns : ℕ → Option ℕ → Option Span → Bool → Bool → EntryText → List ℕ
in_columns columns (Some job) (Some span) is_first is_open e = entry_line job columns span is_first is_open e
in_columns columns (Some job) None is_first is_open e = []
in_columns columns None span is_first is_open e = []
