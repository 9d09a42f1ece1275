-- What the reader takes from the words of a line, field by field. It is the inverse of `body`, as proofs/Back.antt shows.
use Rattle.std.specs.Prelude.{ℕ, ◌+◌, ◌-◌, ◌*◌, ◌^◌, ◌==◌, nat_lt, Bool, true, false, not, ◌&&◌, nat_le, if◌then◌else◌}
use Rattle.std.specs.Prelude.{List, ◌++◌, length, take, drop, slice_range, codes, Option, None, Some, Result, Ok, Err}
use Rattle.std.specs.List.{list_all}
use Rattle.std.specs.Int.{w32, w64}
use Rattle.std.specs.Str.{bytes_eq}
use Rattle.hex.specs.Hex.{decode_sized, encode_lower}
use Rattle.hex.specs.declared.error.FromHexError.{FromHexError}
use Rattle.bay_log.specs.declared.how.How.{How}
use Rattle.bay_log.specs.declared.how.How.TheVariants as hows
use Rattle.bay_log.specs.declared.line.Entry.{Entry}
use Rattle.bay_log.specs.declared.line.Line.{Line}
use Rattle.bay_log.specs.declared.line.Line.TheVariants.{Head, Hold, Back, End, Note}
use Rattle.bay_log.specs.Digits.{number_of}
use Rattle.bay_log.specs.Texts.{is_plain}
use Rattle.bay_log.specs.Lines.{body, sum_of, is_head}

-- ---- fields

abbrev pub joined : Option ℕ → Option ℕ → Option ℕ
joined (Some high) (Some low) = Some (high * 2 ^ 64 + low)
joined (Some high) None = None
joined None low = None

unfoldable pub number_of_128 : List ℕ → Option ℕ
number_of_128 text = joined (number_of w64 (slice_range text 0 16)) (number_of w64 (slice_range text 16 32))

abbrev pub limited : Option ℕ → Option (Option ℕ)
limited (Some n) = Some (Some n)
limited None = None

unfoldable pub limit_of : List ℕ → Option (Option ℕ)
limit_of text = if bytes_eq text (codes "----------------") then Some None else limited (number_of w64 text)

abbrev pub bytes_in : Result (List ℕ) FromHexError → Option (List ℕ)
bytes_in (Ok bytes) = Some bytes
bytes_in (Err e) = None

unfoldable pub hash_of : List ℕ → Option (List ℕ)
hash_of text = bytes_in (decode_sized text 32)

unfoldable pub how_of : List ℕ → Option How
how_of word =
    if bytes_eq word (codes "let_go") then Some hows.LetGo
    else (if bytes_eq word (codes "left") then Some hows.Left
    else (if bytes_eq word (codes "lapsed") then Some hows.Lapsed
    else (if bytes_eq word (codes "not_written") then Some hows.NotWritten
    else (if bytes_eq word (codes "limit") then Some hows.Limit
    else (if bytes_eq word (codes "grace") then Some hows.Grace
    else (if bytes_eq word (codes "taken_away") then Some hows.TakenAway
    else (if bytes_eq word (codes "replaced") then Some hows.Replaced
    else (if bytes_eq word (codes "stopped") then Some hows.Stopped else None))))))))

-- ---- each kind of line, whatever its first word

abbrev pub entry_if : Option ℕ → Option ℕ → Option ℕ → Option ℕ → Option (Option ℕ) → Option ℕ → Option ℕ → Option Entry
entry_if (Some c) (Some n) (Some o) (Some s) (Some l) (Some a) (Some t) =
    Some (record { class = c; needs = n; owner = o; since = s; limit = l; asked = a; token = t })
entry_if _ _ _ _ _ _ _ = None

unfoldable pub entry_of : List ℕ → Option Entry
entry_of words =
    entry_if (number_of w32 (slice_range words 0 8)) (number_of w64 (slice_range words 9 25)) (number_of_128 (slice_range words 26 58))
    (number_of w64 (slice_range words 59 75)) (limit_of (slice_range words 76 92)) (number_of w64 (slice_range words 93 109))
    (number_of w64 (slice_range words 110 126))

abbrev pub head_if : Option (List ℕ) → Option ℕ → Option ℕ → Option ℕ → Option Line
head_if (Some bay) (Some base) (Some next) (Some granted) = Some (Head bay base next granted)
head_if _ _ _ _ = None

unfoldable pub head_in : List ℕ → Option Line
head_in words =
    if length words == 119
    then head_if (hash_of (slice_range words 4 68)) (number_of w64 (slice_range words 69 85)) (number_of w64 (slice_range words 86 102))
    (number_of w64 (slice_range words 103 119))
    else None

abbrev pub hold_if : Option ℕ → Option Entry → Option Line
hold_if (Some ask) (Some entry) = Some (Hold ask entry)
hold_if _ _ = None

unfoldable pub hold_in : List ℕ → Option Line
hold_in words = if length words == 148 then hold_if (number_of w64 (slice_range words 5 21)) (entry_of (slice_range words 22 148)) else None

abbrev pub back_if : Option ℕ → Option ℕ → Option Line
back_if (Some from) (Some to) = Some (Back from to)
back_if _ _ = None

unfoldable pub back_in : List ℕ → Option Line
back_in words = if length words == 38 then back_if (number_of w64 (slice_range words 5 21)) (number_of w64 (slice_range words 22 38)) else None

abbrev pub end_if : Option ℕ → Option How → Option ℕ → Option Line
end_if (Some ask) (Some how) (Some at) = Some (End ask how at)
end_if _ _ _ = None

unfoldable pub end_in : List ℕ → Option Line
end_in words =
    if nat_lt (length words) 38
    then None
    else end_if (number_of w64 (slice_range words 4 20)) (how_of (slice_range words 21 (length words - 17))) (number_of w64 (drop (length words - 16) words))

abbrev pub is_text : List ℕ → Bool
is_text text = nat_le (length text) 500 && list_all is_plain text

abbrev pub note_if : Option ℕ → List ℕ → Option Line
note_if (Some ask) text = if is_text text then Some (Note ask text) else None
note_if None text = None

unfoldable pub note_in : List ℕ → Option Line
note_in words = if nat_lt (length words) 22 then None else note_if (number_of w64 (slice_range words 5 21)) (drop 22 words)

-- ---- by its first word

unfoldable pub line_in : List ℕ → Option Line
line_in words =
    if bytes_eq (take 4 words) (codes "bay ") then head_in words
    else (if bytes_eq (take 5 words) (codes "hold ") then hold_in words
    else (if bytes_eq (take 5 words) (codes "back ") then back_in words
    else (if bytes_eq (take 4 words) (codes "end ") then end_in words
    else (if bytes_eq (take 5 words) (codes "note ") then note_in words else None))))

-- the line, if these are its words
abbrev pub checked : List ℕ → Option Line → Option Line
checked words None = None
checked words (Some line) = if bytes_eq words (body line) then Some line else None

unfoldable pub line_of : List ℕ → Option Line
line_of words = checked words (line_in words)

-- ---- the next line

abbrev pub same : Bool → Bool → Bool
same true b = b
same false b = not b

abbrev pub is_line_feed : ℕ → Bool
is_line_feed byte = byte == 10

-- in its place: a head is the first line, and no other
abbrev pub placed : Bool → List ℕ → Option Line → Option (Line × List ℕ)
placed first sum None = None
placed first sum (Some line) = if same (is_head line) first then Some (line, sum) else None

-- the line that has these words, behind one with this sum, and its own sum
unfoldable pub next_of : List ℕ → Bool → List ℕ → Option (Line × List ℕ)
next_of before first words =
    if nat_lt (length words) 17 then None
    else (let sum : List ℕ = sum_of before (drop 17 words) in
    if bytes_eq (take 17 words) (encode_lower sum ++ codes " ") then placed first sum (line_of (drop 17 words)) else None)
