-- For readers: what is drawn of a session, in the row of its job. Heights are those in the row. What isn't over is drawn up to the last round.
use Rattle.std.specs.Prelude.{ℕ, ◌+◌, ◌*◌, nat_le, List, [], ◌++◌, codes, decimal, length, Option, None, Some, if◌then◌else◌}
use Rattle.round_picture.specs.Scale.{place, width}

-- up to the round of what ends it, or up to the last
abbrev pub until : ℕ → Option ℕ → ℕ
until last (Some k) = k
until last None = last

-- a box from one round to another
unfoldable pub box_of : ℕ → ℕ → ℕ → List ℕ
box_of last a b = codes "<rect x=\"" ++ decimal (place last a) ++ codes "\" y=\"4\" width=\"" ++ decimal (width last a b) ++ codes "\" height=\"16\""

-- while it is thirsty: dashed
unfoldable pub thirsty_box : ℕ → ℕ → ℕ → List ℕ
thirsty_box last a b = box_of last a b ++ codes " fill=\"#fff4d9\" stroke=\"#c77f00\" stroke-dasharray=\"3 2\"/>"

-- while it holds its instruments: filled
unfoldable pub holding_box : ℕ → ℕ → ℕ → List ℕ
holding_box last a b = box_of last a b ++ codes " fill=\"#56b4e9\" stroke=\"#222\"/>"

-- its number, if the box has room for it: a digit is 6 units wide
abbrev pub room_for : ℕ → ℕ
room_for s = 6 + 6 * length (decimal s)

unfoldable pub number_text : ℕ → ℕ → ℕ → ℕ → List ℕ
number_text last s a b =
    if nat_le (room_for s) (width last a b)
    then codes "<text x=\"" ++ decimal (place last a + 3) ++ codes "\" y=\"16\">" ++ decimal s ++ codes "</text>" else []

-- a cross at the round in which it was given up
unfoldable pub cross : ℕ → ℕ → List ℕ
cross last k = codes "<path d=\"M" ++ decimal (place last k) ++ codes " 12m-5-5l10 10m0-10l-10 10\" fill=\"none\" stroke=\"#d00000\" stroke-width=\"2\"/>"

-- of a session that was thirsty in round a
abbrev pub shapes : ℕ → ℕ → ℕ → Option ℕ → Option ℕ → Option ℕ → List ℕ
shapes last s a (Some b) done _ = thirsty_box last a b ++ holding_box last b (until last done) ++ number_text last s b (until last done)
shapes last s a None _ (Some g) = thirsty_box last a g ++ number_text last s a g ++ cross last g
shapes last s a None _ None = thirsty_box last a last ++ number_text last s a last
