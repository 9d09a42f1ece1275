-- Where columns begin. Few columns are 100 units wide, and all that is told of an entry is written there; more are narrower.
use Rattle.std.specs.Prelude.{ℕ, Bool, nat_le, ◌*◌, ◌/◌, if◌then◌else◌}

-- there is room for texts: all columns are at most 3800 units wide so
abbrev pub has_room : ℕ → Bool
has_room columns = nat_le columns 38

-- where a column begins, of this many: 24 units behind the one before it, or all in 3800 units
unfoldable pub left_of : ℕ → ℕ → ℕ
left_of columns column = if has_room columns then 100 * column else (if nat_le columns 158 then 24 * column else 3800 * column / columns)
