-- For readers: what a handle that C keeps says of what it has.
use Rattle.std.specs.Prelude.{◌≡◌, ℕ, ◌*◌, Option}
use Rattle.box_parts.specs.Owned.{holds}
use Rattle.bay_c.specs.declared.inside.Inside.{Inside}

-- the word of a handle that has something
abbrev pub open_mark : ℕ
open_mark = 7809631472573100081

-- the word of a handle while a call is made on it
abbrev pub busy_mark : ℕ
busy_mark = 7809631390650430329

-- the word says whether the handle has something; no call is under way
abbrev pub IsTied : ℕ → Option Inside → Type 0
IsTied live held = live ≡ holds held * open_mark
