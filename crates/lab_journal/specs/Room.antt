-- For readers: room for the steps of longer sessions.
use Rattle.std.specs.Prelude.{◌≡◌, ◌⊎◌, ℕ, ◌<◌, ◌≤◌, true, false, List, [], length}
use Rattle.interleaving.specs.Kept.{TapeView}
use Rattle.live_lab.specs.Labs.{LabView, with_kept}
use Rattle.lab_journal.specs.Rooms.{room_for, longest_in, room_in}
use Rattle.lab_journal.specs.declared.more_room.NoRoom.{NoRoom}
use Rattle.lab_journal.specs.declared.more_room.NoRoom.TheVariants.{NoMemory, HasSteps}

-- how much room the lab has to have for its own sessions and those of the text
abbrev pub room_with : LabView → List ℕ → ℕ
room_with x text = room_for x.world.plan (longest_in text)

-- The lab is as it was: it keeps nothing, or it has room enough. Or it keeps its steps, of which all were taken, and now has room enough for them, and at
-- least as much as before
abbrev pub HasMoreRoom : List ℕ → LabView → LabView → Type 0
HasMoreRoom text a b =
    ((b ≡ a) × ((room_in a.world.kept ≡ 0) ⊎ (room_with a text ≤ room_in a.world.kept)))
    ⊎ ((room : ℕ) × (room_with a text ≤ room) × (0 < a.world.kept.room) × (a.world.kept.room ≤ room) × (a.world.kept.events ≡ []) × (a.world.kept.whole ≡ true)
    × (b ≡ with_kept a (record { room = room; events = []; whole = true })))

-- why there is no more, though there has to be: there was no memory; or some steps are kept that weren't taken yet, or one was left out for want of room
abbrev pub IsWhy : TapeView → NoRoom → Type 0
IsWhy kept NoMemory = 0 < kept.room
IsWhy kept HasSteps = (0 < length kept.events) ⊎ (kept.whole ≡ false)

-- the lab keeps its steps, has less room than it has to have, and this is why it gets no more
abbrev pub IsWhyNoRoom : List ℕ → LabView → NoRoom → Type 0
IsWhyNoRoom text x why = (0 < room_in x.world.kept) × (room_in x.world.kept < room_with x text) × IsWhy x.world.kept why
