-- For readers: what a lab keeps, and what was taken of it.
use Rattle.std.specs.Prelude.{◌≡◌, ℕ, ◌-◌, ◌*◌, ◌≤◌, Bool, true, false, leb, List, [], length, take}
use Rattle.legal_steps.specs.declared.event.Event.{Event}
use Rattle.interleaving.specs.Kept.{TapeView}
use Rattle.interleaving.specs.World.{WorldView}
use Rattle.live_lab.specs.Labs.{LabView, fresh_lab, with_kept}
use Rattle.lab_journal.specs.Rooms.{room_for}
use Rattle.lab_journal.specs.declared.written.NotTaken.{NotTaken}
use Rattle.lab_journal.specs.declared.written.NotTaken.TheVariants.{NoMemory, NotKept, NotWhole}

-- the events that were taken so far: those before the ones that are kept
abbrev pub taken : WorldView → List Event
taken w = take (length w.past - length w.kept.events) w.past

-- the lab after all that is kept was taken; nothing else changed
abbrev pub without_kept : LabView → LabView
without_kept x = with_kept x (record x.world.kept { events = [] })

-- a lab of the plan before its first event, with room for the steps of two calls
abbrev pub IsOpenedKept : LabView → Type 0
IsOpenedKept x = (room : ℕ) × (room_for x.world.plan 0 ≤ room) × (x ≡ with_kept (fresh_lab x.world.plan) (record { room = room; events = []; whole = true }))

-- at least half of the room is free
abbrev pub has_room : TapeView → Bool
has_room kept = leb (2 * length kept.events) kept.room

-- why nothing is taken: there was no memory; the lab isn't kept; or an event was left out for want of room
abbrev pub IsWhyNotTaken : TapeView → NotTaken → Type 0
IsWhyNotTaken kept NoMemory = Unit {0}
IsWhyNotTaken kept NotKept = kept.room ≡ 0
IsWhyNotTaken kept NotWhole = kept.whole ≡ false
