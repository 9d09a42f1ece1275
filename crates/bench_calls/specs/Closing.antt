-- For readers: how a lab is closed, and what is then in the handle and in the caller's memory.
use Rattle.std.specs.Prelude.{◌≡◌, ◌⊎◌, ℕ, List, Option, Some, None, Ok}
use Rattle.lab_program.specs.declared.faults.RunFault.TheVariants.{NoMemory}
use Rattle.lab_program.specs.Faults.{status_of}
use Rattle.live_lab.specs.declared.print.Printed.{Printed}
use Rattle.live_lab.specs.Prints.{IsPrint, HasReport, HasSomeReport}
use Rattle.c_tells.specs.declared.told.Told.{Told}
use Rattle.c_tells.specs.Telling.{Delivers, Fails}
use Rattle.bench_calls.specs.declared.inside.Inside.{Inside}
use Rattle.bench_calls.specs.declared.inside.Inside.TheVariants.{Open, Reported}

-- the text of the report, and then what is told of it: it stands in the room, or there is no room for it (6)
abbrev pub Reports : Printed → List ℕ → List ℕ → Told → ℕ → Type 0
Reports p room room' told' status = Delivers (status_of (Ok p.outcome)) p.text.items room room' told' status

-- The report of an open lab is in the handle now, and is given; or memory was refused (5), and the handle has the lab as it was.
-- A report is given again. Of every report that is given the headline holds, whatever the calls were: of that of an open lab as a report of its own plan,
-- and of one that is given again it is known that there is such a run.
abbrev pub ClosesInside : Inside → Inside → List ℕ → List ℕ → Told → Told → ℕ → Type 0
ClosesInside (Open a) new room room' told told' status =
    ((p : Printed) × IsPrint a.world p.text.items p.outcome × HasReport a.world.plan p.text.items p.outcome × (new ≡ Reported p)
    × Reports p room room' told' status)
    ⊎ ((new ≡ Open a) × Fails NoMemory room room' told' status)
ClosesInside (Reported p) new room room' told told' status =
    ∥ HasSomeReport p.text.items p.outcome ∥₁ × (new ≡ Reported p) × Reports p room room' told' status

-- so what the handle has was closed; or it has nothing, and nothing changed (7)
abbrev pub Closes : Option Inside → Option Inside → List ℕ → List ℕ → Told → Told → ℕ → Type 0
Closes (Some old) new room room' told told' status = (h : Inside) × (new ≡ Some h) × ClosesInside old h room room' told told' status
Closes None new room room' told told' status = (status ≡ 7) × (new ≡ None) × (room' ≡ room) × (told' ≡ told)

-- what the handle had is gone (0); or it has nothing (7)
abbrev pub Frees : Option Inside → Option Inside → ℕ → Type 0
Frees (Some old) new status = (status ≡ 0) × (new ≡ None)
Frees None new status = (status ≡ 7) × (new ≡ None)
