-- For readers: all that wait end.
use Rattle.std.specs.Prelude.{◌≡◌, ◌⊎◌, ℕ, zero, suc}
use Rattle.bay_book.specs.declared.ask.End.TheVariants.{Stopped}
use Rattle.bay_book.specs.declared.ask.Stage.TheVariants.{Waits}
use Rattle.bay_book.specs.Asks.{ask_at}
use Rattle.bay.specs.Cores.{Core, ended}

-- the ask at this place is over from this moment on, if it waited
abbrev pub StopsOne : ℕ → ℕ → Core → Core → Type 0
StopsOne now place old new =
    (((ask_at old.book.asks place).stage ≡ Waits) × (new ≡ ended old place Stopped now)) ⊎ (((ask_at old.book.asks place).stage ≡ Waits → ⊥) × (new ≡ old))

-- so are the first n
abbrev pub StopsTo : ℕ → ℕ → Core → Core → Type 0
StopsTo now zero old new = new ≡ old
StopsTo now (suc n) old new = (mid : Core) × StopsTo now n old mid × StopsOne now n mid new
