-- For readers: what the calls do to the line.
use Rattle.std.specs.Prelude.{◌≡◌, ℕ, ◌+◌, min, Option, Some, slice_set}
use Rattle.late_thirst.specs.declared.asker.Asker.{Asker}
use Rattle.late_thirst.specs.Outside.{LineView}
use Rattle.late_thirst.specs.LettingIn.{LetsIn}

abbrev pub with_most : LineView → ℕ → LineView
with_most x most = record { places = x.places; calls = x.calls; most = most }

-- one call more
abbrev pub counted : LineView → LineView
counted x = record { places = x.places; calls = min (x.calls + 1) 18446744073709551615; most = x.most }

-- this is the job's place now
abbrev pub with_place : LineView → ℕ → Option Asker → LineView
with_place x j a = record { places = slice_set x.places j a; calls = x.calls; most = x.most }

-- the place of one that asks now
abbrev pub asking : LineView → ℕ → Option Asker
asking x needs = Some (record { since = x.calls; needs = needs; passed = 0 })

-- one letting-in, by which the rest stays the same
pub record LineLetsIn (ready used : ℕ) (old : LineView) (set : ℕ) (new : LineView) : Type 0 where
  pub places : LetsIn old.most ready used old.places set new.places
  pub calls : new.calls ≡ old.calls
  pub most : new.most ≡ old.most
